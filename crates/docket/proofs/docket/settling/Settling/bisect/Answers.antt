use Rattle.std.proofs.Common.{◌-◌, true, false, sym, refl, subst, arith}
use Rattle.std.proofs.lemmas.Bool.{le-ltb, and_left, and_right}
use Rattle.docket.specs.Stages.{stage}
use Rattle.docket.proofs.Settling.{Left, middle, ended, room_left, halved}
use Rattle.docket.proofs.docket.settling.Settling.bisect.Goals as goal

pub loop-high-init : goal.loop-high-init
loop-high-init g c = record { steps = 1000; enough = omega arith; leads = refl; room = c.requires.room; rising = omega arith; small = omega arith }

pub overflow_sub-high : goal.overflow_sub-high
overflow_sub-high g c = omega (arith, c.loop-high.invariant.rising)

pub overflow_add-middle : goal.overflow_add-middle
overflow_add-middle g c = omega (arith, c.loop-high.invariant.rising, c.loop-high.invariant.small)

pub price_toward-requires : goal.price_toward-requires
price_toward-requires g c =
    let h = c.loop-high.invariant in
    record { room = room_left h c.loop-high-test.true (sym c.if-is_open.ensures); small = omega (arith, h.rising, h.small) }

pub loop-high-preserved-then-price_toward : goal.loop-high-preserved-then-price_toward
loop-high-preserved-then-price_toward g c =
    let l = c.loop-high in
    let p = c.if-price_toward.ensures in
    subst (λ s. Left (stage c.args.self.now) s l.low (middle l.low l.high)) (sym p.after) (halved l.invariant c.loop-high-test.true (sym c.if-is_open.ensures) true p.answer)

pub loop-high-preserved : goal.loop-high-preserved
loop-high-preserved g c =
    let l = c.loop-high in
    let p = c.if-price_toward.ensures in
    subst (λ s. Left (stage c.args.self.now) s (middle l.low l.high) l.high) (sym p.after) (halved l.invariant c.loop-high-test.true (sym c.if-is_open.ensures) false p.answer)

pub returns-else-is_open : goal.returns-else-is_open
returns-else-is_open g c = ended c.loop-high.invariant (and_right _ _ (sym c.if-is_open.ensures))

pub returns-after-loop-high : goal.returns-after-loop-high
returns-after-loop-high g c = ended c.loop-high.invariant (and_left _ _ (le-ltb 1 (c.loop-high.high - c.loop-high.low) c.loop-high-test.false))
