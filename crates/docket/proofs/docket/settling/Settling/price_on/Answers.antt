use Rattle.std.proofs.Common.{true, false, length, sym, ap, ◌∙◌, subst, arith}
use Rattle.docket.specs.Stages.{stage, Room, after_prices, bisections}
use Rattle.docket.proofs.Settling.{on_is, room_between}
use Rattle.docket.proofs.docket.settling.Settling.price_on.Goals as goal

pub price_toward-requires : goal.price_toward-requires
price_toward-requires g c = record { room = omega (arith, ap length (on_is (stage c.args.self.now) true (sym c.if-is_open.ensures)), c.requires.room); small = omega arith }

pub bisect-requires : goal.bisect-requires
bisect-requires g c =
    record { room = subst (λ s. Room s (length (bisections s))) (sym c.price_toward.ensures.after) (room_between (stage c.args.self.now) (sym c.if-is_open.ensures) c.requires.room) }

pub returns-then-is_open : goal.returns-then-is_open
returns-then-is_open g c =
    let s = stage c.args.self.now in
    c.bisect.ensures ∙ ap (λ x. after_prices x (bisections x)) c.price_toward.ensures.after
    ∙ sym (ap (after_prices s) (on_is s true (sym c.if-is_open.ensures)))

pub returns-else-is_open : goal.returns-else-is_open
returns-else-is_open g c =
    let s = stage c.args.self.now in
    sym (ap (after_prices s) (on_is s false (sym c.if-is_open.ensures)))
