use Rattle.std.proofs.Common.{◌≡◌, ℕ, ◌-◌, ◌*◌, true, List, ◌++◌, length, drop, Some, ap, ◌∙◌, rules, arith}
use Rattle.std.proofs.lemmas.Bool.{and_from, le-leb}
use Rattle.plans.specs.declared.Objective.{Objective}
use Rattle.plans.specs.declared.Row.{Row}
use Rattle.plans.specs.Plans.{horizon}
use Rattle.plans.specs.Sweep.{zero_row, rows}
use Rattle.sweep.specs.Swept.{asked, askable}
use Rattle.sweep.proofs.Halves.{filled}
use Rattle.sweep.proofs.Turns.{start_beyond, start_halves, turn_small, turn_halves, first_row}
use Rattle.sweep.proofs.sweep.Goals as goal

pub loop-step-init : goal.loop-step-init
loop-step-init g c =
    let a = c.args in
    let o = c.in_ok-objectives.objectives in
    start_halves g.U.Blend.mean g.D.Blend.mean (g.M.Model.table a.model.now) o.each.now o.weights.now c.states-states.result a.rows.now _ c.states-states.ensures (filled (2 * c.states-states.result) zero_row a.rows.now c.fill.new.self c.if-rows-states.false (c.fill.ensures.after (λ y e. search rules))) _ (omega (arith, c.horizon-step.ensures))

pub sweep_step-requires-clause-small : goal.sweep_step-requires-clause-small
sweep_step-requires-clause-small g c =
    let a = c.args in
    let u = g.U.Blend in
    let d = g.D.Blend in
    let o = c.in_ok-objectives.objectives in
    turn_small u.mean d.mean (g.M.Model.table a.model.now) o.each.now o.weights.now (horizon o.each.now - c.loop-step.step) _ c.loop-step.rows c.loop-step.invariant (g.M.Model.facts a.model.now) u.lawful d.lawful o.asked (omega arith)

pub loop-step-preserved : goal.loop-step-preserved
loop-step-preserved g c =
    let o = c.in_ok-objectives.objectives in
    let step = c.loop-step.step in
    let k = horizon o.each.now in
    c.sweep_step.ensures ∙ turn_halves g.U.Blend.mean g.D.Blend.mean (g.M.Model.table c.args.model.now) o.each.now o.weights.now (k - step) _ c.loop-step.rows c.loop-step.invariant (step - 1) (omega (arith, c.loop-step-test.true, c.loop-step.auto.step, c.horizon-step.ensures)) (k - (step - 1)) (omega (arith, c.loop-step-test.true, c.loop-step.auto.step, c.horizon-step.ensures))

pub returns : goal.returns
returns g c =
    let a = c.args in
    let up = g.U.Blend.mean in
    let down = g.D.Blend.mean in
    let t = g.M.Model.table a.model.now in
    let os = a.objectives.now in
    let ws = a.weights.now in
    let n = c.states-states.result in
    let new = c.in_ok-objectives.ensures in
    let now = c.fill.new.self ++ drop (2 * n) a.rows.now in
    let rest = drop (2 * length t.states) now in
    let R : List Objective → List ℕ → ℕ → List Row = rows up down t in
    let both : List Objective → List ℕ → ℕ → List Row = λ os ws n. R os ws n ++ (R os ws (n - 1) ++ rest) in
    let zero : horizon os - c.loop-step.step ≡ horizon os = omega (arith, c.loop-step-test.false) in
    let all : c.loop-step.rows ≡ both os ws (horizon os) =
    c.loop-step.invariant ∙ ap (λ os. both os c.in_ok-objectives.objectives.weights.now (horizon os - c.loop-step.step)) new.1 ∙ ap (λ ws. both os ws (horizon os - c.loop-step.step)) new.2 ∙ ap (both os ws) zero in
    let old = start_beyond up down t os ws n a.rows.now now c.states-states.ensures (filled (2 * n) zero_row a.rows.now c.fill.new.self c.if-rows-states.false (c.fill.ensures.after (λ y e. search rules))) in
    let at = first_row up down t os ws (horizon os) rest c.loop-step.rows all (g.M.Model.facts a.model.now).first_in c.first.result c.first.ensures in
    let room = le-leb (2 * length t.states) (length a.rows.now) (omega (arith, c.if-rows-states.false, c.states-states.ensures)) in
    let yes : askable up down t os ws a.rows.now ≡ true = and_from (asked os ws) _ new.0 room in
    record { rows = rw yes (all ∙ ap (λ (r : List Row). R os ws (horizon os) ++ (R os ws (horizon os - 1) ++ r)) old); answer = rw yes (ap Some at) }
