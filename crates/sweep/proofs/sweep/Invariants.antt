use Rattle.std.proofs.Common.{◌≡◌, ℕ, ◌-◌, ◌*◌, List, ◌++◌, length, drop}
use Rattle.plans.specs.declared.Row.{Row}
use Rattle.plans.specs.Plans.{horizon}
use Rattle.plans.specs.Sweep.{rows}
use Rattle.sweep.proofs.sweep.Given as goal

abbrev pub invariant-loop-step : goal.invariant-loop-step
invariant-loop-step g l =
    let t = g.M.Model.table l.model in
    let R : ℕ → List Row = rows g.U.Blend.mean g.D.Blend.mean t l.objectives.each.now l.objectives.weights.now in
    let n = horizon l.objectives.each.now - l.step in
    l.rows ≡ R n ++ (R (n - 1) ++ drop (2 * length t.states) l.initial.rows)
