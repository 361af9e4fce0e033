use Rattle.std.proofs.Common.{◌≡◌, ℕ, ◌<◌, get_or}
use Rattle.plans.specs.Sweep.{no_row}
use Rattle.sweep.specs.Made.{row_of}
use Rattle.sweep.proofs.step.Step.write_rows.Given as goal

abbrev pub invariant-loop-state : goal.invariant-loop-state
invariant-loop-state g l = (k : ℕ) → k < l.state → get_or l.rows k no_row ≡ row_of l.self g.U.Blend.mean g.D.Blend.mean k
