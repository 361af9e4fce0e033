use Rattle.std.proofs.Common.{arith}
use Rattle.std.proofs.lemmas.List.FromFn.{fill_by_all}
use Rattle.plans.specs.Sweep.{no_row}
use Rattle.sweep.specs.Made.{row_of}
use Rattle.sweep.proofs.step.Step.write_rows.Goals as goal

pub returns : goal.returns
returns g c =
    fill_by_all (row_of c.args.self.now g.U.Blend.mean g.D.Blend.mean) c.loop-state.rows _ no_row c.loop-state.auto.rows (λ k l. c.loop-state.invariant k (omega arith))
