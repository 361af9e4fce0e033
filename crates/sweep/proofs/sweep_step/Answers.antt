use Rattle.std.proofs.Common.{arith}
use Rattle.plans.specs.Sweep.{row_at}
use Rattle.sweep.proofs.Halves.{front_all}
use Rattle.sweep.proofs.sweep_step.Goals as goal

pub returns : goal.returns
returns g c =
    let a = c.args in
    let F = row_at g.U.Blend.mean g.D.Blend.mean (g.M.Model.table a.model.now) a.objectives.each.now a.objectives.weights.now a.step in
    front_all F c.states-states.result _ a.rows.now _ c.split_at_mut-here.result.0.now c.split_at_mut-here.result.1.now c.write_rows.new.rows (omega (arith, c.states-states.ensures, c.requires.room)) c.copy_within.ensures.after c.states-states.ensures c.split_at_mut-here.ensures.front_len c.split_at_mut-here.ensures.back c.write_rows.ensures
