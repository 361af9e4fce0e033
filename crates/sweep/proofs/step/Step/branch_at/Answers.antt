use Rattle.sweep.proofs.Asking.{branch_read}
use Rattle.sweep.proofs.Worths.{usual_at}
use Rattle.sweep.proofs.step.Step.branch_at.Goals as goal

pub returns : goal.returns
returns g c =
    let a = c.args in
    let read = branch_read (g.M.Model.table a.self.now.model.now) a.state a.choice a.branch c.branch-self.result c.unwrap_or.result c.branch-self.ensures c.unwrap_or.ensures in
    record { read = read; usual = usual_at a.self.now a.state a.choice a.branch c.unwrap_or.result read }
