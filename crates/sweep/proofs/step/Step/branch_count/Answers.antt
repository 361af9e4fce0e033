use Rattle.sweep.proofs.Asking.{branches_read}
use Rattle.sweep.proofs.step.Step.branch_count.Goals as goal

pub returns : goal.returns
returns g c =
    let a = c.args in
    branches_read (g.M.Model.table a.self.now.model.now) a.state a.choice c.branches.result c.unwrap_or.result c.branches.ensures c.unwrap_or.ensures
