use Rattle.truth.proofs.Sound.{truth_drafted}
use Rattle.docket.proofs.draft.Draft.over.Goals as goal

pub returns-clause-truth : goal.returns-clause-truth
returns-clause-truth g c = truth_drafted (g.M.Model.table c.args.model) (g.M.Model.facts c.args.model)
