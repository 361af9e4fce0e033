use Rattle.truth.proofs.Sound.{truth, truth_drafted}
use Rattle.truth.proofs.truth.Goals as goal

pub returns-clause-truth : goal.returns-clause-truth
returns-clause-truth c = truth

pub returns-clause-truth_drafted : goal.returns-clause-truth_drafted
returns-clause-truth_drafted c = truth_drafted
