use Rattle.figures.proofs.worked_figures.Goals as goal
use Rattle.figures.proofs.Worked.{worked}

pub returns : goal.returns
returns c = worked
