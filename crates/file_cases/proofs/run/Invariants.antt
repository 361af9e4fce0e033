use Rattle.std.proofs.Common.{length}
use Rattle.file_cases.proofs.run.Given as goal

abbrev pub decreases-loop-cases : goal.decreases-loop-cases
decreases-loop-cases l = length l.cases
