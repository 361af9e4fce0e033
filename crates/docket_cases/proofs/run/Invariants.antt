use Rattle.std.proofs.Common.{length}
use Rattle.docket_cases.proofs.run.Given as goal

abbrev pub decreases-loop-script : goal.decreases-loop-script
decreases-loop-script l = length l.script.rest.now
