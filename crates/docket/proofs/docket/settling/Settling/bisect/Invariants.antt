use Rattle.std.proofs.Common.{◌-◌}
use Rattle.docket.specs.Stages.{stage}
use Rattle.docket.proofs.Settling.{Left}
use Rattle.docket.proofs.docket.settling.Settling.bisect.Given as goal

abbrev pub invariant-loop-high : goal.invariant-loop-high
invariant-loop-high g l = Left (stage l.initial.self) (stage l.self) l.low l.high

abbrev pub decreases-loop-high : goal.decreases-loop-high
decreases-loop-high g l = l.high - l.low
