use Rattle.std.proofs.Common.{◌≤◌, length}
use Rattle.docket_cases.proofs.run_case.Given as goal

abbrev pub invariant-loop-bytes : goal.invariant-loop-bytes
invariant-loop-bytes l = length l.script.rest.now ≤ length l.initial.script.rest.now

abbrev pub decreases-loop-bytes : goal.decreases-loop-bytes
decreases-loop-bytes l = length l.script.rest.now

abbrev pub invariant-loop-bytes-then-not-is_empty-2 : goal.invariant-loop-bytes-then-not-is_empty-2
invariant-loop-bytes-then-not-is_empty-2 l = length l.script.rest.now ≤ length l.initial.script.rest.now

abbrev pub decreases-loop-bytes-then-not-is_empty-2 : goal.decreases-loop-bytes-then-not-is_empty-2
decreases-loop-bytes-then-not-is_empty-2 l = length l.script.rest.now
