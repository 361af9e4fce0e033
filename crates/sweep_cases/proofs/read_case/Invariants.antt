use Rattle.std.proofs.Common.{◌≤◌, length}
use Rattle.sweep_cases.proofs.read_case.Given as goal

abbrev pub invariant-loop : goal.invariant-loop
invariant-loop l = length l.cases.now ≤ length l.initial.cases.now
