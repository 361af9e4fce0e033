use Rattle.std.proofs.Common.{◌≡◌, ◌+◌, ◌-◌, ◌*◌, ◌≤◌}
use Rattle.file_check.specs.Check.{branches_at}
use Rattle.file_check.proofs.check.Block.check_branches.Given as goal

abbrev pub invariant-loop-i : goal.invariant-loop-i
invariant-loop-i l =
    (l.sum ≤ 65535 * l.i)
    × (branches_at l.self.bytes.now l.self.header l.self.end l.from l.count 0 ≡ branches_at l.self.bytes.now l.self.header l.self.end (l.from + l.i * l.size) (l.count - l.i) l.sum)
