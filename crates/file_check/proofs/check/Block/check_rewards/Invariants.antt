use Rattle.std.proofs.Common.{◌≡◌, ◌+◌, ◌-◌, ◌*◌, ◌≤◌}
use Rattle.file_check.specs.Check.{rewards_at}
use Rattle.file_check.proofs.check.Block.check_rewards.Given as goal

abbrev pub invariant-loop-i : goal.invariant-loop-i
invariant-loop-i l =
    (1 ≤ l.i → l.from + 2 * l.i ≤ l.self.end)
    × (rewards_at l.self.bytes.now l.self.end l.from l.self.header.columns ≡ rewards_at l.self.bytes.now l.self.end (l.from + 2 * l.i) (l.self.header.columns - l.i))
