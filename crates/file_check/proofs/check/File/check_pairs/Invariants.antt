use Rattle.std.proofs.Common.{◌≡◌, ℕ, ◌+◌, ◌-◌, ◌*◌, ◌<◌, ◌≤◌, length}
use Rattle.file_check.specs.Check.{block_end, pairs_at}
use Rattle.file_check.specs.Places.{pair_place}
use Rattle.file_check.proofs.check.File.check_pairs.Given as goal

abbrev pub invariant-loop-state : goal.invariant-loop-state
invariant-loop-state l =
    (pairs_at l.self.bytes.now 8 (8 + 4 * l.self.header.states) l.self.header.states ≡ pairs_at l.self.bytes.now (pair_place l.state) l.from (l.self.header.states - l.state))
    × ((s : ℕ) → s < l.state → block_end l.self.bytes.now (pair_place s) ≤ length l.self.bytes.now)
