use Rattle.std.proofs.Common.{◌≡◌, ◌-◌}
use Rattle.file_check.specs.Check.{blocks_at}
use Rattle.file_check.specs.Places.{pair_place}
use Rattle.file_check.proofs.check.File.check_blocks.Given as goal

abbrev pub invariant-loop-state : goal.invariant-loop-state
invariant-loop-state l = blocks_at l.self.bytes.now l.self.header 8 l.self.header.states ≡ blocks_at l.self.bytes.now l.self.header (pair_place l.state) (l.self.header.states - l.state)
