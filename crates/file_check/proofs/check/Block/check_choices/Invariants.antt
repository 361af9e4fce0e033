use Rattle.std.proofs.Common.{◌≡◌, ◌-◌}
use Rattle.file_check.specs.Check.{choices_at}
use Rattle.file_check.proofs.check.Block.check_choices.Given as goal

abbrev pub invariant-loop : goal.invariant-loop
invariant-loop l = choices_at l.self.bytes.now l.self.header l.self.end l.from 8 ≡ choices_at l.self.bytes.now l.self.header l.self.end l.at (8 - l.counter)
