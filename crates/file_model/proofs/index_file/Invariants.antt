use Rattle.std.proofs.Common.{◌≡◌, map}
use Rattle.std.specs.List.{range_with_len}
use Rattle.few.specs.Views.{listed}
use Rattle.file_check.specs.Places.{choice_starts}
use Rattle.file_model.proofs.index_file.Given as goal

abbrev pub invariant-loop-state : goal.invariant-loop-state
invariant-loop-state l = map listed (listed l.index) ≡ map (choice_starts l.bytes) (range_with_len 0 l.state)
