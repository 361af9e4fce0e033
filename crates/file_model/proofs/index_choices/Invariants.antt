use Rattle.std.proofs.Common.{◌≡◌, ◌-◌, ◌++◌, length}
use Rattle.few.specs.Views.{listed}
use Rattle.file_check.specs.Places.{starts_in}
use Rattle.file_model.proofs.index_choices.Given as goal

abbrev pub invariant-loop-at : goal.invariant-loop-at
invariant-loop-at l =
    starts_in l.bytes l.columns l.end l.from 8 ≡ listed l.starts ++ starts_in l.bytes l.columns l.end l.at (8 - length (listed l.starts))

abbrev pub decreases-loop-at : goal.decreases-loop-at
decreases-loop-at l = l.end - l.at
