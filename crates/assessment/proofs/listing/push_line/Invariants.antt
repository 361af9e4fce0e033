use Rattle.std.proofs.Common.{◌≡◌, drop}
use Rattle.std.specs.List.{flat_map}
use Rattle.text.specs.Texts.{text_of, followed_by}
use Rattle.assessment.proofs.Lines.{behind}
use Rattle.assessment.proofs.listing.push_line.Given as goal

abbrev pub invariant-loop-number : goal.invariant-loop-number
invariant-loop-number l = followed_by (text_of l.text) (flat_map behind (drop l.number-index l.rest)) ≡ followed_by (text_of l.initial.text) (flat_map behind l.rest)
