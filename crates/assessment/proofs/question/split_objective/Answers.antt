use Rattle.std.proofs.Common.{◌≡◌, length, get_or, drop, ap, arith, w64, SFits, rules}
use Rattle.std.proofs.lemmas.List.{drop-drop}
use Rattle.std.proofs.lemmas.Int.{to_z-of_z}
use Rattle.assessment.specs.Questions.{objective_size}
use Rattle.assessment.proofs.question.split_objective.Goals as goal

pub returns : goal.returns
returns c =
    let xs = c.args.bytes.now in
    let rest = c.in_ok-column.rest.now in
    let whole = c.in_ok-column.ensures.cases.0 in
    let bound = c.in_ok-bound.ensures.cases in
    let target = c.in_ok-target.ensures.cases in
    let column : get_or xs 0 0 ≡ c.in_ok-column.column.now = ap (λ l. get_or l 0 0) whole in
    let behind_column : drop 1 xs ≡ rest = ap (drop 1) whole in
    let behind_bound : drop 3 xs ≡ drop 2 rest = ap (drop 3) whole in
    let behind_target : drop objective_size xs ≡ drop 10 rest = ap (drop objective_size) whole in
    let ten = drop-drop 8 2 rest in
    let z = c.from_le_bytes-2.result in
    let fits : SFits w64 z = search rules in
    let same = to_z-of_z w64 z fits in
    (omega (arith, ap length whole, target.2, bound.2), cc, cc)
