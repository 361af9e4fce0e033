use Rattle.std.proofs.Common.{◌≡◌, ℕ, ◌+◌, ◌≤◌, eqb, List, [], ◌∷◌, length, drop, sym, ap, ◌∙◌, arith, length-drop}
use Rattle.std.specs.Bool.{then_some}
use Rattle.assessment.specs.Questions.{objective_size, question_size, objective_at}
use Rattle.assessment.proofs.Bytes.{objective_behind}
use Rattle.assessment.proofs.question.split_pair.Goals as goal

-- what is left behind two objectives
rest_none : (xs ys zs : List ℕ) → objective_size ≤ length xs → ys ≡ drop objective_size xs → objective_size ≤ length ys → zs ≡ drop objective_size ys →
    eqb (length xs) question_size ≡ eqb (length zs) 0
rest_none xs ys zs h e k f =
    let l = ap length e ∙ length-drop objective_size xs in
    let m = ap length f ∙ length-drop objective_size ys in
    let whole : (n m : ℕ) → n ≡ m + question_size → eqb n question_size ≡ eqb m 0 = λ n m p. grind arith in
    whole (length xs) (length zs) (omega arith)

pub returns : goal.returns
returns c =
    let xs = c.args.bytes.now in
    let first = c.in_ok-first.ensures in
    let second = c.in_ok-second.ensures in
    let none = c.is_empty.ensures ∙ sym (rest_none xs _ _ first.0 first.2 second.0 second.2) in
    let behind = second.1 ∙ ap (λ ys. objective_at ys 0) first.2 ∙ objective_behind xs in
    c.then_some.ensures ∙ (λ i. then_some (none i) (first.1 i ∷ behind i ∷ []))
