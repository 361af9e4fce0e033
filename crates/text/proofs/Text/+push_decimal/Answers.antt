use Rattle.std.proofs.Common.{◌≡◌, ℕ, ◌+◌, ◌/◌, ◌%◌, ◌<◌, List, [], ◌∷◌, decimal, sym, ap, ◌∙◌, arith}
use Rattle.std.proofs.lemmas.Fmt.{decimal_digit, decimal_step}
use Rattle.text.specs.Texts.{text_of, followed_by}
use Rattle.text.proofs.Followed.{followed_on}
use Rattle.text.proofs.Text.+push_decimal.Goals as goal
use Rattle.text.proofs.Text.+push_decimal.Goals.{then-number-ge10, else-number-ge10}

abbrev last_digit : ℕ → List ℕ
last_digit n = (48 + n % 10) ∷ []

only_digit : (n : ℕ) → n < 10 → last_digit n ≡ decimal n
only_digit n h = let m : n % 10 ≡ n = omega arith in ap (λ k. (48 + k) ∷ []) m ∙ sym (decimal_digit n h)

pub returns : goal.returns
returns t c =
    let text = text_of c.args.self.now in
    let number = c.args.number in
    elim c.if-number-ge10.branch [
      | then-number-ge10 w ↦
          followed_on text (decimal (number / 10)) (last_digit number) (ap text_of w.self-is ∙ w.push_decimal.ensures) c.extend_from_slice.ensures
          ∙ ap (followed_by text) (sym (decimal_step number w.if-number-ge10.true (omega arith)))
      | else-number-ge10 w ↦
          c.extend_from_slice.ensures ∙ ap (λ s. followed_by (text_of s) (last_digit number)) w.self-is ∙ ap (followed_by text) (only_digit number w.if-number-ge10.false)
    ]
