use Rattle.std.proofs.Common.{◌≡◌, true, false, [], ◌∷◌, ℤ, pos, negsuc, nat_abs, decimal, refl, ap, ◌∙◌, arith, w64, to_z, of_z}
use lib.Signed.{lt_z}
use Rattle.std.specs.Fmt.{signed_decimal}
use Rattle.std.proofs.lemmas.Int.{to_z-of_z}
use Rattle.std.proofs.lemmas.Bool.{ltb-true, true≢false}
use Rattle.text.specs.Texts.{text_of, followed_by}
use Rattle.text.proofs.Followed.{followed_on}
use Rattle.text.proofs.Text.push_signed.Goals as goal
use Rattle.text.proofs.Text.push_signed.Goals.{then-number-lt0, else-number-lt0}

below_zero : (z : ℤ) → lt_z z (pos 0) ≡ true → 45 ∷ decimal (nat_abs z) ≡ signed_decimal z
below_zero (pos n) t = absurd (omega (arith, ltb-true n 0 t))
below_zero (negsuc n) t = refl

from_zero : (z : ℤ) → lt_z z (pos 0) ≡ false → decimal (nat_abs z) ≡ signed_decimal z
from_zero (pos n) t = refl
from_zero (negsuc n) t = absurd (true≢false t)

pub returns : goal.returns
returns c =
    let text = text_of c.args.self.now in
    let number = to_z w64 (of_z w64 c.args.number) in
    let pushed = c.push_decimal.ensures ∙ ap (λ n. followed_by (text_of c.if-number-lt0.self) (decimal n)) c.unsigned_abs.ensures.value in
    elim c.if-number-lt0.branch [
      | then-number-lt0 w ↦
          followed_on text (45 ∷ []) (decimal (nat_abs number)) (ap text_of w.self-is ∙ w.push_str.ensures) pushed ∙ ap (followed_by text) (below_zero number w.if-number-lt0.true)
      | else-number-lt0 w ↦
          pushed ∙ ap (λ s. followed_by (text_of s) (decimal (nat_abs number))) w.self-is ∙ ap (followed_by text) (from_zero number w.if-number-lt0.false)
    ]
    ∙ ap (λ z. followed_by text (signed_decimal z)) (to_z-of_z w64 c.args.number c.ranges.number)
