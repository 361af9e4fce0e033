-- Signed sums of products at 64 bits, as the code has them. Assumes nothing.
use Rattle.std.proofs.Common.{◌≡◌, ℕ, ◌+◌, ◌^◌, ◌<◌, ◌≤◌, ℤ, ◌+ℤ◌, ◌*ℤ◌, nat_abs, ap, ◌∙◌, arith, w64, SFits, to_z, of_z}
use Rattle.std.proofs.lemmas.Int.{ints, to_z-of_z}
use Rattle.plans.proofs.Amounts.{natAbs_add}

pub fits_small : (z : ℤ) → nat_abs z < 2 ^ 63 → SFits w64 z
fits_small z h = omega (arith, ints)

-- what a callee is passed for x, which is z
pub passed_within : (x z : ℤ) (A : ℕ) → x ≡ z → nat_abs z ≤ A → A < 2 ^ 63 → nat_abs (to_z w64 (of_z w64 x)) ≤ A
passed_within x z A e h l =
    let s : SFits w64 x = fits_small x (omega (arith, ap nat_abs e)) in
    omega (arith, ap nat_abs (to_z-of_z w64 x s), ap nat_abs e)

-- x times y, which are w and z
module _ (x y w z : ℤ) (fx : SFits w64 x) (fy : SFits w64 y) (ex : x ≡ w) (ey : y ≡ z) (P : ℕ) (p : nat_abs (w *ℤ z) ≤ P) where
  product_is : to_z w64 (of_z w64 x) *ℤ to_z w64 (of_z w64 y) ≡ w *ℤ z
  product_is = ap (λ x. x *ℤ to_z w64 (of_z w64 y)) (to_z-of_z w64 x fx ∙ ex) ∙ ap (λ y. w *ℤ y) (to_z-of_z w64 y fy ∙ ey)

  -- and onto a number s whose bits are n
  module _ (n : ℕ) (s : ℤ) (Q : ℕ) (es : to_z w64 n ≡ s) (q : nat_abs s ≤ Q) (l : P + Q < 2 ^ 63) where
    sum_is : to_z w64 n +ℤ to_z w64 (of_z w64 (to_z w64 (of_z w64 x) *ℤ to_z w64 (of_z w64 y))) ≡ s +ℤ w *ℤ z
    sum_is = ap (λ a. a +ℤ to_z w64 (of_z w64 (to_z w64 (of_z w64 x) *ℤ to_z w64 (of_z w64 y)))) es ∙ ap (λ a. s +ℤ a) (ap (λ a. to_z w64 (of_z w64 a)) product_is ∙ to_z-of_z w64 (w *ℤ z) (fits_small (w *ℤ z) (omega arith)))

    pub sum_more : to_z w64 (of_z w64 (to_z w64 n +ℤ to_z w64 (of_z w64 (to_z w64 (of_z w64 x) *ℤ to_z w64 (of_z w64 y))))) ≡ s +ℤ w *ℤ z
    sum_more = ap (λ a. to_z w64 (of_z w64 a)) sum_is ∙ to_z-of_z w64 (s +ℤ w *ℤ z) (fits_small (s +ℤ w *ℤ z) (omega (arith, natAbs_add s (w *ℤ z))))
