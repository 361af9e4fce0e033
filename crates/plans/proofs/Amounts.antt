-- How large sums and products of amounts get. Assumes nothing.
use Rattle.std.proofs.Common.{◌≡◌, ℕ, suc, ◌+◌, ◌*◌, ◌≤◌, ℤ, pos, negsuc, ◌+ℤ◌, ◌*ℤ◌, neg_ℤ, nat_abs, refl, add-mul, mul-le-mul, arith}
use Rattle.std.proofs.lemmas.Int.{ints, unsigned_abs-mul}
use Rattle.plans.specs.Blends.{more_by}

pub natAbs_add : (a b : ℤ) → nat_abs (a +ℤ b) ≤ nat_abs a + nat_abs b
natAbs_add a b = omega (arith, ints)

pub natAbs_neg : (z : ℤ) → nat_abs (neg_ℤ z) ≡ nat_abs z
natAbs_neg z = omega (arith, ints)

pub product_within : (w : ℕ) (z : ℤ) (W Z : ℕ) → w ≤ W → nat_abs z ≤ Z → nat_abs (pos w *ℤ z) ≤ W * Z
product_within w z W Z p q = rw (unsigned_abs-mul (pos w) z) (mul-le-mul p q)

-- weights up to n of amounts within ±A, and one more
pub more_within : (A : ℕ) (z : ℤ) (n w : ℕ) (a : ℤ) → nat_abs z ≤ n * A → nat_abs a ≤ A → nat_abs (more_by z w a) ≤ (n + w) * A
more_within A z n w a p q =
    let same : w ≤ w = omega arith in
    omega (arith, natAbs_add z (pos w *ℤ a), product_within w a w A same q, add-mul n w A)
