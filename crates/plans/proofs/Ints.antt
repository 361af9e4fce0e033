-- A natural times an integer, and the order. Assumes nothing.
use Rattle.std.proofs.Common.{◌≡◌, ℕ, ◌+◌, ◌*◌, ◌<◌, ℤ, pos, ◌+ℤ◌, neg_ℤ, ◌≤ℤ◌, ◌<ℤ◌, sym, ap, ◌∙◌, mul-le-mul_left, arith}
use native.Mathlib.Nat.{mul-lt-mul_of_pos_left}
use lib.Signed.{clash_ℤ}
use borrow.Author.Differences.{sum_is_lem, neg_is, product_is, same_in, le_out, lt_out, at_most_in, below_in}
use Rattle.std.proofs.lemmas.Int.{by_lt_z}
use Rattle.plans.specs.Totals.{◌·◌}

pub scale_add : (k : ℕ) (x y : ℤ) → k · (x +ℤ y) ≡ k · x +ℤ k · y
scale_add k x y = let h = ap (λ n. k * n) (sum_is_lem x y) in omega (arith, same_in, sum_is_lem, product_is)

pub scale_neg : (k : ℕ) (z : ℤ) → k · neg_ℤ z ≡ neg_ℤ (k · z)
scale_neg k z =
    let u = ap (λ n. k * n) (neg_is z).0 in
    let d = ap (λ n. k * n) (neg_is z).1 in
    omega (arith, same_in, neg_is, product_is)

pub scale_scale : (a b : ℕ) (z : ℤ) → a · (b · z) ≡ (a * b) · z
scale_scale a b z =
    let u = ap (λ n. a * n) (product_is (pos b) z).0 in
    let d = ap (λ n. a * n) (product_is (pos b) z).1 in
    omega (arith, same_in, product_is)

pub scale_sum : (a b : ℕ) (z : ℤ) → (a + b) · z ≡ a · z +ℤ b · z
scale_sum a b z = omega (arith, same_in, sum_is_lem, product_is)

pub scale_zero : (k : ℕ) → k · pos 0 ≡ pos 0
scale_zero k = omega (arith, same_in, product_is)

pub scale_swap : (a b : ℕ) (z : ℤ) → a · (b · z) ≡ b · (a · z)
scale_swap a b z = scale_scale a b z ∙ ap (λ n. n · z) (omega arith) ∙ sym (scale_scale b a z)

pub scale_le : (k : ℕ) (x y : ℤ) → x ≤ℤ y → k · x ≤ℤ k · y
scale_le k x y h = let m = mul-le-mul_left k (le_out x y h) in omega (arith, at_most_in, product_is)

pub scale_lt : (k : ℕ) (x y : ℤ) → 0 < k → x <ℤ y → k · x <ℤ k · y
scale_lt k x y s h = let m = mul-lt-mul_of_pos_left (lt_out x y h) s in omega (arith, below_in, product_is)

pub cancel_lt : (k : ℕ) (x y : ℤ) → k · x <ℤ k · y → x <ℤ y
cancel_lt k x y h = by_lt_z x y (λ l. l) (λ l. clash_ℤ h (scale_le k y x l))

pub cancel_le : (k : ℕ) (x y : ℤ) → 0 < k → k · x ≤ℤ k · y → x ≤ℤ y
cancel_le k x y s h = by_lt_z y x (λ l. clash_ℤ (scale_lt k y x s l) h) (λ l. l)
