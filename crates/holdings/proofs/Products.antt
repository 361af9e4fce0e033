-- How large products and their sums get. Assumes nothing.
use Rattle.std.proofs.Common.{◌≡◌, ℕ, ◌+◌, ◌*◌, ◌^◌, ◌<◌, ◌≤◌, ℤ, pos, ◌+ℤ◌, ◌*ℤ◌, nat_abs, ap, ◌∙◌, add-mul, one-mul, arith, w64, SFits, to_z, of_z}
use Rattle.std.proofs.lemmas.Int.{ints, to_z-of_z}
use mir.Syntax.{w128}
use Rattle.plans.specs.Totals.{◌·◌}
use Rattle.plans.proofs.Amounts.{product_within}

-- a product as the code has it: x is k and y is z, each in 128 bits
module _ (x y : ℤ) (k : ℕ) (z : ℤ) (ex : x ≡ pos k) (ey : y ≡ to_z w64 (of_z w64 z)) (small : k < 2 ^ 16) (fz : SFits w64 z) where
  product_is : to_z w128 (of_z w128 x) *ℤ to_z w128 (of_z w128 y) ≡ k · z
  product_is =
      let a : to_z w128 (of_z w128 x) ≡ pos k = omega (arith, ints) in
      let b : to_z w128 (of_z w128 y) ≡ z = omega (arith, ints) in
      ap (λ v. v *ℤ to_z w128 (of_z w128 y)) a ∙ ap (λ v. k · v) b

  pub product_near : nat_abs (k · z) ≤ 2 ^ 79
  product_near = let h : nat_abs z ≤ 2 ^ 63 = omega (arith, ints) in omega (arith, product_within k z (2 ^ 16) (2 ^ 63) (omega arith) h)

  product_fits : SFits w128 (k · z)
  product_fits = let h = product_near in omega (arith, ints)

  pub fits : SFits w128 (to_z w128 (of_z w128 x) *ℤ to_z w128 (of_z w128 y))
  fits = rw product_is product_fits

  pub back : to_z w128 (of_z w128 (to_z w128 (of_z w128 x) *ℤ to_z w128 (of_z w128 y))) ≡ k · z
  back = ap (λ v. to_z w128 (of_z w128 v)) product_is ∙ to_z-of_z w128 (k · z) product_fits

-- a sum of two products as the code has it
pub both_is : (x y : ℤ) → nat_abs x ≤ 2 ^ 79 → nat_abs y ≤ 2 ^ 79 → to_z w128 (of_z w128 (to_z w128 (of_z w128 x) +ℤ to_z w128 (of_z w128 y))) ≡ x +ℤ y
both_is x y p q = omega (arith, ints)

-- a sum of k products as the code has it, and one product more
module _ (z x : ℤ) (k n : ℕ) (so_far : nat_abs z ≤ k * n) (near : nat_abs x ≤ n) (small : k * n + n ≤ 2 ^ 100) where
  pub more_fits : SFits w128 (z +ℤ to_z w128 (of_z w128 x))
  more_fits = omega (arith, ints)

  pub more_is : to_z w128 (of_z w128 (z +ℤ to_z w128 (of_z w128 x))) ≡ z +ℤ x
  more_is = omega (arith, ints)

  pub more_near : nat_abs (z +ℤ x) ≤ (k + 1) * n
  more_near = let e : (k + 1) * n ≡ k * n + n = add-mul k 1 n ∙ ap (λ j. k * n + j) (one-mul n) in omega (arith, ints)
