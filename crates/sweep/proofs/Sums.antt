-- Sums of small signed numbers at 64 bits, as the code has them. Assumes nothing.
use Rattle.std.proofs.Common.{◌≡◌, ◌^◌, ◌≤◌, ℤ, ◌+ℤ◌, nat_abs, arith, w64, SFits, to_z, of_z}
use Rattle.std.proofs.lemmas.Int.{ints}

module _ (a b c : ℤ) (fa : nat_abs a ≤ 2 ^ 32) (fb : nat_abs b ≤ 2 ^ 32) (fc : nat_abs c ≤ 2 ^ 32) where
  pub two : to_z w64 (of_z w64 (to_z w64 (of_z w64 a) +ℤ to_z w64 (of_z w64 b))) ≡ a +ℤ b
  two = omega (arith, ints)

  three : to_z w64 (of_z w64 (to_z w64 (of_z w64 (to_z w64 (of_z w64 a) +ℤ to_z w64 (of_z w64 b))) +ℤ to_z w64 (of_z w64 c))) ≡ a +ℤ b +ℤ c
  three = let e = two in omega (arith, ints)

  pub three_fits : SFits w64 (to_z w64 (of_z w64 (to_z w64 (of_z w64 a) +ℤ to_z w64 (of_z w64 b))) +ℤ to_z w64 (of_z w64 c))
  three_fits = let e = two in omega (arith, ints)

  module _ (d : ℤ) (fd : nat_abs d ≤ 2 ^ 32) where
    pub four_fits : SFits w64 (to_z w64 (of_z w64 (to_z w64 (of_z w64 (to_z w64 (of_z w64 a) +ℤ to_z w64 (of_z w64 b))) +ℤ to_z w64 (of_z w64 c))) +ℤ to_z w64 (of_z w64 d))
    four_fits = let e = three in omega (arith, ints)

    pub four_sum : to_z w64 (of_z w64 (to_z w64 (of_z w64 (to_z w64 (of_z w64 (to_z w64 (of_z w64 a) +ℤ to_z w64 (of_z w64 b))) +ℤ to_z w64 (of_z w64 c))) +ℤ to_z w64 (of_z w64 d))) ≡ a +ℤ b +ℤ c +ℤ d
    four_sum = let e = three in omega (arith, ints)
