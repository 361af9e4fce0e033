-- How many items are held. Assumes nothing.
use Rattle.std.proofs.Common.{◌≡◌, ℕ, ◌≤◌, length, arith}
use Rattle.std.proofs.lemmas.List.{length-take-le}
use Rattle.few.specs.declared.Few.{Few}
use Rattle.few.specs.Views.{listed}

module _ {T : Type 0} {n : ℕ} (few : Few T n) where
  pub length_listed : length (listed few) ≡ few.count
  length_listed = length-take-le few.count few.each (omega (arith, few.whole, few.within))

  pub listed_within : length (listed few) ≤ n
  listed_within = omega (arith, length_listed, few.within)
