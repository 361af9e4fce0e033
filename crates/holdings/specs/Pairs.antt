-- Mixtures of two rows, in the order in which they are tried. Assumes nothing.
use Rattle.std.specs.Prelude.{ℕ, suc, ◌-◌, List, map}
use Rattle.std.specs.List.{range_with_len}
use Rattle.truth.specs.Dockets.{gathered, paired}

-- of n rows: two by the share of the first from a on; one and each later one
unfoldable pub shares_from : ℕ → ℕ → ℕ → ℕ → List (List ℕ)
shares_from n r s a = map (paired n r s) (range_with_len a (1001 - a))

unfoldable pub partner_shares : ℕ → ℕ → List (List ℕ)
partner_shares n r = gathered (λ s. shares_from n r s 0) (range_with_len (suc r) (n - suc r))
