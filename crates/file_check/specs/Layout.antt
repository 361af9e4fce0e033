-- The file of a table: header, a pair of offset and length for each state, then the blocks. Assumes nothing.
use Rattle.std.specs.Prelude.{ℕ, ◌+◌, ◌*◌, ◌/◌, ◌%◌, List, [], ◌∷◌, ◌++◌, length, ℤ}
use Rattle.std.proofs.Common.{of_z}
use Rattle.std.specs.Int.{w16}
use Rattle.std.specs.List.{flat_map}
use Rattle.mdp.specs.Table.{Branch, Choice, State, Table}

-- two bytes, the low one first
abbrev pub two : ℕ → List ℕ
two n = n % 256 ∷ n / 256 ∷ []

-- in two's complement
abbrev pub reward_bytes : ℤ → List ℕ
reward_bytes r = two (of_z w16 r)

abbrev pub branch_bytes : Branch → List ℕ
branch_bytes b = two b.weight ++ (two b.next ++ flat_map reward_bytes b.rewards)

abbrev pub choice_bytes : Choice → List ℕ
choice_bytes bs = length bs ∷ flat_map branch_bytes bs

abbrev pub block : State → List ℕ
block = flat_map choice_bytes

-- a pair for each state, the first block standing at an offset
abbrev pub pairs_bytes : ℕ → List State → List ℕ
pairs_bytes p [] = []
pairs_bytes p (cs ∷ ss) = two p ++ (two (length (block cs)) ++ pairs_bytes (p + length (block cs)) ss)

abbrev pub header_bytes : Table → List ℕ
header_bytes t = two (length t.states) ++ (two t.first ++ (two t.divisor ++ t.columns ∷ 0 ∷ []))

abbrev pub encode : Table → List ℕ
encode t = header_bytes t ++ (pairs_bytes (8 + 4 * length t.states) t.states ++ flat_map block t.states)
