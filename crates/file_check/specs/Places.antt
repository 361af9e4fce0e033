-- Where the pairs and choices of a file stand. Assumes nothing.
use Rattle.std.specs.Prelude.{ℕ, zero, suc, ◌+◌, ◌*◌, cond, List, [], ◌∷◌, Some, None, Option, nat_lt, slice_index}
use Rattle.mdp.specs.Limits.{max_choices}
use Rattle.file_check.specs.Check.{word, choice_after, block_end}

abbrev pub pair_place : ℕ → ℕ
pair_place s = 8 + 4 * s

-- the choice after k others, in a block from p to e
abbrev pub start_of : List ℕ → ℕ → ℕ → ℕ → ℕ → Option ℕ
start_of xs c e p zero = cond (nat_lt p e) (Some p) None
start_of xs c e p (suc k) = cond (nat_lt p e) (start_of xs c e (choice_after xs c p) k) None

-- choice k of the block of state s
abbrev pub choice_place : List ℕ → ℕ → ℕ → Option ℕ
choice_place xs s k = start_of xs (slice_index xs 6) (block_end xs (pair_place s)) (word xs (pair_place s)) k

-- where at most n choices of a block from p to e stand
unfoldable pub starts_in : List ℕ → ℕ → ℕ → ℕ → ℕ → List ℕ
starts_in xs c e p zero = []
starts_in xs c e p (suc n) = cond (nat_lt p e) (p ∷ starts_in xs c e (choice_after xs c p) n) []

-- where the choices of state s stand
abbrev pub choice_starts : List ℕ → ℕ → List ℕ
choice_starts xs s = starts_in xs (slice_index xs 6) (block_end xs (pair_place s)) (word xs (pair_place s)) max_choices
