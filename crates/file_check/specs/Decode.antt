-- The table that a file holds, read field by field. Assumes nothing.
use Rattle.std.specs.Prelude.{ℕ, zero, suc, ◌+◌, cond, List, [], ◌∷◌, ℤ, nat_lt, slice_index}
use Rattle.std.proofs.Common.{to_z}
use Rattle.std.specs.Int.{w16}
use Rattle.mdp.specs.Limits.{max_choices}
use Rattle.mdp.specs.Table.{Branch, Choice, State, Table}
use Rattle.file_check.specs.Check.{word, branch_size, choice_after, block_end}

-- what stands at p and at each d further on, n in all
abbrev pub steps : {X : Type 0} → (ℕ → X) → ℕ → ℕ → ℕ → List X
steps f d p zero = []
steps f d p (suc n) = f p ∷ steps f d (p + d) n

abbrev pub reward_in : List ℕ → ℕ → ℤ
reward_in xs p = to_z w16 (word xs p)

abbrev pub rewards_in : List ℕ → ℕ → ℕ → List ℤ
rewards_in xs p n = steps (reward_in xs) 2 p n

abbrev pub branch_in : List ℕ → ℕ → ℕ → Branch
branch_in xs c p = record { weight = word xs p; next = word xs (p + 2); rewards = rewards_in xs (p + 4) c }

abbrev pub branches_in : List ℕ → ℕ → ℕ → ℕ → List Branch
branches_in xs c p n = steps (branch_in xs c) (branch_size c) p n

-- the choice at p
abbrev pub choice_in : List ℕ → ℕ → ℕ → Choice
choice_in xs c p = branches_in xs c (p + 1) (slice_index xs p)

-- at most n choices of a block from p to e
abbrev pub choices_in : List ℕ → ℕ → ℕ → ℕ → ℕ → State
choices_in xs c e p zero = []
choices_in xs c e p (suc n) = cond (nat_lt p e) (choice_in xs c p ∷ choices_in xs c e (choice_after xs c p) n) []

-- the block that the pair at p names
abbrev pub state_in : List ℕ → ℕ → ℕ → State
state_in xs c p = choices_in xs c (block_end xs p) (word xs p) max_choices

abbrev pub states_in : List ℕ → ℕ → ℕ → ℕ → List State
states_in xs c p n = steps (state_in xs c) 4 p n

abbrev pub decode : List ℕ → Table
decode xs = record { first = word xs 2; divisor = word xs 4; columns = slice_index xs 6; states = states_in xs (slice_index xs 6) 8 (word xs 0) }
