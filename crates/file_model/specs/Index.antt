-- Where the choices of each state stand, and what of a file reading it relies on. Assumes nothing.
use Rattle.std.specs.Prelude.{◌≡◌, ℕ, ◌+◌, ◌*◌, ◌<◌, ◌≤◌, List, [], ◌∷◌, map, length, ℤ, pos, slice_index}
use Rattle.std.specs.List.{range_with_len, slice_get}
use Rattle.std.specs.Option.{unwrap_or}
use Rattle.few.specs.declared.Few.{Few}
use Rattle.few.specs.Views.{listed}
use Rattle.mdp.specs.Limits.{max_states, max_choices}
use Rattle.mdp.specs.Table.{Branch}
use Rattle.mdp.specs.declared.WholeBranch.{WholeBranch}
use Rattle.file_check.specs.Check.{max_file, word, block_end}
use Rattle.file_check.specs.Decode.{branch_in}
use Rattle.file_check.specs.Places.{pair_place, choice_starts}

-- where the choices of each state stand
abbrev pub starts_of : List ℕ → List (List ℕ)
starts_of xs = map (choice_starts xs) (range_with_len 0 (word xs 0))

-- the index says where
abbrev pub Indexed : List ℕ → List (Few ℕ max_choices) → Type 0
Indexed xs index = map listed index ≡ starts_of xs

-- the pairs and blocks of a file lie within it
pub record Whole (xs : List ℕ) : Type 0 where
  pub short : length xs ≤ max_file
  pub few : word xs 0 ≤ max_states
  pub room : 8 + 4 * word xs 0 ≤ length xs
  pub blocks : (s : ℕ) → s < word xs 0 → block_end xs (pair_place s) ≤ length xs

-- the branch that stands at an offset
abbrev pub branch_there : List ℕ → ℕ → Branch
branch_there xs p = branch_in xs (slice_index xs 6) p

-- a branch's reward in a column, 0 in one that it lacks
abbrev pub reward_or_zero : Branch → ℕ → ℤ
reward_or_zero b i = unwrap_or (slice_get b.rewards i) (pos 0)

abbrev pub all_rewards : Branch → List ℤ
all_rewards b = reward_or_zero b 0 ∷ reward_or_zero b 1 ∷ reward_or_zero b 2 ∷ reward_or_zero b 3 ∷ []

abbrev pub whole : Branch → WholeBranch
whole b = record { weight = b.weight; next = b.next; rewards = all_rewards b }

-- the file of the blank table
abbrev pub blank_bytes : List ℕ
blank_bytes = 1 ∷ 0 ∷ 0 ∷ 0 ∷ 1 ∷ 0 ∷ 1 ∷ 0 ∷ 12 ∷ 0 ∷ 7 ∷ 0 ∷ 1 ∷ 1 ∷ 0 ∷ 0 ∷ 0 ∷ 0 ∷ 0 ∷ []
