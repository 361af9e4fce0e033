-- A branch as a whole, with a reward for every column that a table may have. Assumes nothing.
use Rattle.std.specs.Prelude.{ℕ, List, [], ◌∷◌, ℤ, pos, slice_set}
use Rattle.std.specs.Option.{unwrap_or}
use Rattle.std.specs.List.{slice_get}
use Rattle.mdp.specs.declared.WholeBranch.{WholeBranch}
use Rattle.mdp.specs.Table.{Branch}

-- the rewards of all columns, 0 in those that are not there
abbrev pub all_rewards : List ℤ → List ℤ
all_rewards rs = unwrap_or (slice_get rs 0) (pos 0) ∷ unwrap_or (slice_get rs 1) (pos 0) ∷ unwrap_or (slice_get rs 2) (pos 0) ∷ unwrap_or (slice_get rs 3) (pos 0) ∷ []

abbrev pub whole_of : Branch → WholeBranch
whole_of x = record { weight = x.weight; next = x.next; rewards = all_rewards x.rewards }

-- another next state, and a reward in a column
abbrev pub whole_extended : WholeBranch → ℕ → ℕ → ℤ → WholeBranch
whole_extended w column n r = record { weight = w.weight; next = n; rewards = slice_set w.rewards column r }
