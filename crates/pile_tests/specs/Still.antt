-- A table of states that are alike: each has one branch, to state 0, which earns nothing. Assumes nothing.
use Rattle.std.specs.Prelude.{ℕ, ◌-◌, [], ◌∷◌, replicate, pos}
use Rattle.mdp.specs.Table.{Branch, Choice, State, Table}

abbrev pub still_branch : ℕ → Branch
still_branch columns = record { weight = 1; next = 0; rewards = replicate columns (pos 0) }

abbrev pub still_choice : ℕ → Choice
still_choice columns = still_branch columns ∷ []

abbrev pub still_state : ℕ → State
still_state columns = still_choice columns ∷ []

-- the last state is the first one
abbrev pub still_table : ℕ → ℕ → Table
still_table states columns = record { first = states - 1; divisor = 1; columns = columns; states = replicate states (still_state columns) }
