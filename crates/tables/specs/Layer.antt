-- What the layers share: one more column. Assumes nothing.
use Rattle.std.specs.Prelude.{ℕ, ◌+◌, List, [], ◌∷◌, ◌++◌, map, ℤ}
use Rattle.mdp.specs.Table.{Branch, State, Table}

-- another next state, and one more reward in the last column
abbrev pub extended : Branch → ℕ → ℤ → Branch
extended b n r = record { weight = b.weight; next = n; rewards = b.rewards ++ (r ∷ []) }

-- other states, and one more column
abbrev pub extended_table : Table → List State → Table
extended_table t ss = record { first = t.first; divisor = t.divisor; columns = t.columns + 1; states = ss }

abbrev pub each_branch : (Branch → Branch) → State → State
each_branch f cs = map (map f) cs
