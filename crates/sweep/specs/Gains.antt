-- What the objectives of a column gain by their weights. Assumes nothing.
use Rattle.std.specs.Prelude.{ℕ, Bool, ◌&&◌, List, [], ◌∷◌, map, sum, ◌==◌, nat_lt}
use Rattle.std.specs.List.{filter, zip}
use Rattle.plans.specs.declared.Objective.{Objective}

-- whether an objective's rewards count at a step
abbrev pub counts : Objective → ℕ → Bool
counts o step = nat_lt step o.bound

-- the weights of a column's objectives that count at a step
abbrev pub column_gain : List ℕ → List Objective → ℕ → ℕ → ℕ
column_gain ws os step column = sum (map (λ p. p.1) (filter (λ p. p.0.column == column && counts p.0 step) (zip os ws)))

-- for each column, what a reward of 1 there earns at a step
abbrev pub column_gains : List ℕ → List Objective → ℕ → List ℕ
column_gains ws os step = column_gain ws os step 0 ∷ column_gain ws os step 1 ∷ column_gain ws os step 2 ∷ column_gain ws os step 3 ∷ []
