-- The backward sweep: step-bounded value iteration of weighted rewards, over any two blends. Assumes nothing.
use Rattle.std.specs.Prelude.{ℕ, zero, suc, ◌-◌, cond, List, [], ◌∷◌, map, length, get_or, replicate, ℤ, pos, ◌+ℤ◌, ◌*ℤ◌, int_lt, nat_lt, slice_index_or}
use Rattle.std.specs.List.{range_with_len}
use Rattle.mdp.specs.Table.{Branch, Choice, Table}
use Rattle.plans.specs.declared.Objective.{Objective}
use Rattle.plans.specs.declared.Row.{Row}
use Rattle.plans.specs.Blends.{Weighed, Mean}
use Rattle.plans.specs.Plans.{Earning, Plan, no_objective, choices_at, choice_at, next_at, earns, earns_by, horizon}

-- what a read past the rows gives
abbrev pub no_row : Row
no_row = record { ceiling = pos 0; parts = [] }

abbrev pub zero_row : Row
zero_row = record { ceiling = pos 0; parts = pos 0 ∷ pos 0 ∷ pos 0 ∷ pos 0 ∷ [] }

abbrev pub ceiling_at : List Row → ℕ → ℤ
ceiling_at rows s = (get_or rows s no_row).ceiling

abbrev pub part_at : List Row → ℕ → ℕ → ℤ
part_at rows i s = slice_index_or (get_or rows s no_row).parts i (pos 0)

-- f of each branch, with its weight
abbrev pub weighed : (Branch → ℤ) → Choice → List Weighed
weighed f bs = map (λ b. record { weight = b.weight; amount = f b }) bs

-- in grains: what a branch earns at a step, and then what the state that it leads to is worth
abbrev pub grains : Earning → ℕ → (ℕ → ℤ) → Branch → ℤ
grains r step worth b = worth b.next +ℤ pos 65536 *ℤ r step b

-- the first of 0 to n - 1 at which f is highest
abbrev pub best : (ℕ → ℤ) → ℕ → ℕ
best f zero = 0
best f (suc n) = cond (int_lt (f (best f n)) (f n)) n (best f n)

module _ (up down : Mean) (t : Table) (os : List Objective) (ws : List ℕ) where
  -- at a step, over the rows of the next one
  abbrev pub choice_ceiling : ℕ → List Row → ℕ → ℕ → ℤ
  choice_ceiling step next s k = up (weighed (grains (earns_by ws os) step (ceiling_at next)) (choice_at t s k)) t.divisor

  abbrev pub choice_part : ℕ → List Row → ℕ → ℕ → ℕ → ℤ
  choice_part step next s k i =
      cond (nat_lt i (length os)) (down (weighed (grains (earns (slice_index_or os i no_objective)) step (part_at next i)) (choice_at t s k)) t.divisor) (pos 0)

  -- the choice with the highest ceiling, the lowest number on a tie
  abbrev pub taken : ℕ → List Row → ℕ → ℕ
  taken step next s = best (choice_ceiling step next s) (length (choices_at t s))

  abbrev pub row_by : ℕ → List Row → ℕ → ℕ → Row
  row_by step next s k = record {
    ceiling = choice_ceiling step next s k;
    parts = choice_part step next s k 0 ∷ choice_part step next s k 1 ∷ choice_part step next s k 2 ∷ choice_part step next s k 3 ∷ [];
  }

  abbrev pub row_at : ℕ → List Row → ℕ → Row
  row_at step next s = row_by step next s (taken step next s)

  -- the rows with n steps to go
  unfoldable pub rows : ℕ → List Row
  rows zero = replicate (length t.states) zero_row
  rows (suc n) = map (row_at (horizon os - suc n) (rows n)) (range_with_len 0 (length t.states))

  -- after some steps the choice that the sweep took at that step in the state reached; n steps are to go in state s
  unfoldable pub sweep_plan : ℕ → ℕ → Plan
  sweep_plan zero s h = 0
  sweep_plan (suc n) s [] = taken (horizon os - suc n) (rows n) s
  sweep_plan (suc n) s (j ∷ h) = sweep_plan n (next_at (choice_at t s (taken (horizon os - suc n) (rows n) s)) j) h
