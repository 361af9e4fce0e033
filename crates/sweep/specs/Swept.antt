-- What a sweep asks, makes of the rows and answers. Assumes nothing.
use Rattle.std.specs.Prelude.{◌≡◌, ℕ, ◌-◌, ◌*◌, ◌≤◌, Bool, cond, ◌&&◌, List, ◌++◌, map, length, take, drop, Some, None, All, Option, ◌==◌, nat_le, slice_index_or}
use Rattle.std.specs.List.{list_all, range_with_len}
use Rattle.mdp.specs.Table.{Table}
use Rattle.plans.specs.declared.Objective.{Objective}
use Rattle.plans.specs.declared.Row.{Row}
use Rattle.plans.specs.Blends.{Mean}
use Rattle.plans.specs.Plans.{horizon}
use Rattle.plans.specs.Sweep.{no_row, row_at, rows}
use Rattle.sweep.specs.Limits.{max_objectives, max_weight, max_bound}

-- objectives and weights that may be swept for
pub record Asked (os : List Objective) (ws : List ℕ) : Type 0 where
  pub few : length os ≤ max_objectives
  pub same : length ws ≡ length os
  pub light : All (λ w. w ≤ max_weight) ws
  pub near : All (λ o. o.bound ≤ max_bound) os

-- the same, as a test
abbrev pub all_light : List ℕ → Bool
all_light ws = list_all (λ w. nat_le w max_weight) ws

abbrev pub all_near : List Objective → Bool
all_near os = list_all (λ o. nat_le o.bound max_bound) os

abbrev pub asked : List Objective → List ℕ → Bool
asked os ws = nat_le (length os) max_objectives && (length ws == length os && (all_light ws && all_near os))

module _ (up down : Mean) (t : Table) (os : List Objective) (ws : List ℕ) where
  -- a step: the rows of the step after it move up by a half, and its own are written below them
  abbrev pub stepped : ℕ → List Row → List Row
  stepped step old =
      map (row_at up down t os ws step (take (length t.states) old)) (range_with_len 0 (length t.states)) ++ (take (length t.states) old ++ drop (2 * length t.states) old)

  -- enough rows are lent
  abbrev pub askable : List Row → Bool
  askable old = asked os ws && nat_le (2 * length t.states) (length old)

  -- the rows after a sweep: those of step 0, those of step 1, and what was beyond
  abbrev pub swept : List Row → List Row
  swept old =
      cond (askable old) (rows up down t os ws (horizon os) ++ (rows up down t os ws (horizon os - 1) ++ drop (2 * length t.states) old)) old

  -- the row of the first state at step 0
  abbrev pub answer : List Row → Option Row
  answer old = cond (askable old) (Some (slice_index_or (rows up down t os ws (horizon os)) t.first no_row)) None
