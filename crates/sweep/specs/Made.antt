-- What a step makes of branches, choices and states. Assumes nothing.
use Rattle.std.specs.Prelude.{ℕ, cond, List, [], ◌∷◌, length, ℤ, pos, nat_lt, slice_index_or}
use Rattle.mdp.specs.Table.{Branch, Choice}
use Rattle.plans.specs.declared.Row.{Row}
use Rattle.plans.specs.Blends.{Mean}
use Rattle.plans.specs.Plans.{no_objective, choice_at, earns, earns_by}
use Rattle.plans.specs.Sweep.{ceiling_at, part_at, grains, choice_ceiling, choice_part, taken, row_at}
use Rattle.sweep.specs.declared.step.Step.{Step}

module _ {M : Type 0} {B : _} (p : Step M B) where
  -- what a branch is worth: its weighted rewards and its next state's ceiling, or an objective's and its part
  abbrev pub ceiling_after : Branch → ℤ
  ceiling_after = grains (earns_by p.objectives.weights.now p.objectives.each.now) p.step (ceiling_at p.next.now)

  abbrev pub part_after : ℕ → Branch → ℤ
  part_after i b =
      cond (nat_lt i (length p.objectives.each.now)) (grains (earns (slice_index_or p.objectives.each.now i no_objective)) p.step (part_at p.next.now i) b) (pos 0)

  abbrev pub choice_of : ℕ → ℕ → Choice
  choice_of s k = choice_at (B.table p.model.now) s k

  abbrev pub ceiling_of : Mean → ℕ → ℕ → ℤ
  ceiling_of up s k = choice_ceiling up up (B.table p.model.now) p.objectives.each.now p.objectives.weights.now p.step p.next.now s k

  abbrev pub part_of : Mean → ℕ → ℕ → ℕ → ℤ
  part_of down s k i = choice_part down down (B.table p.model.now) p.objectives.each.now p.objectives.weights.now p.step p.next.now s k i

  abbrev pub parts_of : Mean → ℕ → ℕ → List ℤ
  parts_of down s k = part_of down s k 0 ∷ part_of down s k 1 ∷ part_of down s k 2 ∷ part_of down s k 3 ∷ []

  abbrev pub best_of : Mean → ℕ → ℕ
  best_of up s = taken up up (B.table p.model.now) p.objectives.each.now p.objectives.weights.now p.step p.next.now s

  abbrev pub row_of : Mean → Mean → ℕ → Row
  row_of up down s = row_at up down (B.table p.model.now) p.objectives.each.now p.objectives.weights.now p.step p.next.now s
