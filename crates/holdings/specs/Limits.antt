-- The limits of an objective. Assumes nothing.
use Rattle.std.specs.Prelude.{ℕ, ◌^◌, ◌<◌, ◌≤◌, List, length, pos, neg_ℤ, ◌≤ℤ◌, slice_index_or}
use Rattle.plans.specs.declared.Objective.{Objective}
use Rattle.plans.specs.Plans.{no_objective}

-- what holds of it over any model
abbrev pub Allowed : Objective → Type 0
Allowed o = (1 ≤ o.bound) × (o.bound ≤ 256) × (neg_ℤ (pos (2 ^ 40)) ≤ℤ o.target) × (o.target ≤ℤ pos (2 ^ 40))

abbrev pub AllAllowed : List Objective → Type 0
AllAllowed os = (k : ℕ) → k < length os → Allowed (slice_index_or os k no_objective)
