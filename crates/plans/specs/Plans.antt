-- Plans, mixtures of plans, and their exact expected rewards, in whole multiples of 1 / divisor ^ steps. Assumes nothing.
use Rattle.std.specs.Prelude.{ℕ, zero, suc, ◌-◌, ◌*◌, ◌^◌, ◌<◌, ◌≤◌, max, cond, List, [], ◌∷◌, length, get_or, ℤ, pos, ◌+ℤ◌, ◌≤ℤ◌, All, nat_lt, slice_index, slice_index_or}
use Rattle.mdp.specs.Table.{Branch, Choice, State, Table}
use Rattle.plans.specs.declared.Objective.{Objective}
use Rattle.plans.specs.Totals.{◌·◌, weight_sum, total}

-- what is read past the end of a list
abbrev pub no_branch : Branch
no_branch = record { weight = 0; next = 0; rewards = [] }

abbrev pub no_objective : Objective
no_objective = record { column = 0; bound = 0; target = pos 0 }

abbrev pub choices_at : Table → ℕ → State
choices_at t s = slice_index_or t.states s []

abbrev pub choice_at : Table → ℕ → ℕ → Choice
choice_at t s k = slice_index_or (choices_at t s) k []

-- where branch j of a choice leads
abbrev pub next_at : Choice → ℕ → ℕ
next_at c j = (get_or c j no_branch).next

abbrev pub branch_weight : ℕ → Branch → ℕ
branch_weight j b = b.weight

-- K: the largest bound, 0 without objectives
abbrev pub horizon : List Objective → ℕ
horizon [] = 0
horizon (o ∷ os) = max o.bound (horizon os)

-- what a branch earns at a step
abbrev pub Earning : Type 0
Earning = ℕ → Branch → ℤ

-- the reward in an objective's column, at steps before its bound
abbrev pub earns : Objective → Earning
earns o step b = cond (nat_lt step o.bound) (slice_index_or b.rewards o.column (pos 0)) (pos 0)

-- a sum over the objectives of weight × amount; a weight that is not there is 0
abbrev pub weighted : List ℕ → List Objective → (Objective → ℤ) → ℤ
weighted ws os f = total (λ i o. slice_index ws i) (λ i o. f o) os

abbrev pub earns_by : List ℕ → List Objective → Earning
earns_by ws os step b = weighted ws os (λ o. earns o step b)

-- a plan chooses by the history, the list of the branch numbers drawn so far, oldest first
abbrev pub Plan : Type 0
Plan = List ℕ → ℕ

-- the plan that is left once branch j was drawn
abbrev pub after : Plan → ℕ → Plan
after p j = λ h. p (j ∷ h)

-- in state s with n steps to go, the plan names a choice that the state has, after every history that can be drawn
abbrev pub Valid : Table → ℕ → ℕ → Plan → Type 0
Valid t zero s p = Unit {0}
Valid t (suc n) s p =
    (p [] < length (choices_at t s))
    × ((j : ℕ) → j < length (choice_at t s (p [])) → Valid t n (next_at (choice_at t s (p [])) j) (after p j))

-- divisor ^ n times the expected sum of what is earned, in state s with n of k steps to go
unfoldable pub exact : Table → ℕ → Earning → ℕ → ℕ → Plan → ℤ
exact t k r zero s p = pos 0
exact t k r (suc n) s p =
    total branch_weight (λ j b. (t.divisor ^ n) · r (k - suc n) b +ℤ exact t k r n b.next (after p j)) (choice_at t s (p []))

-- the exact expected reward of an objective, in whole multiples of 1 / divisor ^ K
abbrev pub expected : Table → List Objective → Objective → Plan → ℤ
expected t os o p = exact t (horizon os) (earns o) (horizon os) t.first p

pub record Share : Type 0 where
  pub share : ℕ
  pub plan : Plan

abbrev pub share_of : ℕ → Share → ℕ
share_of i m = m.share

-- one or more valid plans with positive shares
pub record Mixture (t : Table) (os : List Objective) (ms : List Share) : Type 0 where
  pub some : 1 ≤ length ms
  pub shares : All (λ m. 1 ≤ m.share) ms
  pub plans : All (λ m. Valid t (horizon os) t.first m.plan) ms

-- the mixture's expected reward of an objective is a number of grains or more
abbrev pub Reaches : Table → List Objective → List Share → Objective → ℤ → Type 0
Reaches t os ms o grains = (weight_sum share_of ms * t.divisor ^ horizon os) · grains ≤ℤ 65536 · total share_of (λ i m. expected t os o m.plan) ms

abbrev pub Meets : Table → List Objective → List Share → Objective → Type 0
Meets t os ms o = Reaches t os ms o o.target

-- by its bound in grains
abbrev pub Clears : Table → List Objective → List Share → Objective → Type 0
Clears t os ms o = Reaches t os ms o (o.target +ℤ pos o.bound)

abbrev pub target_sum : List ℕ → List Objective → ℤ
target_sum ws os = weighted ws os (λ o. o.target)

-- at these weights the plan stays K grains or more below the targets
abbrev pub Misses : Table → List Objective → List ℕ → Plan → Type 0
Misses t os ws p =
    (65536 · weighted ws os (λ o. expected t os o p) +ℤ (t.divisor ^ horizon os) · pos (horizon os)) ≤ℤ (t.divisor ^ horizon os) · target_sum ws os
