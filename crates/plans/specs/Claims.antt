-- The theorems, each on the contract of a function. Assumes nothing.
use Rattle.std.specs.Prelude.{◌≡◌, ℕ, zero, suc, ◌-◌, ◌*◌, ◌^◌, ◌<◌, ◌≤◌, List, [], ◌∷◌, map, length, get_or, ℤ, pos, ◌+ℤ◌, ◌≤ℤ◌, ◌<ℤ◌, All, slice_index, slice_index_or, unsigned_abs}
use Rattle.mdp.specs.Table.{Branch, Choice, Table, Facts}
use Rattle.plans.specs.declared.Objective.{Objective}
use Rattle.plans.specs.declared.Row.{Row}
use Rattle.plans.specs.Totals.{◌·◌, weight_sum, total}
use Rattle.plans.specs.Blends.{Weighed, Mean, Lawful, all_weights, mean_up, mean_down}
use Rattle.plans.specs.Plans.{Earning, Plan, Share, Mixture, Valid, Meets, Clears, Misses, no_objective, choice_at, after, earns, earns_by, exact, horizon, target_sum, weighted}
use Rattle.plans.specs.Sweep.{best, ceiling_at, grains, part_at, rows, sweep_plan}

-- ---- over any two blends

-- f of each branch, by its number, with its weight
abbrev pub weighed_by : (ℕ → Branch → ℤ) → Choice → List Weighed
weighed_by f [] = []
weighed_by f (b ∷ bs) = record { weight = b.weight; amount = f 0 b } ∷ weighed_by (λ j. f (suc j)) bs

-- the value of a plan by a blend, in grains: of each branch of its choice what the branch earns, and then the value of the plan that is left
unfoldable pub value : Mean → Table → ℕ → Earning → ℕ → ℕ → Plan → ℤ
value mean t k r zero s p = pos 0
value mean t k r (suc n) s p =
    mean (weighed_by (λ j. grains r (k - suc n) (λ s. value mean t k r n s (after p j))) (choice_at t s (p []))) t.divisor

-- no plan has a value above the ceiling
abbrev pub CeilingBoundsValue : Type 0
CeilingBoundsValue =
    (up down : Mean) (t : Table) (os : List Objective) (ws : List ℕ) (n s : ℕ) (p : Plan) →
    Lawful up → Facts t → s < length t.states → Valid t n s p →
    value up t (horizon os) (earns_by ws os) n s p ≤ℤ ceiling_at (rows up down t os ws n) s

-- the ceiling is the value of the sweep's plan
abbrev pub CeilingIsValue : Type 0
CeilingIsValue =
    (up down : Mean) (t : Table) (os : List Objective) (ws : List ℕ) (n s : ℕ) → Facts t → s < length t.states →
    ceiling_at (rows up down t os ws n) s ≡ value up t (horizon os) (earns_by ws os) n s (sweep_plan up down t os ws n s)

-- a part is the value of the sweep's plan in one objective, by the other blend
abbrev pub PartIsValue : Type 0
PartIsValue =
    (up down : Mean) (t : Table) (os : List Objective) (ws : List ℕ) (n s i : ℕ) → Facts t → s < length t.states → i < length os → length os ≤ 4 →
    part_at (rows up down t os ws n) i s ≡ value down t (horizon os) (earns (slice_index_or os i no_objective)) n s (sweep_plan up down t os ws n s)

-- a row's parts past the objectives are 0
abbrev pub PartsPast : Type 0
PartsPast =
    (up down : Mean) (t : Table) (os : List Objective) (ws : List ℕ) (n s i : ℕ) → s < length t.states → length os ≤ i → i < 4 →
    part_at (rows up down t os ws n) i s ≡ pos 0

-- the sweep's plan can be followed
abbrev pub PlanValid : Type 0
PlanValid =
    (up down : Mean) (t : Table) (os : List Objective) (ws : List ℕ) (n s : ℕ) → Facts t → s < length t.states →
    Valid t n s (sweep_plan up down t os ws n s)

-- the best of some numbers is one of them, none is above it, and each before it is below it
abbrev pub BestFirst : Type 0
BestFirst =
    (f : ℕ → ℤ) (n : ℕ) → 0 < n →
    (best f n < n) × ((k : ℕ) → k < n → f k ≤ℤ f (best f n)) × ((k : ℕ) → k < best f n → f k <ℤ f (best f n))

-- a blend of amounts from -a to a lies from -a to a
abbrev pub BlendWithin : Type 0
BlendWithin =
    (mean : Mean) (xs : List Weighed) (d a : ℕ) → Lawful mean → 0 < d → all_weights xs ≡ d → All (λ x. unsigned_abs x.amount ≤ a) xs →
    unsigned_abs (mean xs d) ≤ a

-- with n steps to go a ceiling is at most n × 65536000 × the sum of the weights either way, and a part n × 65536000
abbrev pub RowsSmall : Type 0
RowsSmall =
    (up down : Mean) (t : Table) (os : List Objective) (ws : List ℕ) (n s : ℕ) → Lawful up → Lawful down → Facts t → s < length t.states → length os ≤ 4 →
    (unsigned_abs (ceiling_at (rows up down t os ws n) s) ≤ n * (65536000 * weight_sum (λ i (o : Objective). slice_index ws i) os))
    × ((i : ℕ) → i < 4 → unsigned_abs (part_at (rows up down t os ws n) i s) ≤ n * 65536000)

-- ---- the two means

-- the sum of weight × amount
abbrev pub sum_of : List Weighed → ℤ
sum_of xs = total (λ j x. x.weight) (λ j x. x.amount) xs

-- both means have the laws
abbrev pub MeansLawful : Type 0
MeansLawful = Lawful mean_up × Lawful mean_down

-- mean_up is the least q with sum ≤ d × q
abbrev pub MeanUpLeast : Type 0
MeanUpLeast =
    (xs : List Weighed) (d : ℕ) → 0 < d →
    (sum_of xs ≤ℤ d · mean_up xs d) × ((q : ℤ) → sum_of xs ≤ℤ d · q → mean_up xs d ≤ℤ q)

-- mean_down is the greatest q with d × q ≤ sum
abbrev pub MeanDownGreatest : Type 0
MeanDownGreatest =
    (xs : List Weighed) (d : ℕ) → 0 < d →
    (d · mean_down xs d ≤ℤ sum_of xs) × ((q : ℤ) → d · q ≤ℤ sum_of xs → q ≤ℤ mean_down xs d)

-- ---- the sweep by the two means, beside exact expected rewards

-- mean_up for the ceilings, mean_down for the parts
abbrev pub mean_rows : Table → List Objective → List ℕ → ℕ → List Row
mean_rows t os ws n = rows mean_up mean_down t os ws n

abbrev pub mean_plan : Table → List Objective → List ℕ → ℕ → ℕ → Plan
mean_plan t os ws n s = sweep_plan mean_up mean_down t os ws n s

-- no plan has a weighted reward above the ceiling
abbrev pub CeilingBounds : Type 0
CeilingBounds =
    (t : Table) (os : List Objective) (ws : List ℕ) (n s : ℕ) (p : Plan) → Facts t → s < length t.states → Valid t n s p →
    65536 · weighted ws os (λ o. exact t (horizon os) (earns o) n s p) ≤ℤ (t.divisor ^ n) · ceiling_at (mean_rows t os ws n) s

-- the ceiling is less than n grains above the weighted reward of the sweep's plan
abbrev pub CeilingNear : Type 0
CeilingNear =
    (t : Table) (os : List Objective) (ws : List ℕ) (n s : ℕ) → Facts t → s < length t.states → 1 ≤ n →
    (t.divisor ^ n) · ceiling_at (mean_rows t os ws n) s
    <ℤ (65536 · weighted ws os (λ o. exact t (horizon os) (earns o) n s (mean_plan t os ws n s)) +ℤ (t.divisor ^ n) · pos n)

-- in each objective the reward of the sweep's plan is its part or more
abbrev pub PartReached : Type 0
PartReached =
    (t : Table) (os : List Objective) (ws : List ℕ) (n s i : ℕ) → Facts t → s < length t.states → i < length os → length os ≤ 4 →
    (t.divisor ^ n) · part_at (mean_rows t os ws n) i s ≤ℤ 65536 · exact t (horizon os) (earns (slice_index_or os i no_objective)) n s (mean_plan t os ws n s)

-- over all K steps that reward is less than the objective's bound in grains above the part
abbrev pub PartNear : Type 0
PartNear =
    (t : Table) (os : List Objective) (ws : List ℕ) (s i : ℕ) → Facts t → s < length t.states → i < length os → length os ≤ 4 → 1 ≤ (get_or os i no_objective).bound →
    65536 · exact t (horizon os) (earns (slice_index_or os i no_objective)) (horizon os) s (mean_plan t os ws (horizon os) s)
    <ℤ (t.divisor ^ horizon os) · (part_at (mean_rows t os ws (horizon os)) i s +ℤ pos (get_or os i no_objective).bound)

-- where a ceiling is below the target sum, no mixture meets every target
abbrev pub OutOfReach : Type 0
OutOfReach =
    (t : Table) (os : List Objective) (ws : List ℕ) (ms : List Share) → Facts t →
    ceiling_at (mean_rows t os ws (horizon os)) t.first <ℤ target_sum ws os →
    Mixture t os ms → ¬ (All (Meets t os ms) os)

-- where every plan misses by K grains, the ceiling is below the target sum; not where K is 0, since with no objectives both are 0
abbrev pub MissRefutes : Type 0
MissRefutes =
    (t : Table) (os : List Objective) (ws : List ℕ) → Facts t → 1 ≤ horizon os →
    ((p : Plan) → Valid t (horizon os) t.first p → Misses t os ws p) →
    ceiling_at (mean_rows t os ws (horizon os)) t.first <ℤ target_sum ws os

-- a share of the plan of the sweep at some weights
pub record Candidate : Type 0 where
  pub share : ℕ
  pub weights : List ℕ

abbrev pub candidate_share : ℕ → Candidate → ℕ
candidate_share j c = c.share

abbrev pub planned : Table → List Objective → Candidate → Share
planned t os c = record { share = c.share; plan = mean_plan t os c.weights (horizon os) t.first }

-- the sweeps' parts, each by its share, come to the target of objective i
abbrev pub PartsReach : Table → List Objective → List Candidate → ℕ → Type 0
PartsReach t os cs i =
    weight_sum candidate_share cs · (get_or os i no_objective).target
    ≤ℤ total candidate_share (λ j c. part_at (mean_rows t os c.weights (horizon os)) i t.first) cs

-- where the parts reach a target, the mixture of the sweeps' plans meets it
abbrev pub WithinReach : Type 0
WithinReach =
    (t : Table) (os : List Objective) (cs : List Candidate) (i : ℕ) → Facts t → i < length os → length os ≤ 4 →
    PartsReach t os cs i → Meets t os (map (planned t os) cs) (slice_index_or os i no_objective)

-- where that mixture clears a target, the parts reach it
abbrev pub ClearAchieves : Type 0
ClearAchieves =
    (t : Table) (os : List Objective) (cs : List Candidate) (i : ℕ) → Facts t → i < length os → length os ≤ 4 → 1 ≤ (get_or os i no_objective).bound →
    Clears t os (map (planned t os) cs) (slice_index_or os i no_objective) → PartsReach t os cs i

-- one or more of the sweeps' plans with positive shares are a mixture
abbrev pub MixtureValid : Type 0
MixtureValid =
    (t : Table) (os : List Objective) (cs : List Candidate) → Facts t → 1 ≤ length cs → All (λ c. 1 ≤ c.share) cs →
    Mixture t os (map (planned t os) cs)

-- the horizon is the least number that no bound is above
abbrev pub HorizonCovers : Type 0
HorizonCovers =
    (os : List Objective) → All (λ o. o.bound ≤ horizon os) os × ((k : ℕ) → All (λ o. o.bound ≤ k) os → horizon os ≤ k)
