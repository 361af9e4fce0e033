-- How large the rows of a sweep get. Assumes nothing.
use Rattle.std.proofs.Common.{ℕ, zero, suc, ◌-◌, ◌*◌, ◌<◌, ◌≤◌, true, false, cond, ltb, List, [], ◌∷◌, length, get_or, ℤ, pos, negsuc, nat_abs, All, ◌∙◌, ⊎_elim, zero-le, mul-le-mul_left, arith}
use borrow.Author.Differences.{ints}
use Rattle.std.proofs.lemmas.List.Elements.{All-head, All-tail}
use Rattle.std.proofs.lemmas.Bool.{cases_lt}
use Rattle.mdp.specs.Table.{Branch, Table, Facts}
use Rattle.plans.specs.declared.Objective.{Objective}
use Rattle.plans.specs.Totals.{◌·◌, weight_sum, total}
use Rattle.plans.specs.Blends.{Mean, Lawful}
use Rattle.plans.specs.Plans.{Earning, Plan, Valid, no_branch, no_objective, choice_at, next_at, after, earns, earns_by, horizon}
use Rattle.plans.specs.Sweep.{grains, part_at, rows, sweep_plan}
use Rattle.plans.specs.Claims.{weighed_by, value, RowsSmall}
use Rattle.plans.proofs.Blended.{all_weighed, all_weights_by, blend_within}
use Rattle.plans.proofs.Places.{choice_facts, branch_facts}
use Rattle.plans.proofs.Values.{plan_valid, ceiling_is_value, part_is_value, parts_past}

scale_within : (w : ℕ) (z : ℤ) (a : ℕ) → nat_abs z ≤ a → nat_abs (w · z) ≤ w * a
scale_within w (pos n) a h = mul-le-mul_left w h
scale_within w (negsuc n) a h = let m = mul-le-mul_left w h in omega (arith, ints)

total_within : {X : Type 0} (u : ℕ → X → ℕ) (f : ℕ → X → ℤ) (xs : List X) (a : ℕ) → ((j : ℕ) (x : X) → nat_abs (f j x) ≤ a) → nat_abs (total u f xs) ≤ weight_sum u xs * a
total_within u f [] a h = zero-le
total_within u f (x ∷ xs) a h =
    let r = total_within (λ j. u (suc j)) (λ j. f (suc j)) xs a (λ j. h (suc j)) in
    let l = scale_within (u 0 x) (f 0 x) a (h 0 x) in
    omega (arith, ints)

reward_within : (rs : List ℤ) (i : ℕ) → All (λ r. nat_abs r ≤ 1000) rs → nat_abs (get_or rs i (pos 0)) ≤ 1000
reward_within [] i h = zero-le
reward_within (r ∷ rs) zero h = All-head (λ r. nat_abs r ≤ 1000) r rs h
reward_within (r ∷ rs) (suc i) h = reward_within rs i (All-tail (λ r. nat_abs r ≤ 1000) r rs h)

earns_within : (o : Objective) (step : ℕ) (b : Branch) → All (λ r. nat_abs r ≤ 1000) b.rewards → nat_abs (earns o step b) ≤ 1000
earns_within o step b h =
    elim (ltb step o.bound) as (λ v. nat_abs (cond v (get_or b.rewards o.column (pos 0)) (pos 0)) ≤ 1000) [ true ↦ reward_within b.rewards o.column h | false ↦ zero-le ]

module _ (mean : Mean) (law : Lawful mean) (t : Table) (facts : Facts t) (k : ℕ) (r : Earning) (a : ℕ)
    (small : (step : ℕ) (b : Branch) → All (λ z. nat_abs z ≤ 1000) b.rewards → nat_abs (r step b) ≤ a) where
  value_within : (n s : ℕ) (p : Plan) → s < length t.states → Valid t n s p → nat_abs (value mean t k r n s p) ≤ n * (65536 * a)
  unfolding value
  value_within zero s p h v = zero-le
  value_within (suc n) s p h v =
      let c = choice_at t s (p []) in
      let f : ℕ → Branch → ℤ = λ j. grains r (k - suc n) (λ s. value mean t k r n s (after p j)) in
      let each : (j : ℕ) → j < length c → nat_abs (f j (get_or c j no_branch)) ≤ suc n * (65536 * a) =
      λ j l.
      let b = branch_facts t facts s h (p []) v.0 j l in
      let i = value_within n (next_at c j) (after p j) b.next_in (v.1 j l) in
      let e = small (k - suc n) (get_or c j no_branch) b.rewards_small in
      omega (arith, ints) in
      blend_within mean (weighed_by f c) t.divisor (suc n * (65536 * a)) law facts.divisor_low
      (all_weights_by f c ∙ (choice_facts t facts s h (p []) v.0).whole) (all_weighed (λ z. nat_abs z ≤ suc n * (65536 * a)) f c each)

pub rows_small : RowsSmall
rows_small up down t os ws n s high low facts h few =
    let w = weight_sum (λ i (o : Objective). get_or ws i 0) os in
    let v = plan_valid up down t os ws n s facts h in
    let p = sweep_plan up down t os ws n s in
    let all : (step : ℕ) (b : Branch) → All (λ z. nat_abs z ≤ 1000) b.rewards → nat_abs (earns_by ws os step b) ≤ w * 1000 =
    λ step b g. total_within (λ i o. get_or ws i 0) (λ i o. earns o step b) os 1000 (λ i o. earns_within o step b g) in
    let c = value_within up high t facts (horizon os) (earns_by ws os) (w * 1000) all n s p h v in
    let there : (i : ℕ) → i < length os → nat_abs (part_at (rows up down t os ws n) i s) ≤ n * 65536000 =
    λ i g.
    let o = get_or os i no_objective in
    rw (part_is_value up down t os ws n s i facts h g few) (value_within down low t facts (horizon os) (earns o) 1000 (earns_within o) n s p h v) in
    let past : (i : ℕ) → i < 4 → length os ≤ i → nat_abs (part_at (rows up down t os ws n) i s) ≤ n * 65536000 = λ i f g. rw (parts_past up down t os ws n s i h g f) zero-le in
    (rw (ceiling_is_value up down t os ws n s facts h) (omega arith), λ i f. ⊎_elim (there i) (past i f) (cases_lt i (length os)))
