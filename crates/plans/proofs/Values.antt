-- The value of a plan by a blend: the ceiling bounds it, and the sweep's plan has it. Assumes nothing.
use Rattle.std.proofs.Common.{◌≡◌, ℕ, zero, suc, ◌-◌, ◌<◌, List, [], length, get_or, ℤ, pos, ◌+ℤ◌, ◌*ℤ◌, ◌≤ℤ◌, sym, refl, ap, ◌∙◌, arith}
use borrow.Author.Differences.{ints}
use Rattle.mdp.specs.Table.{Branch, Table, Facts}
use Rattle.plans.specs.declared.Objective.{Objective}
use Rattle.plans.specs.Blends.{Mean}
use Rattle.plans.specs.Plans.{Earning, no_branch, no_objective, choices_at, choice_at, next_at, after, earns, earns_by, horizon}
use Rattle.plans.specs.Sweep.{ceiling_at, part_at, weighed, grains, choice_ceiling, rows, sweep_plan}
use Rattle.plans.specs.Claims.{weighed_by, value, CeilingBoundsValue, CeilingIsValue, PartIsValue, PartsPast, PlanValid}
use Rattle.plans.proofs.Bests.{best_first}
use Rattle.plans.proofs.Blended.{weighed_le, weighed_same}
use Rattle.plans.proofs.Places.{state_facts, branch_facts, pick, pick_in, ceiling_none, ceiling_step, part_none, part_step, part_past}

pub plan_valid : PlanValid
unfolding sweep_plan
plan_valid up down t os ws zero s facts h = tt
plan_valid up down t os ws (suc n) s facts h =
    let k = pick up down t os ws n s in
    let g = pick_in up down t os ws facts n s h in
    (g, λ j l. plan_valid up down t os ws n (next_at (choice_at t s k) j) facts (branch_facts t facts s h k g j l).next_in)

pub ceiling_bounds_value : CeilingBoundsValue
unfolding value
ceiling_bounds_value up down t os ws zero s p law facts h v = let e = ceiling_none up down t os ws s h in omega (arith, ints)
ceiling_bounds_value up down t os ws (suc n) s p law facts h v =
    let k = horizon os in
    let r = earns_by ws os in
    let next = rows up down t os ws n in
    let c = choice_at t s (p []) in
    let most = (best_first (choice_ceiling up down t os ws (k - suc n) next s) (length (choices_at t s)) (state_facts t facts s h).some).1 (p []) v.0 in
    let f : ℕ → Branch → ℤ = λ j. grains r (k - suc n) (λ s. value up t k r n s (after p j)) in
    let g = grains r (k - suc n) (ceiling_at next) in
    let each : (j : ℕ) → j < length c → f j (get_or c j no_branch) ≤ℤ g (get_or c j no_branch) =
    λ j l.
    let i = ceiling_bounds_value up down t os ws n (next_at c j) (after p j) law facts (branch_facts t facts s h (p []) v.0 j l).next_in (v.1 j l) in
    omega (arith, ints) in
    let low = law.larger (weighed_by f c) (weighed_by (λ j. g) c) t.divisor facts.divisor_low (weighed_le f (λ j. g) c each) in
    let same = ap (λ xs. up xs t.divisor) (weighed_same (λ j. g) g c (λ j l. refl)) in
    let e = ceiling_step up down t os ws s h n in
    omega (arith, ints)

module _ (up down : Mean) (t : Table) (os : List Objective) (ws : List ℕ) (facts : Facts t) where
  -- what starts at 0 and goes by a blend over the choices taken is the value of the sweep's plan
  by_steps : (mean : Mean) (r : Earning) (q : ℕ → ℕ → ℤ) →
      ((s : ℕ) → s < length t.states → q 0 s ≡ pos 0) →
      ((s : ℕ) → s < length t.states → (n : ℕ) → q (suc n) s ≡ mean (weighed (grains r (horizon os - suc n) (q n)) (choice_at t s (pick up down t os ws n s))) t.divisor) →
      (n s : ℕ) → s < length t.states → q n s ≡ value mean t (horizon os) r n s (sweep_plan up down t os ws n s)
  unfolding value sweep_plan
  by_steps mean r q none step zero s h = none s h
  by_steps mean r q none step (suc n) s h =
      let k = pick up down t os ws n s in
      let c = choice_at t s k in
      let f : ℕ → Branch → ℤ = λ j. grains r (horizon os - suc n) (λ s. value mean t (horizon os) r n s (sweep_plan up down t os ws n (next_at c j))) in
      let g = grains r (horizon os - suc n) (q n) in
      let each : (j : ℕ) → j < length c → f j (get_or c j no_branch) ≡ g (get_or c j no_branch) =
      λ j l.
      let i = by_steps mean r q none step n (next_at c j) (branch_facts t facts s h k (pick_in up down t os ws facts n s h) j l).next_in in
      ap (λ z. z +ℤ pos 65536 *ℤ r (horizon os - suc n) (get_or c j no_branch)) (sym i) in
      step s h n ∙ ap (λ xs. mean xs t.divisor) (sym (weighed_same f g c each))

pub ceiling_is_value : CeilingIsValue
ceiling_is_value up down t os ws n s facts h =
    by_steps up down t os ws facts up (earns_by ws os) (λ n s. ceiling_at (rows up down t os ws n) s) (ceiling_none up down t os ws) (ceiling_step up down t os ws) n s h

pub part_is_value : PartIsValue
part_is_value up down t os ws n s i facts h g few =
    by_steps up down t os ws facts down (earns (get_or os i no_objective)) (λ n s. part_at (rows up down t os ws n) i s)
    (λ s h. part_none up down t os ws s h i (omega arith)) (λ s h. part_step up down t os ws s h i (omega arith) g) n s h

pub parts_past : PartsPast
parts_past up down t os ws n s i h past four = part_past up down t os ws s h i four past n
