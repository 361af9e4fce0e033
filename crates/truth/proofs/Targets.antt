-- New targets: which objectives they give, and that a sweep reads none. Assumes nothing.
use Rattle.std.proofs.Common.{◌≡◌, ℕ, zero, suc, ◌-◌, max, cond, ltb, List, [], ◌∷◌, map, length, get_or, ℤ, pos, All, sym, refl, ap, ◌∙◌, arith}
use lib.ListN.{length-map, get_or-map}
use Rattle.std.specs.List.{range_with_len}
use Rattle.std.proofs.lemmas.List.Elements.{All-nil, All-cons, All-head, All-tail}
use Rattle.mdp.specs.Table.{Table}
use Rattle.plans.specs.declared.Objective.{Objective}
use Rattle.plans.specs.declared.Row.{Row}
use Rattle.plans.specs.Blends.{Mean, mean_up, mean_down}
use Rattle.plans.specs.Plans.{Earning, Share, no_objective, choices_at, choice_at, next_at, earns, earns_by, horizon}
use Rattle.plans.specs.Sweep.{no_row, ceiling_at, part_at, weighed, grains, best, taken, rows, sweep_plan}
use Rattle.plans.specs.Claims.{Candidate, mean_plan, mean_rows, planned}
use Rattle.plans.proofs.Sums.{total_map}
use Rattle.truth.specs.Dockets.{swept, backed, each_by, aimed}
use Rattle.truth.specs.Claims.{Accepted, Small, targets, PlansKept}

-- ---- the objectives that new targets give
-- what changes no g of an element changes no list of them
pub map_each_by : {X Y : Type 0} (g : X → Y) (h : ℕ → X → X) → ((j : ℕ) (x : X) → g (h j x) ≡ g x) → (xs : List X) → map g (each_by h xs) ≡ map g xs
map_each_by g h same [] = refl
map_each_by g h same (x ∷ xs) = λ i. same 0 x i ∷ map_each_by g (λ j. h (suc j)) (λ j. same (suc j)) xs i

pub length_each_by : {X Y : Type 0} (h : ℕ → X → Y) (xs : List X) → length (each_by h xs) ≡ length xs
length_each_by h [] = refl
length_each_by h (x ∷ xs) = ap suc (length_each_by (λ j. h (suc j)) xs)

pub targets_aimed : (ts : List ℤ) (os : List Objective) → length ts ≡ length os → targets (each_by (aimed ts) os) ≡ ts
targets_aimed [] [] e = refl
targets_aimed [] (o ∷ os) e = absurd (omega arith)
targets_aimed (z ∷ ts) [] e = absurd (omega arith)
targets_aimed (z ∷ ts) (o ∷ os) e = ap (λ zs. z ∷ zs) (targets_aimed ts os (omega arith))

pub accepted_aimed : (t : Table) (ts : List ℤ) (os : List Objective) → length ts ≡ length os → All Small ts → All (Accepted t) os → All (Accepted t) (each_by (aimed ts) os)
accepted_aimed t ts [] e s h = All-nil (Accepted t)
accepted_aimed t [] (o ∷ os) e s h = absurd (omega arith)
accepted_aimed t (z ∷ ts) (o ∷ os) e s h =
    let a = All-head (Accepted t) o os h in
    let small = All-head Small z ts s in
    All-cons (Accepted t) (aimed (z ∷ ts) 0 o) (each_by (aimed ts) os) (record { there = a.there; some = a.some; short = a.short; low = small.0; high = small.1 })
    (accepted_aimed t ts os (omega arith) (All-tail Small z ts s) (All-tail (Accepted t) o os h))

-- ---- a sweep is one of objectives without targets
abbrev bare : Objective → Objective
bare o = record { column = o.column; bound = o.bound; target = pos 0 }

horizon_bare : (os : List Objective) → horizon (map bare os) ≡ horizon os
horizon_bare [] = refl
horizon_bare (o ∷ os) = ap (λ n. max o.bound n) (horizon_bare os)

-- the ceiling of a choice, and the row of a state, by what a sweep reads of its objectives
abbrev ceiling_by : Mean → Table → Earning → ℕ → List Row → ℕ → ℕ → ℤ
ceiling_by up t r step next s k = up (weighed (grains r step (ceiling_at next)) (choice_at t s k)) t.divisor

abbrev taken_by : Mean → Table → Earning → ℕ → List Row → ℕ → ℕ
taken_by up t r step next s = best (ceiling_by up t r step next s) (length (choices_at t s))

abbrev row_by : Mean → Mean → Table → Earning → (ℕ → Earning) → ℕ → ℕ → List Row → ℕ → Row
row_by up down t r rs n step next s =
    let k = taken_by up t r step next s in
    let part : ℕ → ℤ = λ i. cond (ltb i n) (down (weighed (grains (rs i) step (part_at next i)) (choice_at t s k)) t.divisor) (pos 0) in
    record { ceiling = ceiling_by up t r step next s k; parts = part 0 ∷ part 1 ∷ part 2 ∷ part 3 ∷ [] }

module _ (t : Table) (ws : List ℕ) (os : List Objective) where
  earns_bare : earns_by ws (map bare os) ≡ earns_by ws os
  earns_bare i step b = total_map bare (λ i (o : Objective). get_or ws i 0) (λ i o. earns o step b) os i

  rows_bare : (n : ℕ) → mean_rows t (map bare os) ws n ≡ mean_rows t os ws n
  unfolding rows
  rows_bare zero = refl
  rows_bare (suc n) =
      λ i. map (row_by mean_up mean_down t (earns_bare i) (λ j. earns (get_or-map bare os j no_objective i)) (length-map os bare i) (horizon_bare os i - suc n) (rows_bare n i))
      (range_with_len 0 (length t.states))

  taken_bare : (n s : ℕ) →
      taken mean_up mean_down t (map bare os) ws (horizon (map bare os) - suc n) (mean_rows t (map bare os) ws n) s
      ≡ taken mean_up mean_down t os ws (horizon os - suc n) (mean_rows t os ws n) s
  taken_bare n s i = taken_by mean_up t (earns_bare i) (horizon_bare os i - suc n) (rows_bare n i) s

  plan_bare : (n s : ℕ) (h : List ℕ) → mean_plan t (map bare os) ws n s h ≡ mean_plan t os ws n s h
  unfolding sweep_plan
  plan_bare zero s h = refl
  plan_bare (suc n) s [] = taken_bare n s
  plan_bare (suc n) s (j ∷ h) =
      ap (λ k. mean_plan t (map bare os) ws n (next_at (choice_at t s k) j) h) (taken_bare n s)
      ∙ plan_bare n (next_at (choice_at t s (taken mean_up mean_down t os ws (horizon os - suc n) (mean_rows t os ws n) s)) j) h

-- what is the same for objectives without targets is the same for new ones
same_aimed : {Y : Type 0} (f : List Objective → Y) → ((os : List Objective) → f (map bare os) ≡ f os) → (ts : List ℤ) (os : List Objective) → f (each_by (aimed ts) os) ≡ f os
same_aimed f same ts os = sym (same (each_by (aimed ts) os)) ∙ ap f (map_each_by bare (aimed ts) (λ j o. refl) os) ∙ same os

pub swept_aimed : (t : Table) (ws : List ℕ) (ts : List ℤ) (os : List Objective) → swept t (each_by (aimed ts) os) ws ≡ swept t os ws
swept_aimed t ws = same_aimed (λ os. swept t os ws) (λ os i. get_or (rows_bare t ws os (horizon_bare os i) i) t.first no_row)

pub plans_kept : PlansKept
plans_kept t d ts ss =
    ap (λ (f : Candidate → Share). map f (backed ss d.table))
    (same_aimed (planned t)
    (λ os i c. record { share = c.share; plan = λ h. plan_bare t c.weights os (horizon_bare os i) t.first h i }) ts d.objectives)
