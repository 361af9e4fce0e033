-- How large the numbers of a sweep get, also where nothing is read. Assumes nothing.
use Rattle.std.proofs.Common.{◌≡◌, ℕ, zero, suc, ◌+◌, ◌-◌, ◌*◌, ◌<◌, ◌≤◌, true, false, cond, ltb, ◌⊎◌, List, [], ◌∷◌, length, get_or, ℤ, pos, ◌+ℤ◌, ◌*ℤ◌, nat_abs, All, refl, ap, ◌∙◌, subst, inl, inr, ⊎_elim, zero-le, suc-mul, arith}
use Rattle.std.specs.List.{range_with_len}
use Rattle.std.proofs.lemmas.List.FromFn.{length-map-range_with_len}
use Rattle.std.proofs.lemmas.List.Elements.{All-nil, All-cons, All-head, All-tail, All-replicate, All-weaker, All-map}
use Rattle.std.proofs.lemmas.List.{length-replicate}
use Rattle.mdp.specs.Table.{Branch, Choice, Table, total_weight, BranchFacts, ChoiceFacts, StateFacts, Facts}
use Rattle.plans.specs.declared.Objective.{Objective}
use Rattle.plans.specs.declared.Row.{Row}
use Rattle.plans.specs.Totals.{◌·◌, total}
use Rattle.plans.specs.Blends.{Weighed, Mean, all_weights, Lawful}
use Rattle.plans.specs.Plans.{no_branch, no_objective, choices_at, choice_at, horizon, earns, earns_by}
use Rattle.plans.specs.Sweep.{no_row, zero_row, ceiling_at, part_at, weighed, grains, choice_ceiling, choice_part, taken, row_by, row_at, rows}
use Rattle.plans.proofs.Amounts.{natAbs_add, product_within}
use Rattle.plans.proofs.Blended.{blend_within}

-- what holds of each element and of the default holds of what is read
pub all_or : {X : Type 0} (P : X → Type 0) (xs : List X) (i : ℕ) (d : X) → P d → All P xs → P (get_or xs i d)
all_or P [] i d p h = p
all_or P (x ∷ xs) zero d p h = All-head P x xs h
all_or P (x ∷ xs) (suc i) d p h = all_or P xs i d p (All-tail P x xs h)

-- a table's branches and choices, or what is read in their place
pub record Fair (t : Table) (b : Branch) : Type 0 where
  pub next : b.next < length t.states
  pub few : length b.rewards ≤ 4
  pub rewards : (i : ℕ) → nat_abs (get_or b.rewards i (pos 0)) ≤ 1000

pub record Sound (t : Table) (bs : Choice) : Type 0 where
  pub whole : (bs ≡ []) ⊎ (total_weight bs ≡ t.divisor)
  pub light : total_weight bs ≤ t.divisor
  pub few : length bs ≤ 8
  pub branches : All (Fair t) bs

module _ (t : Table) (f : Facts t) where
  fair : (b : Branch) → BranchFacts (length t.states) t.divisor t.columns b → Fair t b
  fair b h = record {
    next = h.next_in;
    few = omega (arith, h.rewards_all, f.columns_high);
    rewards = λ i. all_or (λ r. nat_abs r ≤ 1000) b.rewards i (pos 0) zero-le h.rewards_small;
  }

  fair_none : Fair t no_branch
  fair_none = record { next = f.some; few = zero-le; rewards = λ i. zero-le }

  sound : (bs : Choice) → ChoiceFacts (length t.states) t.divisor t.columns bs → Sound t bs
  sound bs h = record { whole = inr h.whole; light = omega (arith, h.whole); few = h.few; branches = All-weaker (BranchFacts (length t.states) t.divisor t.columns) (Fair t) fair bs h.branches }

  sound_none : Sound t []
  sound_none = record { whole = inl refl; light = zero-le; few = zero-le; branches = All-nil (Fair t) }

  pub sound_at : (s k : ℕ) → Sound t (choice_at t s k)
  sound_at s k =
      let all : All (All (Sound t)) t.states = All-weaker (StateFacts (length t.states) t.divisor t.columns) (All (Sound t)) (λ cs h. All-weaker (ChoiceFacts (length t.states) t.divisor t.columns) (Sound t) sound cs h.choices) t.states f.each in
      all_or (Sound t) (choices_at t s) k [] sound_none (all_or (All (Sound t)) t.states s [] (All-nil (Sound t)) all)

  pub fair_at : (s k j : ℕ) → Fair t (get_or (choice_at t s k) j no_branch)
  fair_at s k j = all_or (Fair t) (choice_at t s k) j no_branch fair_none (sound_at s k).branches

-- what a branch earns
pub earns_within : (t : Table) (o : Objective) (step : ℕ) (b : Branch) → Fair t b → nat_abs (earns o step b) ≤ 1000
earns_within t o step b h =
    elim (ltb step o.bound) as (λ v. nat_abs (cond v (get_or b.rewards o.column (pos 0)) (pos 0)) ≤ 1000) [ true ↦ h.rewards o.column | false ↦ zero-le ]

total_within : {X : Type 0} (u : ℕ → X → ℕ) (f : ℕ → X → ℤ) (U F : ℕ) → ((i : ℕ) (x : X) → u i x ≤ U) → ((i : ℕ) (x : X) → nat_abs (f i x) ≤ F) → (xs : List X) → nat_abs (total u f xs) ≤ length xs * (U * F)
total_within u f U F p q [] = zero-le
total_within u f U F p q (x ∷ xs) =
    let rest = total_within (λ j. u (suc j)) (λ j. f (suc j)) U F (λ j. p (suc j)) (λ j. q (suc j)) xs in
    let one = product_within (u 0 x) (f 0 x) U F (p 0 x) (q 0 x) in
    omega (arith, natAbs_add (u 0 x · f 0 x) (total (λ j. u (suc j)) (λ j. f (suc j)) xs), suc-mul (length xs) (U * F))

pub earns_by_within : (t : Table) (os : List Objective) (ws : List ℕ) → length os ≤ 4 → All (λ w. w ≤ 1000) ws → (step : ℕ) (b : Branch) → Fair t b → nat_abs (earns_by ws os step b) ≤ 4000000
earns_by_within t os ws few light step b h =
    omega (arith, total_within (λ i o. get_or ws i 0) (λ i o. earns o step b) 1000 1000 (λ i o. all_or (λ w. w ≤ 1000) ws i 0 zero-le light) (λ i o. earns_within t o step b h) os)

-- in grains, onto what the next state is worth
pub grains_within : (r worth : ℤ) (n : ℕ) → nat_abs worth ≤ n → nat_abs r ≤ 4000000 → nat_abs (worth +ℤ pos 65536 *ℤ r) ≤ n + 262144000000
grains_within r worth n p q =
    let same : 65536 ≤ 65536 = omega arith in
    omega (arith, natAbs_add worth (pos 65536 *ℤ r), product_within 65536 r 65536 4000000 same q)

-- no row grows by more than 262144000000 in a step
Within : ℕ → Row → Type 0
Within n r = (nat_abs r.ceiling ≤ n) × ((i : ℕ) → nat_abs (get_or r.parts i (pos 0)) ≤ n)

within_none : (n : ℕ) → Within n no_row
unfolding Within
within_none n = (zero-le, λ i. zero-le)

ceiling_read : (n : ℕ) (next : List Row) → All (Within n) next → (s : ℕ) → nat_abs (ceiling_at next s) ≤ n
unfolding Within
ceiling_read n next h s = (all_or (Within n) next s no_row (within_none n) h).0

part_read : (n : ℕ) (next : List Row) → All (Within n) next → (i s : ℕ) → nat_abs (part_at next i s) ≤ n
unfolding Within
part_read n next h i s = (all_or (Within n) next s no_row (within_none n) h).1 i

all_true : {X : Type 0} {P : X → Type 0} → ((x : X) → P x) → (xs : List X) → All P xs
all_true p xs = λ k d l. p (get_or xs k d)

all_four : {X : Type 0} (P : X → Type 0) (a b c d : X) → P a → P b → P c → P d → All P (a ∷ b ∷ c ∷ d ∷ [])
all_four P a b c d p q r s = All-cons P a (b ∷ c ∷ d ∷ []) p (All-cons P b (c ∷ d ∷ []) q (All-cons P c (d ∷ []) r (All-cons P d [] s (All-nil P))))

weighed_weights : (g : Branch → ℤ) (bs : Choice) → all_weights (weighed g bs) ≡ total_weight bs
weighed_weights g [] = refl
weighed_weights g (b ∷ bs) = ap (λ n. b.weight + n) (weighed_weights g bs)

weighed_small : (t : Table) (g : Branch → ℤ) (A : ℕ) → ((b : Branch) → Fair t b → nat_abs (g b) ≤ A) → (bs : Choice) → All (Fair t) bs → All (λ x. nat_abs x.amount ≤ A) (weighed g bs)
weighed_small t g A each [] h = All-nil (λ (x : Weighed). nat_abs x.amount ≤ A)
weighed_small t g A each (b ∷ bs) h =
    All-cons (λ (x : Weighed). nat_abs x.amount ≤ A) _ (weighed g bs) (each b (All-head (Fair t) b bs h)) (weighed_small t g A each bs (All-tail (Fair t) b bs h))

module _ (t : Table) (f : Facts t) where
  blended_within : (mean : Mean) → Lawful mean → (g : Branch → ℤ) (A : ℕ) → ((b : Branch) → Fair t b → nat_abs (g b) ≤ A) → (s k : ℕ) → nat_abs (mean (weighed g (choice_at t s k)) t.divisor) ≤ A
  blended_within mean laws g A each s k =
      let bs = choice_at t s k in
      let h = sound_at t f s k in
      ⊎_elim
      (λ e. let none : mean (weighed g bs) t.divisor ≡ pos 0 = ap (λ bs. mean (weighed g bs) t.divisor) e ∙ laws.none [] t.divisor f.divisor_low (All-nil (λ (x : Weighed). x.amount ≡ pos 0)) in omega (arith, ap nat_abs none))
      (λ e. blend_within mean (weighed g bs) t.divisor A laws f.divisor_low (weighed_weights g bs ∙ e) (weighed_small t g A each bs h.branches))
      h.whole

  module _ (up down : Mean) (lu : Lawful up) (ld : Lawful down) (os : List Objective) (ws : List ℕ) (few : length os ≤ 4) (light : All (λ w. w ≤ 1000) ws) where
    module _ (step n : ℕ) (next : List Row) (ceilings : (s : ℕ) → nat_abs (ceiling_at next s) ≤ n) (parts : (i s : ℕ) → nat_abs (part_at next i s) ≤ n) (s k : ℕ) where
      choice_ceiling_within : nat_abs (choice_ceiling up down t os ws step next s k) ≤ n + 262144000000
      choice_ceiling_within =
          blended_within up lu (grains (earns_by ws os) step (ceiling_at next)) (n + 262144000000) (λ b h. grains_within (earns_by ws os step b) (ceiling_at next b.next) n (ceilings b.next) (earns_by_within t os ws few light step b h)) s k

      choice_part_within : (i : ℕ) → nat_abs (choice_part up down t os ws step next s k i) ≤ n + 262144000000
      choice_part_within i =
          let o = get_or os i no_objective in
          let g = grains (earns o) step (part_at next i) in
          let each : (b : Branch) → Fair t b → nat_abs (g b) ≤ n + 262144000000 = λ b h. grains_within (earns o step b) (part_at next i b.next) n (parts i b.next) (omega (arith, earns_within t o step b h)) in
          let p = blended_within down ld g (n + 262144000000) each s k in
          elim (ltb i (length os)) as (λ v. nat_abs (cond v (down (weighed g (choice_at t s k)) t.divisor) (pos 0)) ≤ n + 262144000000) [ true ↦ p | false ↦ zero-le ]

      row_by_within : Within (n + 262144000000) (row_by up down t os ws step next s k)
      unfolding Within
      row_by_within =
          let p = choice_part_within in
          (choice_ceiling_within, λ i. all_or (λ z. nat_abs z ≤ n + 262144000000) (row_by up down t os ws step next s k).parts i (pos 0) zero-le (all_four (λ z. nat_abs z ≤ n + 262144000000) _ _ _ _ (p 0) (p 1) (p 2) (p 3)))

    rows_within_each : (n : ℕ) → All (Within (n * 262144000000)) (rows up down t os ws n)
    unfolding rows Within
    rows_within_each zero = All-replicate (Within 0) (length t.states) zero_row (zero-le, λ i. all_or (λ z. nat_abs z ≤ 0) zero_row.parts i (pos 0) zero-le (all_four (λ z. nat_abs z ≤ 0) _ _ _ _ zero-le zero-le zero-le zero-le))
    rows_within_each (suc n) =
        let step = horizon os - suc n in
        let next = rows up down t os ws n in
        let h = rows_within_each n in
        let e : n * 262144000000 + 262144000000 ≡ suc n * 262144000000 = omega arith in
        let P : ℕ → Type 0 = λ m. All (Within m) (rows up down t os ws (suc n)) in
        subst P e (All-map (Within (n * 262144000000 + 262144000000)) (row_at up down t os ws step next) (range_with_len 0 (length t.states)) (all_true (λ s. row_by_within step (n * 262144000000) next (λ s. ceiling_read (n * 262144000000) next h s) (λ i s. part_read (n * 262144000000) next h i s) s (taken up down t os ws step next s)) (range_with_len 0 (length t.states))))

    pub rows_ceiling_within : (n s : ℕ) → nat_abs (ceiling_at (rows up down t os ws n) s) ≤ n * 262144000000
    rows_ceiling_within n s = ceiling_read (n * 262144000000) (rows up down t os ws n) (rows_within_each n) s

    pub rows_part_within : (n i s : ℕ) → nat_abs (part_at (rows up down t os ws n) i s) ≤ n * 262144000000
    rows_part_within n i s = part_read (n * 262144000000) (rows up down t os ws n) (rows_within_each n) i s

pub rows_length : (up down : Mean) (t : Table) (os : List Objective) (ws : List ℕ) (n : ℕ) → length (rows up down t os ws n) ≡ length t.states
unfolding rows
rows_length up down t os ws zero = length-replicate (length t.states) zero_row
rows_length up down t os ws (suc n) = length-map-range_with_len (row_at up down t os ws (horizon os - suc n) (rows up down t os ws n)) 0 (length t.states)

pub horizon_few : (os : List Objective) → All (λ o. o.bound ≤ 256) os → horizon os ≤ 256
horizon_few [] h = zero-le
horizon_few (o ∷ os) h =
    let r = horizon_few os (All-tail (λ (o : Objective). o.bound ≤ 256) o os h) in
    let b : o.bound ≤ 256 = All-head (λ (o : Objective). o.bound ≤ 256) o os h in
    omega arith
