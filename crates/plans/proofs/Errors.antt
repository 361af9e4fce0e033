-- How far a value lies from the exact expected reward of its plan. Assumes nothing.
use Rattle.std.proofs.Common.{◌≡◌, ℕ, zero, suc, ◌+◌, ◌-◌, ◌*◌, ◌^◌, ◌<◌, ◌≤◌, List, [], ◌∷◌, length, get_or, ℤ, pos, ◌+ℤ◌, ◌-ℤ◌, neg_ℤ, ◌≤ℤ◌, sym, refl, ap, ◌∙◌, ⊎_elim, pow-suc, arith}
use borrow.Author.Differences.{ints, same_in, same_out, sum_is_lem, neg_is, product_is, le_out, at_most_in}
use Rattle.std.proofs.lemmas.Bool.{cases_lt}
use Rattle.mdp.specs.Table.{Branch, Choice, Table, Facts, total_weight}
use Rattle.plans.specs.declared.Objective.{Objective}
use Rattle.plans.specs.Totals.{◌·◌, weight_sum, total}
use Rattle.plans.specs.Blends.{Weighed, Mean, Lawful}
use Rattle.plans.specs.Plans.{Earning, Plan, Valid, no_branch, branch_weight, choice_at, next_at, after, earns, earns_by, exact, weighted}
use Rattle.plans.specs.Sweep.{grains}
use Rattle.plans.specs.Claims.{weighed_by, value, sum_of}
use Rattle.plans.proofs.Ints.{scale_add, scale_neg, scale_scale, scale_sum, scale_swap, scale_zero, scale_le}
use Rattle.plans.proofs.Sums.{total_le, total_eq, total_scale, total_add, total_same, total_none, total_swap}
use Rattle.plans.proofs.Blended.{all_weighed, sum_by}
use Rattle.plans.proofs.Places.{choice_facts, branch_facts}

-- the reward of weighted earnings is the weighted reward
pub exact_by : (t : Table) (k : ℕ) (ws : List ℕ) (os : List Objective) (n s : ℕ) (p : Plan) →
    exact t k (earns_by ws os) n s p ≡ weighted ws os (λ o. exact t k (earns o) n s p)
unfolding exact
exact_by t k ws os zero s p = sym (total_none (λ i (o : Objective). get_or ws i 0) os)
exact_by t k ws os (suc n) s p =
    let u : ℕ → Objective → ℕ = λ i o. get_or ws i 0 in
    let e = t.divisor ^ n in
    let c = choice_at t s (p []) in
    let now : ℕ → Objective → ℕ → Branch → ℤ = λ i o j b. e · earns o (k - suc n) b in
    let later : ℕ → Objective → ℕ → Branch → ℤ = λ i o j b. exact t k (earns o) n b.next (after p j) in
    let each : (j : ℕ) (b : Branch) → e · earns_by ws os (k - suc n) b +ℤ exact t k (earns_by ws os) n b.next (after p j) ≡ total u (λ i o. now i o j b +ℤ later i o j b) os =
    λ j b.
    let x = total_scale u e (λ i o. earns o (k - suc n) b) os in
    let y = exact_by t k ws os n b.next (after p j) in
    let z = total_add u (λ i o. now i o j b) (λ i o. later i o j b) os in
    omega (arith, same_in, same_out, sum_is_lem) in
    total_eq branch_weight _ _ c each ∙ sym (total_swap u branch_weight (λ i o j b. now i o j b +ℤ later i o j b) os c)

-- what a blend adds to the sum of weight × amount, times the divisor
abbrev pub rounding : Mean → List Weighed → ℕ → ℤ
rounding mean xs d = d · mean xs d -ℤ sum_of xs

one_more : (d e g : ℕ) (z : ℤ) → (suc g * (e * d)) · z ≡ d · (e · z) +ℤ d · ((g * e) · z)
one_more d e g z =
    let a = scale_scale d e z in
    let b = scale_scale d (g * e) z in
    let c = scale_sum (d * e) (d * (g * e)) z in
    let f : suc g * (e * d) ≡ d * e + d * (g * e) = omega arith in
    let h = ap (λ (n : ℕ). n · z) f in
    omega (arith, same_in, same_out, sum_is_lem)

abbrev pub Between : ℤ → ℤ → ℤ → Type 0
Between lo hi z = (lo ≤ℤ z) × (z ≤ℤ hi)

-- a choice's average of numbers between two, times its weight
total_between : (lo hi : ℤ) (f : ℕ → Branch → ℤ) (c : Choice) (d : ℕ) → total_weight c ≡ d → ((j : ℕ) → j < length c → Between lo hi (f j (get_or c j no_branch))) →
    Between (d · lo) (d · hi) (total branch_weight f c)
total_between lo hi f c d e h =
    let w = choice_weight c ∙ e in
    let a = total_le branch_weight (λ j b. lo) f c no_branch (λ j l. (h j l).0) in
    let b = total_le branch_weight f (λ j b. hi) c no_branch (λ j l. (h j l).1) in
    let x = total_same branch_weight lo c ∙ ap (λ (n : ℕ). n · lo) w in
    let y = total_same branch_weight hi c ∙ ap (λ (n : ℕ). n · hi) w in
    (omega (arith, at_most_in, le_out, same_out), omega (arith, at_most_in, le_out, same_out))
  where
    choice_weight : (bs : Choice) → weight_sum branch_weight bs ≡ total_weight bs
    choice_weight [] = refl
    choice_weight (b ∷ bs) = ap (λ n. b.weight + n) (choice_weight bs)

branch_error : (m e : ℕ) (v g x : ℤ) → e · (v +ℤ m · g) ≡ (e · v -ℤ m · x) +ℤ m · (e · g +ℤ x)
branch_error m e v g x =
    let a = scale_add e v (m · g) in
    let b = scale_add m (e · g) x in
    let c = scale_swap e m g in
    omega (arith, same_in, same_out, sum_is_lem, neg_is)

module _ (mean : Mean) (t : Table) (k : ℕ) (r : Earning) where
  unfoldable pub error : ℕ → ℕ → Plan → ℤ
  error n s p = (t.divisor ^ n) · value mean t k r n s p -ℤ 65536 · exact t k r n s p

  amounts : ℕ → Plan → ℕ → Branch → ℤ
  amounts n p j = grains r (k - suc n) (λ s. value mean t k r n s (after p j))

  -- the error of a step, and those of what comes after it
  error_step : (n s : ℕ) (p : Plan) →
      error (suc n) s p
      ≡ (t.divisor ^ n) · rounding mean (weighed_by (amounts n p) (choice_at t s (p []))) t.divisor
      +ℤ total branch_weight (λ j b. error n b.next (after p j)) (choice_at t s (p []))
  unfolding error amounts value exact
  error_step n s p =
      let d = t.divisor in
      let e = d ^ n in
      let c = choice_at t s (p []) in
      let f = amounts n p in
      let v = mean (weighed_by f c) d in
      let x : ℕ → Branch → ℤ = λ j b. e · r (k - suc n) b +ℤ exact t k r n b.next (after p j) in
      let l : ℕ → Branch → ℤ = λ j b. error n b.next (after p j) in
      let each : (j : ℕ) (b : Branch) → e · f j b ≡ l j b +ℤ 65536 · x j b =
      λ j b. branch_error 65536 e (value mean t k r n b.next (after p j)) (r (k - suc n) b) (exact t k r n b.next (after p j)) in
      let a = total_scale branch_weight e f c ∙ total_eq branch_weight (λ j b. e · f j b) (λ j b. l j b +ℤ 65536 · x j b) c each ∙ total_add branch_weight l (λ j b. 65536 · x j b) c in
      let b = total_scale branch_weight 65536 x c in
      let m = ap (λ z. e · z) (sum_by f c) in
      let q = ap (λ (n : ℕ). n · v) (pow-suc d n) ∙ sym (scale_scale e d v) in
      let w = scale_add e (d · v) (neg_ℤ (sum_of (weighed_by f c))) in
      let y = scale_neg e (sum_of (weighed_by f c)) in
      omega (arith, same_in, same_out, sum_is_lem, neg_is)

  -- ---- the last m steps, which earn nothing, have no error
  module _ (law : Lawful mean) (facts : Facts t) (m : ℕ) (idle : (n : ℕ) (b : Branch) → n < m → r (k - suc n) b ≡ pos 0) where
    value_none : (n s : ℕ) (p : Plan) → n ≤ m → value mean t k r n s p ≡ pos 0
    unfolding value amounts
    value_none zero s p h = refl
    value_none (suc n) s p h =
        let c = choice_at t s (p []) in
        let each : (j : ℕ) → j < length c → amounts n p j (get_or c j no_branch) ≡ pos 0 =
        λ j l.
        let v = value_none n (next_at c j) (after p j) (omega arith) in
        let e = idle n (get_or c j no_branch) (omega arith) in
        omega (arith, ints) in
        law.none (weighed_by (amounts n p) c) t.divisor facts.divisor_low (all_weighed (λ z. z ≡ pos 0) (amounts n p) c each)

    exact_none : (n s : ℕ) (p : Plan) → n ≤ m → exact t k r n s p ≡ pos 0
    unfolding exact
    exact_none zero s p h = refl
    exact_none (suc n) s p h =
        let e = t.divisor ^ n in
        let each : (j : ℕ) (b : Branch) → e · r (k - suc n) b +ℤ exact t k r n b.next (after p j) ≡ pos 0 =
        λ j b.
        let x = ap (λ z. e · z) (idle n b (omega arith)) ∙ scale_zero e in
        let y = exact_none n b.next (after p j) (omega arith) in
        omega (arith, same_in, same_out, sum_is_lem) in
        total_eq branch_weight _ _ (choice_at t s (p [])) each ∙ total_none branch_weight (choice_at t s (p []))

    error_none : (n s : ℕ) (p : Plan) → n ≤ m → error n s p ≡ pos 0
    unfolding error
    error_none n s p h =
        let a = ap (λ z. (t.divisor ^ n) · z) (value_none n s p h) ∙ scale_zero (t.divisor ^ n) in
        let b = exact_none n s p h in
        omega (arith, ints)

    -- ---- each step before them adds what its rounding adds
    module _ (lo hi : ℤ) (rounds : (xs : List Weighed) → Between lo hi (rounding mean xs t.divisor)) where
      abbrev Held : ℕ → ℕ → Plan → Type 0
      Held n s p = Between (((n - m) * t.divisor ^ n) · lo) (((n - m) * t.divisor ^ n) · hi) (t.divisor · error n s p)

      held_none : (n s : ℕ) (p : Plan) → n ≤ m → Held n s p
      held_none n s p h =
          let z = ap (λ z. t.divisor · z) (error_none n s p h) ∙ scale_zero t.divisor in
          let g : n - m ≡ 0 = omega arith in
          let w = ap (λ (g : ℕ). g * t.divisor ^ n) g in
          let a = ap (λ (g : ℕ). g · lo) w in
          let b = ap (λ (g : ℕ). g · hi) w in
          (omega (arith, at_most_in, same_out, product_is), omega (arith, at_most_in, same_out, product_is))

      held_step : (n s : ℕ) (p : Plan) → s < length t.states → Valid t (suc n) s p → ((s : ℕ) (p : Plan) → s < length t.states → Valid t n s p → Held n s p) → m ≤ n → Held (suc n) s p
      held_step n s p h v below g =
          let d = t.divisor in
          let e = d ^ n in
          let c = choice_at t s (p []) in
          let x = rounding mean (weighed_by (amounts n p) c) d in
          let l : ℕ → Branch → ℤ = λ j b. error n b.next (after p j) in
          let q = rounds (weighed_by (amounts n p) c) in
          let low = scale_le d (e · lo) (e · x) (scale_le e lo x q.0) in
          let high = scale_le d (e · x) (e · hi) (scale_le e x hi q.1) in
          let each : (j : ℕ) → j < length c → Held n (next_at c j) (after p j) = λ j i. below (next_at c j) (after p j) (branch_facts t facts s h (p []) v.0 j i).next_in (v.1 j i) in
          let rest = total_between (((n - m) * e) · lo) (((n - m) * e) · hi) (λ j b. d · l j b) c d (choice_facts t facts s h (p []) v.0).whole each in
          let a = ap (λ z. d · z) (error_step n s p) ∙ scale_add d (e · x) (total branch_weight l c) in
          let b = total_scale branch_weight d l c in
          let k : suc n - m ≡ suc (n - m) = omega arith in
          let f = ap (λ i. i * d ^ suc n) k ∙ ap (λ i. suc (n - m) * i) (pow-suc d n) in
          let y = ap (λ (n : ℕ). n · lo) f ∙ one_more d e (n - m) lo in
          let w = ap (λ (n : ℕ). n · hi) f ∙ one_more d e (n - m) hi in
          (omega (arith, at_most_in, le_out, same_out, sum_is_lem), omega (arith, at_most_in, le_out, same_out, sum_is_lem))

      pub error_within : (n s : ℕ) (p : Plan) → s < length t.states → Valid t n s p → Held n s p
      error_within zero s p h v = held_none 0 s p (omega arith)
      error_within (suc n) s p h v = ⊎_elim (held_none (suc n) s p) (held_step n s p h v (error_within n)) (cases_lt n m)
