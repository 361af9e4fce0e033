-- The gains of the columns. Assumes nothing.
use Rattle.std.proofs.Common.{◌≡◌, ℕ, zero, suc, ◌+◌, ◌*◌, ◌^◌, ◌<◌, ◌≤◌, Bool, true, false, cond, ◌&&◌, eqb, List, [], ◌∷◌, map, length, get_or, sum, ℤ, pos, ◌+ℤ◌, All, sym, refl, ap, ◌∙◌, zero-le, zero-add, arith}
use borrow.Author.Differences.{same_in, sum_is_lem, product_is}
use Rattle.std.proofs.lemmas.List.{get_or_past}
use Rattle.std.proofs.lemmas.List.Elements.{All-head, All-tail}
use Rattle.std.proofs.lemmas.List.Sums.{sum_by-cons}
use Rattle.std.proofs.lemmas.Int.{ints}
use Rattle.std.proofs.lemmas.Bool.{ne_eqb, and_left, and_right}
use Rattle.mdp.specs.Table.{Branch}
use Rattle.plans.specs.declared.Objective.{Objective}
use Rattle.plans.specs.Totals.{◌·◌, total}
use Rattle.plans.specs.Plans.{earns, earns_by}
use Rattle.sweep.specs.Limits.{max_weight}
use Rattle.sweep.specs.Gains.{counts, column_gain, column_gains}
use Rattle.sweep.specs.Steps.{earned}
use Rattle.sweep.specs.Swept.{Asked}

-- the same sum, objective by objective
gain : List ℕ → List Objective → ℕ → ℕ → ℕ
gain [] os step column = 0
gain (w ∷ ws) [] step column = 0
gain (w ∷ ws) (o ∷ os) step column = cond (eqb o.column column && counts o step) w 0 + gain ws os step column

sum_if : (v : Bool) (w : ℕ) (ns : List ℕ) → sum (cond v (w ∷ ns) ns) ≡ cond v w 0 + sum ns
sum_if true w ns = sum_by-cons (λ n. n) w ns
sum_if false w ns = sym (zero-add (sum ns))

map_if : {X Y : Type 0} (f : X → Y) (v : Bool) (x : X) (xs : List X) → map f (cond v (x ∷ xs) xs) ≡ cond v (f x ∷ map f xs) (map f xs)
map_if f true x xs = refl
map_if f false x xs = refl

gain_is : (ws : List ℕ) (os : List Objective) (step column : ℕ) → column_gain ws os step column ≡ gain ws os step column
unfolding gain
gain_is [] [] step column = refl
gain_is [] (o ∷ os) step column = refl
gain_is (w ∷ ws) [] step column = refl
gain_is (w ∷ ws) (o ∷ os) step column =
    let v = eqb o.column column && counts o step in
    ap sum (map_if (λ (p : Objective × ℕ). p.1) v (o, w) _) ∙ sum_if v w _ ∙ ap (λ n. cond v w 0 + n) (gain_is ws os step column)

gain_within : (m : ℕ) (ws : List ℕ) (os : List Objective) (step column : ℕ) → All (λ w. w ≤ m) ws → gain ws os step column ≤ length ws * m
unfolding gain
gain_within m [] os step column light = zero-le
gain_within m (w ∷ ws) [] step column light = zero-le
gain_within m (w ∷ ws) (o ∷ os) step column light =
    let first : w ≤ m = All-head (λ w. w ≤ m) w ws light in
    let rest = gain_within m ws os step column (All-tail (λ w. w ≤ m) w ws light) in
    let some : cond (eqb o.column column && counts o step) w 0 ≤ m = elim (eqb o.column column && counts o step) as (λ v. cond v w 0 ≤ m) [ true ↦ first | false ↦ zero-le ] in
    omega arith

pub gain_small : (ws : List ℕ) (os : List Objective) (step column : ℕ) → Asked os ws → column_gain ws os step column < 2 ^ 16
gain_small ws os step column asked = omega (arith, gain_is ws os step column, gain_within max_weight ws os step column asked.light, asked.few, asked.same)

-- ---- the gains times the rewards are what the objectives earn
scale_sum : (a b : ℕ) (z : ℤ) → (a + b) · z ≡ a · z +ℤ b · z
scale_sum a b z = omega (arith, same_in, sum_is_lem, product_is)

scale_zero : (a : ℕ) → a · pos 0 ≡ pos 0
scale_zero a = omega (arith, same_in, product_is)

no_gain : (w : ℕ) (z : ℤ) (v : Bool) → v ≡ false → cond v w 0 · z ≡ pos 0
no_gain w z v e = ap (λ v. cond v w 0 · z) e ∙ omega (arith, ints)

-- one objective's weight, at its column
one_gain : (w : ℕ) (r : ℕ → ℤ) (column : ℕ) (v : Bool) → (4 ≤ column → r column ≡ pos 0) → cond (eqb column 0 && v) w 0 · r 0 +ℤ cond (eqb column 1 && v) w 0 · r 1 +ℤ cond (eqb column 2 && v) w 0 · r 2 +ℤ cond (eqb column 3 && v) w 0 · r 3 ≡ w · cond v (r column) (pos 0)
one_gain w r zero true past = omega (arith, ints)
one_gain w r (suc zero) true past = omega (arith, ints)
one_gain w r (suc (suc zero)) true past = omega (arith, ints)
one_gain w r (suc (suc (suc zero))) true past = omega (arith, ints)
one_gain w r (suc (suc (suc (suc n)))) true past =
    let none : (k : ℕ) → k < 4 → cond (eqb (suc (suc (suc (suc n)))) k && true) w 0 · r k ≡ pos 0 = λ k l. no_gain w (r k) _ (and_left _ true (ne_eqb (suc (suc (suc (suc n)))) k (λ e. omega arith))) in
    let z = ap (λ a. w · a) (past (omega arith)) ∙ scale_zero w in
    omega (arith, ints, none 0 (omega arith), none 1 (omega arith), none 2 (omega arith), none 3 (omega arith))
one_gain w r column false past =
    let none : (k : ℕ) → cond (eqb column k && false) w 0 · r k ≡ pos 0 = λ k. no_gain w (r k) _ (and_right (eqb column k) false refl) in
    let z = scale_zero w in
    omega (arith, ints, none 0, none 1, none 2, none 3)

-- two columns earn all where the others gain nothing
pub two_earn : (gains : List ℕ) (rewards : List ℤ) → get_or gains 2 0 ≡ 0 → get_or gains 3 0 ≡ 0 → get_or gains 0 0 · get_or rewards 0 (pos 0) +ℤ get_or gains 1 0 · get_or rewards 1 (pos 0) ≡ earned gains rewards
two_earn gains rewards e f =
    let none : (i : ℕ) → get_or gains i 0 ≡ 0 → get_or gains i 0 · get_or rewards i (pos 0) ≡ pos 0 = λ i e. ap (λ n. n · get_or rewards i (pos 0)) e ∙ omega (arith, ints) in
    omega (arith, ints, none 2 e, none 3 f)

no_weights : (f : Objective → ℤ) (os : List Objective) → total (λ i o. 0) (λ i o. f o) os ≡ pos 0
no_weights f [] = refl
no_weights f (o ∷ os) = let e = no_weights f os in omega (arith, ints)

four : (ℕ → ℤ) → ℤ
four f = f 0 +ℤ f 1 +ℤ f 2 +ℤ f 3

four_sum : (x y z : ℕ → ℤ) → ((k : ℕ) → x k ≡ y k +ℤ z k) → four x ≡ four y +ℤ four z
unfolding four
four_sum x y z e = omega (arith, ints, e 0, e 1, e 2, e 3)

-- r column is the reward in a column
module _ (step : ℕ) (b : Branch) (few : length b.rewards ≤ 4) where
  r : ℕ → ℤ
  r column = get_or b.rewards column (pos 0)

  gains_earn : (ws : List ℕ) (os : List Objective) → four (λ k. gain ws os step k · r k) ≡ earns_by ws os step b
  unfolding r four gain
  gains_earn [] os = let e = no_weights (λ o. earns o step b) os in omega (arith, ints)
  gains_earn (w ∷ ws) [] = omega (arith, ints)
  gains_earn (w ∷ ws) (o ∷ os) =
      let v : Bool = counts o step in
      let here : ℕ → ℤ = λ k. cond (eqb o.column k && v) w 0 · r k in
      let left : ℕ → ℤ = λ k. gain ws os step k · r k in
      let first : four here ≡ w · earns o step b = one_gain w r o.column v (λ l. get_or_past b.rewards o.column (pos 0) (omega arith)) in
      let split = four_sum (λ k. gain (w ∷ ws) (o ∷ os) step k · r k) here left (λ k. scale_sum (cond (eqb o.column k && v) w 0) (gain ws os step k) (r k)) in
      split ∙ ap (λ a. a +ℤ four left) first ∙ ap (λ a. w · earns o step b +ℤ a) (gains_earn ws os)

  pub earned_is : (ws : List ℕ) (os : List Objective) → earned (column_gains ws os step) b.rewards ≡ earns_by ws os step b
  unfolding r four
  earned_is ws os =
      let e : (k : ℕ) → column_gain ws os step k · r k ≡ gain ws os step k · r k = λ k. ap (λ n. n · r k) (gain_is ws os step k) in
      cc (e 0, e 1, e 2, e 3) ∙ gains_earn ws os
