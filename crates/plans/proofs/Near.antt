-- The sweep by the two means, beside exact expected rewards. Assumes nothing.
use Rattle.std.proofs.Common.{◌≡◌, ℕ, suc, ◌-◌, ◌*◌, ◌^◌, ◌<◌, ◌≤◌, ltb, List, [], ◌∷◌, length, get_or, ℤ, pos, negsuc, ◌+ℤ◌, neg_ℤ, ◌≤ℤ◌, ◌<ℤ◌, ap, mul-pos, arith}
use native.Mathlib.Nat.{mul-lt-mul_of_pos_left, one-le-pow}
use borrow.Author.Differences.{ints, same_out, sum_is_lem, neg_is, product_is, le_out, lt_out, at_most_in, below_in}
use Rattle.std.proofs.lemmas.List.Elements.{All-nil, All-cons, All-head, All-tail, All-get_or, All-weaker}
use Rattle.std.proofs.lemmas.Int.{by_lt_z}
use Rattle.std.proofs.lemmas.Bool.{cond-false, le-ltb}
use Rattle.mdp.specs.Table.{Branch, Table, Facts}
use Rattle.plans.specs.declared.Objective.{Objective}
use Rattle.plans.specs.Totals.{◌·◌}
use Rattle.plans.specs.Blends.{Weighed, mean_up, mean_down}
use Rattle.plans.specs.Plans.{Earning, Plan, Valid, no_objective, earns, earns_by, horizon}
use Rattle.plans.specs.Sweep.{part_at}
use Rattle.plans.specs.Claims.{sum_of, mean_rows, mean_plan, CeilingBounds, CeilingNear, PartReached, PartNear, HorizonCovers}
use Rattle.plans.proofs.Ints.{scale_add, scale_neg, scale_zero, scale_le, cancel_lt, cancel_le}
use Rattle.plans.proofs.Means.{means_lawful, mean_up_least, mean_down_greatest}
use Rattle.plans.proofs.Values.{plan_valid, ceiling_bounds_value, ceiling_is_value, part_is_value}
use Rattle.plans.proofs.Errors.{Between, rounding, error, error_within, exact_by}

up_rounds : (d : ℕ) → 0 < d → (xs : List Weighed) → Between (pos 0) (pos (d - 1)) (rounding mean_up xs d)
up_rounds d h xs =
    let v = mean_up xs d in
    let m = mean_up_least xs d h in
    let a = m.0 in
    let e = scale_add d v (negsuc 0) in (
      omega (arith, ints),
      by_lt_z (d · (v +ℤ negsuc 0)) (sum_of xs) (λ l. omega (arith, at_most_in, lt_out, same_out, sum_is_lem, neg_is, product_is)) (λ l. absurd (let u = m.1 (v +ℤ negsuc 0) l in omega (arith, ints))),
    )

down_rounds : (d : ℕ) → 0 < d → (xs : List Weighed) → Between (neg_ℤ (pos (d - 1))) (pos 0) (rounding mean_down xs d)
down_rounds d h xs =
    let v = mean_down xs d in
    let m = mean_down_greatest xs d h in
    let a = m.0 in
    let e = scale_add d v (pos 1) in (
      by_lt_z (sum_of xs) (d · (v +ℤ pos 1)) (λ l. omega (arith, at_most_in, lt_out, same_out, sum_is_lem, neg_is, product_is)) (λ l. absurd (let u = m.1 (v +ℤ pos 1) l in omega (arith, ints))),
      omega (arith, ints),
    )

-- less than g grains
under : (d e g : ℕ) (z : ℤ) → 0 < d → 0 < e → 0 < g → d · z ≤ℤ (g * e) · pos (d - 1) → z <ℤ e · pos g
under d e g z h i j l =
    let less : d - 1 < d = omega arith in
    let m = mul-lt-mul_of_pos_left less (mul-pos j i) in
    cancel_lt d z (e · pos g) (omega (arith, below_in, le_out))

module _ (t : Table) (facts : Facts t) (k : ℕ) (r : Earning) (n s : ℕ) (p : Plan) (h : s < length t.states) (v : Valid t n s p) where
  up_error : (pos 0 ≤ℤ error mean_up t k r n s p) × (1 ≤ n → error mean_up t k r n s p <ℤ (t.divisor ^ n) · pos n)
  up_error =
      let d = t.divisor in
      let e = d ^ n in
      let z = error mean_up t k r n s p in
      let all : n - 0 ≡ n = omega arith in
      let w = rw all at (error_within mean_up t k r means_lawful.0 facts 0 (λ n b l. absurd (omega arith)) (pos 0) (pos (d - 1)) (up_rounds d facts.divisor_low) n s p h v) in
      let a = w.0 in
      let b = scale_zero (n * e) in
      let c = scale_zero d in
      (cancel_le d (pos 0) z facts.divisor_low (omega (arith, at_most_in, le_out, same_out)), λ g. under d e n z facts.divisor_low (one-le-pow n d facts.divisor_low) g w.1)

  module _ (m : ℕ) (idle : (n : ℕ) (b : Branch) → n < m → r (k - suc n) b ≡ pos 0) where
    down_error : (error mean_down t k r n s p ≤ℤ pos 0) × (1 ≤ n - m → neg_ℤ (error mean_down t k r n s p) <ℤ (t.divisor ^ n) · pos (n - m))
    down_error =
        let d = t.divisor in
        let e = d ^ n in
        let g = (n - m) * e in
        let z = error mean_down t k r n s p in
        let w = error_within mean_down t k r means_lawful.1 facts m idle (neg_ℤ (pos (d - 1))) (pos 0) (down_rounds d facts.divisor_low) n s p h v in
        let x = w.0 in
        let y = w.1 in
        let a = scale_zero g in
        let b = scale_zero d in
        let c = scale_neg g (pos (d - 1)) in
        let f = scale_neg d z in (
          cancel_le d z (pos 0) facts.divisor_low (omega (arith, at_most_in, le_out, same_out)),
          λ i. under d e (n - m) (neg_ℤ z) facts.divisor_low (one-le-pow n d facts.divisor_low) i (omega (arith, at_most_in, le_out, same_out, neg_is)),
        )

pub horizon_covers : HorizonCovers
horizon_covers [] = (All-nil (λ (o : Objective). o.bound ≤ horizon []), λ k h. omega arith)
horizon_covers (o ∷ os) =
    let r = horizon_covers os in (
      All-cons (λ (q : Objective). q.bound ≤ horizon (o ∷ os)) o os (omega arith)
          (All-weaker (λ (o : Objective). o.bound ≤ horizon os) (λ (q : Objective). q.bound ≤ horizon (o ∷ os)) (λ q l. omega arith) os r.0),
      λ k h.
          let a = r.1 k (All-tail (λ (o : Objective). o.bound ≤ k) o os h) in
          let b : o.bound ≤ k = All-head (λ (o : Objective). o.bound ≤ k) o os h in
          omega arith,
    )

pub ceiling_bounds : CeilingBounds
unfolding error
ceiling_bounds t os ws n s p facts h v =
    let k = horizon os in
    let a = (up_error t facts k (earns_by ws os) n s p h v).0 in
    let b = scale_le (t.divisor ^ n) _ _ (ceiling_bounds_value mean_up mean_down t os ws n s p means_lawful.0 facts h v) in
    let c = ap (λ z. 65536 · z) (exact_by t k ws os n s p) in
    omega (arith, at_most_in, le_out, same_out, sum_is_lem, neg_is)

pub ceiling_near : CeilingNear
unfolding error
ceiling_near t os ws n s facts h some =
    let k = horizon os in
    let p = mean_plan t os ws n s in
    let a = (up_error t facts k (earns_by ws os) n s p h (plan_valid mean_up mean_down t os ws n s facts h)).1 some in
    let b = ap (λ z. (t.divisor ^ n) · z) (ceiling_is_value mean_up mean_down t os ws n s facts h) in
    let c = ap (λ z. 65536 · z) (exact_by t k ws os n s p) in
    omega (arith, below_in, lt_out, same_out, sum_is_lem, neg_is)

pub part_reached : PartReached
unfolding error
part_reached t os ws n s i facts h g few =
    let o = get_or os i no_objective in
    let k = horizon os in
    let p = mean_plan t os ws n s in
    let a = (down_error t facts k (earns o) n s p h (plan_valid mean_up mean_down t os ws n s facts h) 0 (λ n b l. absurd (omega arith))).0 in
    let b = ap (λ z. (t.divisor ^ n) · z) (part_is_value mean_up mean_down t os ws n s i facts h g few) in
    omega (arith, at_most_in, le_out, same_out, sum_is_lem, neg_is)

-- nothing is earned in the steps past the bound
earns_none : (o : Objective) (k n : ℕ) (b : Branch) → n < k - o.bound → earns o (k - suc n) b ≡ pos 0
earns_none o k n b h = cond-false (ltb (k - suc n) o.bound) _ _ (le-ltb (k - suc n) o.bound (omega arith))

pub part_near : PartNear
unfolding error
part_near t os ws s i facts h g few some =
    let o = get_or os i no_objective in
    let k = horizon os in
    let e = t.divisor ^ k in
    let p = mean_plan t os ws k s in
    let covers = All-get_or (λ (o : Objective). o.bound ≤ k) os i no_objective g (horizon_covers os).0 in
    let m : k - (k - o.bound) ≡ o.bound = omega arith in
    let a = rw m at ((down_error t facts k (earns o) k s p h (plan_valid mean_up mean_down t os ws k s facts h) (k - o.bound) (earns_none o k)).1 (omega arith)) in
    let b = ap (λ z. e · z) (part_is_value mean_up mean_down t os ws k s i facts h g few) in
    let c = scale_add e (part_at (mean_rows t os ws k) i s) (pos o.bound) in
    omega (arith, below_in, lt_out, same_out, sum_is_lem, neg_is)
