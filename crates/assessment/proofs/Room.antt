-- The lines of a settled docket are no more than 64 bytes. Assumes nothing.
use Rattle.std.proofs.Common.{◌≡◌, ℕ, zero, suc, ◌+◌, ◌-◌, ◌*◌, ◌^◌, ◌<◌, ◌≤◌, min, true, cond, eqb, ltb, List, [], ◌∷◌, ◌++◌, map, length, ℤ, pos, ◌+ℤ◌, nat_abs, None, decimal, fold, All, sym, refl, ap, ◌∙◌, subst, inl, inr, arith, length-append}
use borrow.Author.Differences.{ints}
use Rattle.std.specs.List.{range_with_len, flat_map}
use Rattle.std.specs.Fmt.{signed_decimal}
use Rattle.std.proofs.lemmas.Fmt.{length-decimal-le}
use Rattle.std.proofs.lemmas.List.Elements.{All-nil, All-cons, All-head, All-tail, All-weaker}
use Rattle.std.proofs.lemmas.Bool.{cond_both, cases_eq}
use Rattle.std.proofs.lemmas.Bool.Decides.{nat_tests}
use Rattle.mdp.specs.Table.{Table, Facts}
use Rattle.plans.specs.declared.Objective.{Objective}
use Rattle.plans.specs.Blends.{mean_up, mean_down}
use Rattle.plans.specs.Plans.{horizon, target_sum}
use Rattle.plans.specs.Totals.{◌·◌}
use Rattle.plans.specs.Claims.{Candidate}
use Rattle.plans.proofs.Amounts.{natAbs_add, product_within}
use Rattle.plans.proofs.Limits.{rows_ceiling_within, horizon_few}
use Rattle.plans.proofs.Means.{means_lawful}
use Rattle.truth.specs.Dockets.{Priced, Verdict, Open, Achieved, Refuted, Docket, ceiling, priced, backed, mixed, toward, settle_priced, settled}
use Rattle.truth.specs.Calls.{settle, refusal}
use Rattle.truth.specs.Claims.{Accepted, Posable, Orderly, Weighs, SettledAs}
use Rattle.truth.proofs.Narrowing.{Toward, prices_toward}
use Rattle.truth.proofs.Runs.{orderly_effect}
use Rattle.truth.proofs.Settling.{settle_verdict, settle_first, settle_keeps}
use Rattle.truth.proofs.Taken.{taken_exactly}
use Rattle.text.proofs.Lengths.{length_signed_64}
use Rattle.assessment.specs.Listings.{spaced, line, share_line, lines_of, listing}

short_number : (n : ℕ) → n ≤ 1000 → length (decimal n) ≤ 4
short_number n h = length-decimal-le 4 n (omega arith) (omega arith) (omega arith)

-- two numbers up to 1000
pub record Two (ws : List ℕ) : Type 0 where
  pub two : length ws ≡ 2
  pub small : All (λ w. w ≤ 1000) ws

weights_short : (ws : List ℕ) → Two ws → length (line (spaced ws)) ≤ 10
weights_short [] t = absurd (omega (arith, t.two))
weights_short (a ∷ []) t = absurd (omega (arith, t.two))
weights_short (a ∷ b ∷ []) t =
    let p = short_number a (All-head (λ w. w ≤ 1000) a (b ∷ []) t.small) in
    let q = short_number b (All-head (λ w. w ≤ 1000) b [] (All-tail (λ w. w ≤ 1000) a (b ∷ []) t.small)) in
    simp length-append (omega arith)
weights_short (a ∷ b ∷ c ∷ ws) t = absurd (omega (arith, t.two))

share_short : (s : ℕ) (ws : List ℕ) → s ≤ 1000 → Two ws → length (line (spaced (s ∷ ws))) ≤ 15
share_short s [] h t = absurd (omega (arith, t.two))
share_short s (a ∷ ws) h t = let p = short_number s h in let q = weights_short (a ∷ ws) t in simp length-append (omega (arith, simp length-append at q))

-- ---- the shares of two rows
module _ (r s a : ℕ) (rising : r < s) (small : a ≤ 1000) where
  abbrev share_at : ℕ → ℕ
  share_at j = cond (eqb j r) a (cond (eqb j s) (1000 - a) 0)

  -- how many rows from one on can have a share
  abbrev left : ℕ → ℕ
  left c = min 1 (suc r - c) + min 1 (suc s - c)

  share_small : (c : ℕ) → share_at c ≤ 1000
  share_small c = grind (arith, nat_tests)

  left_falls : (c : ℕ) → ltb 0 (share_at c) ≡ true → suc (left (c + 1)) ≤ left c
  left_falls c e =
      elim (cases_eq c r) [
        | inl p ↦ omega arith
        | inr p ↦ elim (cases_eq c s) [ inl q ↦ omega arith | inr q ↦ (let z : ◌≡◌ {A = ℕ} 0 1 = grind (arith, nat_tests) in absurd (omega arith)) ]
      ]

  pair_short : (m c : ℕ) (rs : List Priced) → All (λ p. Two p.weights) rs → length (flat_map share_line (backed (map share_at (range_with_len c m)) rs)) ≤ 15 * left c
  pair_short zero c rs h = omega arith
  pair_short (suc m) c [] h = omega arith
  pair_short (suc m) c (p ∷ rs) h =
      let w : Two p.weights = All-head (λ (p : Priced). Two p.weights) p rs h in
      let rest = pair_short m (c + 1) rs (All-tail (λ (p : Priced). Two p.weights) p rs h) in
      let row : Candidate = record { share = share_at c; weights = p.weights } in
      let others = backed (map share_at (range_with_len (c + 1) m)) rs in
      cond_both (ltb 0 (share_at c)) (row ∷ others) others (λ cs. length (flat_map share_line cs) ≤ 15 * left c)
      (λ e. omega (arith, left_falls c e, share_short (share_at c) p.weights (share_small c) w, length-append (share_line row) (flat_map share_line others)))
      (λ e. omega arith)

-- ---- the numbers of a refutation
module _ (t : Table) (facts : Facts t) (os : List Objective) (posable : Posable t os) where
  ceiling_short : (ws : List ℕ) → All (λ w. w ≤ 1000) ws → nat_abs (ceiling t os ws) ≤ 2 ^ 63
  ceiling_short ws light =
      let h = horizon_few os (All-weaker (Accepted t) (λ o. o.bound ≤ 256) (λ o a. a.short) os posable.each) in
      omega (arith, rows_ceiling_within t facts mean_up mean_down means_lawful.0 means_lawful.1 os ws posable.few light (horizon os) t.first)

target_small : (t : Table) (o : Objective) → Accepted t o → nat_abs o.target ≤ 2 ^ 40
target_small t o a = let l = a.low in let h = a.high in omega (arith, ints)

sum_short : (t : Table) (os : List Objective) → length os ≡ 2 → All (Accepted t) os → (a : ℕ) → a ≤ 1000 → nat_abs (target_sum (toward a) os) ≤ 2 ^ 63
sum_short t [] two h a small = absurd (omega arith)
sum_short t (o ∷ []) two h a small = absurd (omega arith)
sum_short t (o ∷ p ∷ []) two h a small =
    let f = All-head (Accepted t) o (p ∷ []) h in
    let g = All-head (Accepted t) p [] (All-tail (Accepted t) o (p ∷ []) h) in
    let x = a · o.target in
    let y = (1000 - a) · p.target in
    omega (
      arith,
      natAbs_add x (y +ℤ pos 0),
      natAbs_add y (pos 0),
      product_within a o.target 1000 (2 ^ 40) small (target_small t o f),
      product_within (1000 - a) p.target 1000 (2 ^ 40) (omega arith) (target_small t p g),
    )
sum_short t (o ∷ p ∷ q ∷ os) two h a small = absurd (omega arith)

refutation_short : (ws : List ℕ) (c s : ℤ) (rs : List Priced) → Two ws → nat_abs c ≤ 2 ^ 63 → nat_abs s ≤ 2 ^ 63 → length (lines_of (Refuted ws c s) rs) ≤ 64
refutation_short ws c s rs t hc hs =
    let numbers = signed_decimal c ++ (32 ∷ signed_decimal s) in
    omega (
      arith,
      length-append (line (spaced ws)) (line numbers),
      length-append numbers (10 ∷ []),
      length-append (signed_decimal c) (32 ∷ signed_decimal s),
      weights_short ws t,
      length_signed_64 c hc,
      length_signed_64 s hs,
    )

all_last : {X : Type 0} (P : X → Type 0) (front : List X) (x : X) → All P (front ++ (x ∷ [])) → P x
all_last P [] x h = All-head P x [] h
all_last P (y ∷ front) x h = all_last P front x (All-tail P y (front ++ (x ∷ [])) h)

-- a mix leaves the rows
rows_mixed : (sss : List (List ℕ)) (d : Docket) → (fold mixed d sss).table ≡ d.table
unfolding mixed
rows_mixed [] d = refl
rows_mixed (ss ∷ sss) d = rows_mixed sss (mixed d ss)

module _ (t : Table) (facts : Facts t) (d : Docket) (orderly : Orderly t d) (lent : ℕ) (taken : refusal t d (settle lent) ≡ None) where
  two : length d.objectives ≡ 2
  two = (((taken_exactly t d).settle_if lent).0 taken).1

  same : (settled t d).objectives ≡ d.objectives
  unfolding priced mixed
  same = settle_keeps t lent d taken (λ e. e.objectives ≡ d.objectives) refl (λ f ws q p. p) (λ f ss q p. p)

  rows_two : All (λ p. Two p.weights) (settled t d).table
  rows_two =
      All-weaker (λ (p : Priced). Weighs (settled t d).objectives p.weights) (λ p. Two p.weights)
      (λ p w. record { two = w.each ∙ ap length same ∙ two; small = w.small }) (settled t d).table (orderly_effect t d (settle lent) taken orderly).weighs

  shown_short : (v : Verdict) → (settled t d).verdict ≡ v → length (lines_of v (settled t d).table) ≤ 64
  shown_short Open e = omega arith
  shown_short (Achieved ss) e =
      let (p, o, is, m, b) = (settle_first t d).1 ss e in
      let l = pair_short p.first p.second p.share o.rising o.small (length (settle_priced t d).table) 0 (settled t d).table rows_two in
      subst (λ ss. length (lines_of (Achieved ss) (settled t d).table) ≤ 64) (sym is) (omega arith)
  shown_short (Refuted ws c s) e =
      let (front, prices, not-below, is-ceiling, is_sum, below) = subst (SettledAs t d) e (settle_verdict t d) in
      let (a, small, is) = all_last (Toward t) front ws (subst (All (Toward t)) prices (prices_toward t d)) in
      let os = d.objectives in
      let ws-two : Two ws = subst Two (sym is) (record { two = refl; small = All-cons (λ w. w ≤ 1000) a ((1000 - a) ∷ []) small (All-cons (λ w. w ≤ 1000) (1000 - a) [] (omega arith) (All-nil (λ w. w ≤ 1000))) }) in
      let c-small = subst (λ z. nat_abs z ≤ 2 ^ 63) (sym is-ceiling) (ceiling_short t facts os orderly.posable ws ws-two.small) in
      let s-small = subst (λ z. nat_abs z ≤ 2 ^ 63) (sym (is_sum ∙ ap (λ ws. target_sum ws os) is)) (sum_short t os two orderly.posable.each a small) in
      refutation_short ws c s (settled t d).table ws-two c-small s-small

  pub listing_short : length (listing (settled t d)) ≤ 64
  listing_short = shown_short (settled t d).verdict refl
