-- Which calls are taken, and which fault the others get. Assumes nothing.
use Rattle.std.proofs.Common.{◌≡◌, ℕ, ◌^◌, ◌<◌, ◌≤◌, Bool, false, not, ◌&&◌, eqb, ltb, leb, ◌↔◌, List, [], ◌∷◌, length, get_or, ℤ, pos, neg_ℤ, Some, None, Decides, All, Option, refl, ap, inl, inr, arith}
use lib.Signed.{le_z}
use Rattle.std.specs.List.{prefix_len}
use Rattle.std.proofs.lemmas.List.Elements.{All-from_get_or}
use Rattle.std.proofs.lemmas.List.Sums.{get_or-le-sum_by}
use Rattle.std.proofs.lemmas.Bool.{false≢true, leb-true, le-leb, ltb-true, lt-ltb, not-true, not-false, both_ways, cases_lt}
use Rattle.std.proofs.lemmas.Bool.Decides.{nat_tests as tells, Decides-eqb, Decides-and, Decides-like, Decides-not}
use Rattle.mdp.specs.Table.{Table}
use Rattle.truth.specs.Dockets.{Priced, Docket, no_priced, same, number, has_row}
use Rattle.truth.specs.Calls.{Call, Fault, refusal, if_taken, effect, after, small_weights, small_target}
use Rattle.truth.specs.Claims.{Small, TakenExactly, FirstOutside, RefusedExactly}
use Rattle.truth.proofs.Tests.{decides_leZ, leading_passes, leading_stops, leading_all, leading_is}

-- ---- a draft after an offer, and a docket after a call
pub taken_both : {X : Type 0} (f : Option Fault) (x y : X) (P : X → Type 0) → (f ≡ None → P x) → P y → P (if_taken f x y)
taken_both None x y P taken back = taken refl
taken_both (Some f) x y P taken back = back

module _ (t : Table) (d : Docket) (c : Call) where
  pub after_taken : refusal t d c ≡ None → after t d c ≡ effect t d c
  after_taken e = ap (λ (o : Option Fault). if_taken o (effect t d c) d) e

  pub after_both : (P : Docket → Type 0) → (refusal t d c ≡ None → P (effect t d c)) → P d → P (after t d c)
  after_both = taken_both (refusal t d c) (effect t d c) d

-- ---- rows with some weights
decides_same : (xs ys : List ℕ) → Decides (same xs ys) (xs ≡ ys)
decides_same [] [] = ((λ e. refl), (λ e. refl))
decides_same [] (y ∷ ys) = ((λ e. absurd (false≢true e)), (λ e. cc))
decides_same (x ∷ xs) [] = ((λ e. absurd (false≢true e)), (λ e. cc))
decides_same (x ∷ xs) (y ∷ ys) =
    Decides-like (same (x ∷ xs) (y ∷ ys)) (λ h i. h.0 i ∷ h.1 i) (λ e. (cc, cc)) (Decides-and (eqb x y) (same xs ys) (Decides-eqb x y) (decides_same xs ys))

pub found : (ws : List ℕ) (rs : List Priced) → number ws rs < length rs → (get_or rs (number ws rs) no_priced).weights ≡ ws
found ws rs l = (decides_same (get_or rs (number ws rs) no_priced).weights ws).0 (not-false _ (leading_stops (λ (r : Priced). not (same r.weights ws)) rs no_priced l))

abbrev HasRow : List ℕ → List Priced → Type 0
HasRow ws rs = (i : ℕ) × (i < length rs) × ((get_or rs i no_priced).weights ≡ ws)

pub decides_has_row : (ws : List ℕ) (rs : List Priced) → Decides (has_row ws rs) (HasRow ws rs)
decides_has_row ws rs = (
  (λ e. let l = ltb-true (number ws rs) (length rs) e in (number ws rs, l, found ws rs l)),
  (λ (i, l, e). elim (cases_lt (number ws rs) (length rs)) [
    | inl h ↦ lt-ltb (number ws rs) (length rs) h
    | inr g ↦ absurd (both_ways _ (not-true _ (leading_passes (λ (r : Priced). not (same r.weights ws)) rs no_priced i (omega arith))) ((decides_same (get_or rs i no_priced).weights ws).1 e))
  ]),
)

-- ---- weights and targets within the limits
decides_weight : (w : ℕ) → Decides (leb w 1000) (w ≤ 1000)
decides_weight w = (leb-true w 1000, le-leb w 1000)

small_all : (ws : List ℕ) → (ltb (small_weights ws) (length ws) ≡ false) ↔ All (λ w. w ≤ 1000) ws
small_all ws = leading_all (λ w. leb w 1000) (λ w. w ≤ 1000) decides_weight ws 0

pub decides_small : (z : ℤ) → Decides (small_target z) (Small z)
decides_small z = Decides-and (le_z (neg_ℤ (pos (2 ^ 40))) z) (le_z z (pos (2 ^ 40))) (decides_leZ (neg_ℤ (pos (2 ^ 40))) z) (decides_leZ z (pos (2 ^ 40)))

-- ---- which calls are taken
pub taken_exactly : TakenExactly
taken_exactly t d = record {
  price_if = λ ws lent.
      let small = small_all ws in
      let had = decides_has_row ws d.table in (
        (λ e. (
          record { each = grind (arith, tells); small = small.0 (grind (arith, tells)); some = grind (arith, tells) },
          grind (arith, tells),
          (elim (cases_lt (length d.table) 16) [ inl l ↦ inl l | inr g ↦ inr (had.0 (grind (arith, tells))) ]),
        )),
        (λ h.
            let a = h.0.each in
            let b = small.1 h.0.small in
            let c = h.0.some in
            let room : (leb 16 (length d.table) && not (has_row ws d.table)) ≡ false =
            elim h.2 [ inl l ↦ grind (arith, tells) | inr r ↦ (let e = had.1 r in grind (arith, tells)) ] in
            grind (arith, tells)),
      );
  mix_if = λ ss. ((λ e. grind (arith, tells)), (λ h. grind (arith, tells)));
  retarget_if = λ ts.
      let small = leading_all small_target Small decides_small ts (pos 0) in
      ((λ e. (grind (arith, tells), small.0 (grind (arith, tells)))), (λ h. let b = small.1 h.1 in grind (arith, tells)));
  clear_ever = refl;
  settle_if = λ lent. ((λ e. grind (arith, tells)), (λ h. grind (arith, tells)));
}

-- ---- which fault a call that is sent back gets
first_outside : {X : Type 0} (p : X → Bool) (P : X → Type 0) → ((x : X) → Decides (p x) (P x)) → (xs : List X) (d : X) (i : ℕ) → FirstOutside P xs d i → prefix_len p xs ≡ i
first_outside p P each xs d i f =
    leading_is p xs d i f.there (not-true _ ((Decides-not (p (get_or xs i d)) (each (get_or xs i d))).1 f.outside)) (λ j l. (each (get_or xs j d)).1 (f.before j l))

pub refused_exactly : RefusedExactly
refused_exactly t d = record {
  price_count = λ ws lent h. grind (arith, tells);
  price_large = λ ws lent i e f.
      let b = first_outside (λ w. leb w 1000) (λ w. w ≤ 1000) decides_weight ws 0 i f in
      let l = f.there in
      grind (arith, tells);
  price_none = λ ws lent e z.
      let b = (small_all ws).1 (All-from_get_or (λ w. w ≤ 1000) ws 0 (λ i l. omega (arith, get_or-le-sum_by (λ w. w) ws i 0 l))) in
      grind (arith, tells);
  price_rows = λ ws lent w l.
      let a = w.each in
      let b = (small_all ws).1 w.small in
      let c = w.some in
      grind (arith, tells);
  price_full = λ ws lent w l f none.
      let a = w.each in
      let b = (small_all ws).1 w.small in
      let c = w.some in
      let g = not-true _ ((Decides-not (has_row ws d.table) (decides_has_row ws d.table)).1 (λ (i, il, e). none i il e)) in
      grind (arith, tells);
  mix_count = λ ss h. grind (arith, tells);
  mix_total = λ ss e h. grind (arith, tells);
  retarget_count = λ ts h. grind (arith, tells);
  retarget_large = λ ts i e f.
      let b = first_outside small_target Small decides_small ts (pos 0) i f in
      let l = f.there in
      grind (arith, tells);
  settle_rows = λ lent h. grind (arith, tells);
  settle_two = λ lent l h. grind (arith, tells);
}
