-- A pricing that is taken. Assumes nothing.
use Rattle.std.proofs.Common.{◌≡◌, ℕ, ◌*◌, ◌≤◌, Bool, true, false, cond, not, ◌&&◌, eqb, ltb, leb, List, [], ◌∷◌, ◌++◌, length, ℤ, Some, None, Ok, All, sum, Option, sym, refl, ap, ◌∙◌, inl, inr, arith}
use lib.Signed.{lt_z}
use Rattle.std.specs.List.{list_all}
use Rattle.std.proofs.lemmas.List.Elements.{All-from_get_or}
use Rattle.std.proofs.lemmas.List.Sums.{prefix_len-le-length}
use Rattle.std.proofs.lemmas.Bool.{le-leb, eq-eqb, and_from}
use Rattle.std.proofs.lemmas.Bool.Decides.{nat_tests}
use Rattle.std.proofs.lemmas.List.Elements.{All-head, All-tail}
use Rattle.mdp.specs.Table.{Table}
use Rattle.plans.specs.declared.Objective.{Objective}
use Rattle.plans.specs.declared.Row.{Row}
use Rattle.plans.specs.Blends.{mean_up, mean_down}
use Rattle.plans.specs.Plans.{no_objective, target_sum}
use Rattle.sweep.specs.Swept as sweep
use Rattle.sweep.specs.Swept.{all_light, all_near, asked, answer}
use Rattle.truth.specs.Dockets.{Docket, Priced, Refuted, judged, same, number, has_row, swept, ceiling, point, priced}
use Rattle.truth.specs.Calls.{Cause, Fault, price, cause, first_of, refusal, small_weights}
use Rattle.truth.proofs.Taken.{taken_exactly, decides_has_row}
use Rattle.verdict.specs.Answers.{answered}
use Rattle.verdict.proofs.Refused.{taken_none, taken_value}
use Rattle.holdings.specs.Refusals.{weights_refusal, room_refusal}
use Rattle.holdings.specs.Views.{held}
use Rattle.holdings.proofs.Held.{held_within}
use Rattle.docket.specs.declared.docket.Docket as code
use Rattle.docket.specs.declared.docket.pricing.Price.{Price}
use Rattle.docket.specs.Pricing.{priced_rows, price_of, lent_refusal}
use Rattle.docket.specs.Views.{view}

all_passes : {X : Type 0} (p : X → Bool) (P : X → Type 0) → ((x : X) → P x → p x ≡ true) → (xs : List X) → All P xs → list_all p xs ≡ true
all_passes p P each [] h = refl
all_passes p P each (x ∷ xs) h = and_from (p x) (list_all p xs) (each x (All-head P x xs h)) (all_passes p P each xs (All-tail P x xs h))

-- its weights, the rows lent and the room are tested in turn
abbrev or_else : {X : Type 0} → Option X → Option X → Option X
or_else None y = y
or_else (Some x) y = Some x

first_append : (xs ys : List Cause) → first_of (xs ++ ys) ≡ or_else (first_of xs) (first_of ys)
first_append [] ys = refl
first_append (c ∷ xs) ys =
    elim c.holds as (λ b. cond b (Some c.fault) (first_of (xs ++ ys)) ≡ or_else (cond b (Some c.fault) (first_of xs)) (first_of ys)) [ true ↦ refl | false ↦ first_append xs ys ]

pub refusal_is : (t : Table) (d : Docket) (ws : List ℕ) (lent : ℕ) (o : Option Fault) →
    weights_refusal (length d.objectives) ws ≡ None → lent_refusal t lent ≡ None → room_refusal d.table ws ≡ o → refusal t d (price ws lent) ≡ o
refusal_is t d ws lent o w l r =
    let n = length d.objectives in
    let small = small_weights ws in
    first_append (cause (not (eqb (length ws) n)) 10 (length ws) ∷ cause (ltb small (length ws)) 10 small ∷ cause (eqb (sum ws) 0) 10 0 ∷ [])
    (cause (ltb lent (2 * length t.states)) 11 lent ∷ cause (leb 16 (length d.table) && not (has_row ws d.table)) 12 16 ∷ [])
    ∙ (λ i. or_else (w i) (first_append (cause (ltb lent (2 * length t.states)) 11 lent ∷ []) (cause (leb 16 (length d.table) && not (has_row ws d.table)) 12 16 ∷ []) i))
    ∙ (λ i. or_else (l i) (r i))

-- none of the three sends it back
module _ (t : Table) (d : Docket) (ws ks : List ℕ) (lent row : ℕ) (weighed : Ok ks ≡ answered (weights_refusal (length d.objectives) ws) ws)
    (lends : lent_refusal t lent ≡ None) (placed : Ok row ≡ answered (room_refusal d.table ks) (number ks d.table)) where
  pub same_weights : ks ≡ ws
  same_weights = taken_value (weights_refusal (length d.objectives) ws) ks ws weighed

  pub is_taken : refusal t d (price ws lent) ≡ None
  is_taken =
      refusal_is t d ws lent None (taken_none (weights_refusal (length d.objectives) ws) ks ws weighed) lends
      (ap (room_refusal d.table) (sym same_weights) ∙ taken_none (room_refusal d.table ks) row (number ks d.table) placed)

  pub row_is : row ≡ number ws d.table
  row_is = taken_value (room_refusal d.table ks) row (number ks d.table) placed ∙ ap (λ v. number v d.table) same_weights

-- its sweep is made
module _ {M : Type 0} (t : Table) (d : code.Docket M) (ws : List ℕ) (old : List Row) (taken : refusal t (view d) (price ws (length old)) ≡ None)
    (os : List Objective) (same-os : os ≡ held d.objectives) (ks : List ℕ) (same-ks : ks ≡ ws) where
  askable : (asked (held d.objectives) ws && leb (2 * length t.states) (length old)) ≡ true
  askable =
      let xs = held d.objectives in
      let (weighs, rich, room) = ((taken_exactly t (view d)).price_if ws (length old)).0 taken in
      let few : length xs ≤ 4 = held_within d.objectives in
      let light = all_passes (λ w. leb w 1000) (λ w. w ≤ 1000) (λ w. le-leb w 1000) ws weighs.small in
      let near = all_passes (λ o. leb o.bound 256) (λ o. o.bound ≤ 256) (λ o. le-leb o.bound 256) xs (All-from_get_or (λ o. o.bound ≤ 256) xs no_objective (λ k l. (d.objectives.small k l).1)) in
      and_from (asked xs ws) (leb (2 * length t.states) (length old))
      (and_from (leb (length xs) 4) (eqb (length ws) (length xs) && (all_light ws && all_near xs)) (le-leb (length xs) 4 few)
      (and_from (eqb (length ws) (length xs)) (all_light ws && all_near xs) (eq-eqb (length ws) (length xs) weighs.each) (and_from (all_light ws) (all_near xs) light near)))
      (le-leb (2 * length t.states) (length old) rich)

  pub answer_is : answer mean_up mean_down t os ks old ≡ Some (swept t (held d.objectives) ws)
  answer_is = (λ i. answer mean_up mean_down t (same-os i) (same-ks i) old) ∙ ap (λ b. cond b (Some (swept t (held d.objectives) ws)) None) askable

  pub rows_are : sweep.swept mean_up mean_down t os ks old ≡ priced_rows t (held d.objectives) ws old
  rows_are = (λ i. sweep.swept mean_up mean_down t (same-os i) (same-ks i) old) ∙ ap (λ b. cond b (priced_rows t (held d.objectives) ws old) old) askable

-- the docket after it
module _ (t : Table) (d e : Docket) (ws ks : List ℕ) (same-ks : ks ≡ ws) (lent : ℕ) (taken : refusal t d (price ws lent) ≡ None) (row : ℕ) (r : Row) (x s : ℤ)
    (row-is : row ≡ number ws d.table) (swept-is : r ≡ swept t d.objectives ws) (ceiling-is : x ≡ r.ceiling) (sum-is : s ≡ target_sum ks d.objectives)
    (kept : e.objectives ≡ d.objectives) (turns : e.verdict ≡ judged d.verdict (lt_z x s) (Refuted ks x s))
    (adds : e.table ≡ cond (eqb row (length d.table) && ltb row 16) (d.table ++ (record { weights = ks; point = r.parts } ∷ [])) d.table) where
  -- a row is added unless there is one, and there is room
  placed : (new : List Priced) → cond (eqb (number ws d.table) (length d.table) && ltb (number ws d.table) 16) new d.table ≡ cond (has_row ws d.table) d.table new
  placed new =
      let h = prefix_len-le-length (λ (q : Priced). not (same q.weights ws)) d.table in
      elim (((taken_exactly t d).price_if ws lent).0 taken).2 [
        | inl few ↦ grind (arith, nat_tests)
        | inr there ↦ (let found = (decides_has_row ws d.table).1 there in grind (arith, nat_tests))
      ]

  low : x ≡ ceiling t d.objectives ws
  low = ceiling-is ∙ ap (λ (q : Row). q.ceiling) swept-is

  sums : s ≡ target_sum ws d.objectives
  sums = sum-is ∙ ap (λ k. target_sum k d.objectives) same-ks

  pub view_is : e ≡ priced t d ws
  unfolding priced
  view_is =
      let table_is =
      adds ∙ (λ i. cond (eqb (row-is i) (length d.table) && ltb (row-is i) 16) (d.table ++ (record { weights = same-ks i; point = (swept-is i).parts } ∷ [])) d.table)
      ∙ placed (d.table ++ (record { weights = ws; point = point t d.objectives ws } ∷ [])) in
      let verdict-is = turns ∙ (λ i. judged d.verdict (lt_z (low i) (sums i)) (Refuted (same-ks i) (low i) (sums i))) in
      λ i. record { objectives = kept i; table = table_is i; verdict = verdict-is i }

  pub price_is : ◌≡◌ {A = Price} (record { row = row; ceiling = x; target_sum = s; point = r.parts }) (price_of t d ws)
  price_is = λ i. record { row = row-is i; ceiling = low i; target_sum = sums i; point = (swept-is i).parts }
