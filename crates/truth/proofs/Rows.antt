-- The rows of a docket's table after each call but settle. Assumes nothing.
use Rattle.std.proofs.Common.{◌≡◌, ℕ, suc, ◌<◌, max, true, false, not, List, [], ◌∷◌, ◌++◌, length, get_or, take, ℤ, None, sym, refl, ap, ◌∙◌, inl, inr, arith}
use Rattle.std.proofs.lemmas.List.Elements.{All-nil, All-push, All-weaker}
use Rattle.std.proofs.lemmas.List.{length_push, get_or_append_left, get_or_push, take_all, take_at}
use Rattle.std.proofs.lemmas.List.Sums.{prefix_len-le-length}
use Rattle.std.proofs.lemmas.Bool.{cond_both, ltb-true, ltb-false, cases_lt}
use Rattle.std.proofs.lemmas.Bool.Decides.{not_from_Decides}
use Rattle.mdp.specs.Table.{Table}
use Rattle.plans.specs.declared.Objective.{Objective}
use Rattle.plans.specs.declared.Row.{Row}
use Rattle.truth.specs.Dockets.{Priced, Verdict, Docket, no_priced, point, same, number, has_row, priced, mixed, each_by, aimed, retargeted, posed}
use Rattle.truth.specs.Calls.{price, retarget, refusal}
use Rattle.truth.specs.Claims.{Posable, Weighs, Orderly, RowNumbered}
use Rattle.truth.proofs.Taken.{after_taken, found, decides_has_row, taken_exactly}
use Rattle.truth.proofs.Targets.{length_each_by, accepted_aimed, swept_aimed}

-- the row that a pricing makes
abbrev pub row_of : Table → Docket → List ℕ → Priced
row_of t d ws = record { weights = ws; point = point t d.objectives ws }

-- the rows after a pricing
pub rows_priced : (t : Table) (d : Docket) (ws : List ℕ) (P : List Priced → Type 0) →
    (has_row ws d.table ≡ true → P d.table) → (has_row ws d.table ≡ false → P (d.table ++ row_of t d ws ∷ [])) → P (priced t d ws).table
unfolding priced
rows_priced t d ws P = cond_both (has_row ws d.table) d.table (d.table ++ row_of t d ws ∷ []) P

pub row_numbered : RowNumbered
row_numbered t d ws lent e =
    let rs = d.table in
    let n = number ws rs in
    rw (after_taken t d (price ws lent) e)
    (rows_priced t d ws (λ qs. (length qs ≡ max (length rs) (suc n)) × ((get_or qs n no_priced).weights ≡ ws) × (take (length rs) qs ≡ rs))
    (λ q. let l = ltb-true n (length rs) q in (omega arith, found ws rs l, take_all (length rs) rs (omega arith)))
    (λ q.
    let r = row_of t d ws in
    let last : length rs ≡ n = omega (arith, ltb-false n (length rs) q, prefix_len-le-length (λ (r : Priced). not (same r.weights ws)) rs) in
    (omega (arith, length_push rs r), ap (λ (r : Priced). r.weights) (get_or_push rs r no_priced n last), take_at rs (r ∷ []) (length rs) refl)))

-- ---- rows stay few, apart and told
module _ (t : Table) where
  orderly_judged : (d : Docket) (v : Verdict) → Orderly t d → Orderly t (record { objectives = d.objectives; table = d.table; verdict = v })
  orderly_judged d v o = record { posable = o.posable; few = o.few; weighs = o.weighs; told = o.told; apart = o.apart }

  pub orderly_none : (os : List Objective) → Posable t os → Orderly t (posed os)
  orderly_none os p = record { posable = p; few = omega arith; weighs = All-nil (λ (r : Priced). Weighs os r.weights); told = All-nil (λ (r : Priced). r.point ≡ point t os r.weights); apart = λ i j ji il. absurd (omega arith) }

  pub orderly_mixed : (d : Docket) (ss : List ℕ) → Orderly t d → Orderly t (mixed d ss)
  unfolding mixed
  orderly_mixed d ss = orderly_judged d (mixed d ss).verdict

  pub orderly_priced : (d : Docket) (ws : List ℕ) (lent : ℕ) → refusal t d (price ws lent) ≡ None → Orderly t d → Orderly t (priced t d ws)
  unfolding priced
  orderly_priced d ws lent e o =
      let rs = d.table in
      let r = row_of t d ws in
      let h = ((taken_exactly t d).price_if ws lent).0 e in
      let old : (k : ℕ) → k < length rs → (get_or (rs ++ r ∷ []) k no_priced).weights ≡ (get_or rs k no_priced).weights =
      λ k l. ap (λ (r : Priced). r.weights) (get_or_append_left rs (r ∷ []) no_priced k l) in
      rows_priced t d ws (λ qs. Orderly t (record { objectives = d.objectives; table = qs; verdict = (priced t d ws).verdict }))
      (λ q. orderly_judged d (priced t d ws).verdict o)
      (λ q.
      let absent = not_from_Decides (has_row ws rs) (decides_has_row ws rs) q in
      let more = length_push rs r in
      record {
        posable = o.posable;
        few = elim h.2 [ inl l ↦ omega arith | inr g ↦ absurd (absent g) ];
        weighs = All-push (λ (r : Priced). Weighs d.objectives r.weights) rs r o.weighs h.0;
        told = All-push (λ (r : Priced). r.point ≡ point t d.objectives r.weights) rs r o.told refl;
        apart = λ i j ji il e.
            elim (cases_lt i (length rs)) [
              | inl a ↦ o.apart i j ji a (sym (old i a) ∙ e ∙ old j (omega arith))
              | inr b ↦ absent (j, omega arith, sym (old j (omega arith)) ∙ sym e ∙ ap (λ (r : Priced). r.weights) (get_or_push rs r no_priced i (omega arith)))
            ];
      })

  pub orderly_retargeted : (d : Docket) (ts : List ℤ) → refusal t d (retarget ts) ≡ None → Orderly t d → Orderly t (retargeted d ts)
  orderly_retargeted d ts e o =
      let os = d.objectives in
      let h = ((taken_exactly t d).retarget_if ts).0 e in
      let more = length_each_by (aimed ts) os in
      record {
        posable = record { few = omega (arith, o.posable.few); each = accepted_aimed t ts os h.0 h.1 o.posable.each };
        few = o.few;
        weighs = All-weaker (λ (r : Priced). Weighs os r.weights) (λ (r : Priced). Weighs (each_by (aimed ts) os) r.weights)
            (λ r w. record { each = w.each ∙ sym more; small = w.small; some = w.some }) d.table o.weighs;
        told = All-weaker (λ (r : Priced). r.point ≡ point t os r.weights) (λ (r : Priced). r.point ≡ point t (each_by (aimed ts) os) r.weights)
            (λ r q. q ∙ ap (λ (s : Row). s.parts) (sym (swept_aimed t r.weights ts os))) d.table o.told;
        apart = o.apart;
      }
