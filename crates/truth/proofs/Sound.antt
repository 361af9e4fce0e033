-- What a docket shows is true. Assumes nothing.
use Rattle.std.proofs.Common.{◌≡◌, ℕ, ◌≤◌, Bool, true, false, List, [], ◌∷◌, ◌++◌, map, length, get_or, ℤ, ◌≤ℤ◌, ◌<ℤ◌, Some, None, fold, All, sum, Option, sym, refl, subst, arith}
use borrow.Author.Differences.{ints}
use lib.Signed.{lt_z, clash_ℤ}
use Rattle.std.proofs.lemmas.List.Elements.{All-nil, All-cons, All-head, All-get_or, All-from_get_or, All-weaker}
use Rattle.std.proofs.lemmas.List.{length-append}
use Rattle.std.proofs.lemmas.Bool.{cond_both, false≢true}
use Rattle.mdp.specs.Table.{Table, Facts}
use Rattle.plans.specs.declared.Objective.{Objective}
use Rattle.plans.specs.Plans.{Share, Mixture, Meets, Clears, no_objective, horizon, target_sum}
use Rattle.plans.specs.Totals.{◌·◌}
use Rattle.plans.specs.Claims.{planned, PartsReach}
use Rattle.plans.proofs.Reach.{out_of_reach, miss_refutes, within_reach, clear_achieves}
use Rattle.truth.specs.Dockets.{Priced, Verdict, Open, Achieved, Refuted, Docket, ceiling, judged, part_sum, meets, backed, shown, posed, priced, mixed, settle_prices, settle_priced, settled}
use Rattle.truth.specs.Calls.{Call, price, mix, retarget, clear, settle, Fault, drafted, refusal, if_taken, effect, after, ran, prices, mixes, priced_by, mixed_by}
use Rattle.truth.specs.Claims.{Orderly, Accepted, MeetsAll, AllMiss, AllClear, IsAchieved, IsRefuted, NotBelow, SettledAs, ShowsTrue, Truth, TruthDrafted}
use Rattle.truth.proofs.Tests.{decides_ltZ}
use Rattle.truth.proofs.Taken.{after_both, taken_exactly}
use Rattle.truth.proofs.Drafting.{drafted_posable}
use Rattle.truth.proofs.Judging.{decides_enough}
use Rattle.truth.proofs.Rows.{rows_priced, row_of, orderly_none}
use Rattle.truth.proofs.Settling.{mixes_cases, achieved, settle_verdict, settle_keeps}
use Rattle.truth.proofs.Runs.{orderly_effect, run_keeps}
use Rattle.truth.proofs.Mixing.{backed_more, backed_sum, backed_parts, backed_mixture}

horizon_some : (t : Table) (os : List Objective) → All (Accepted t) os → 1 ≤ length os → 1 ≤ horizon os
horizon_some t [] h l = l
horizon_some t (o ∷ os) h l = omega (arith, (All-head (Accepted t) o os h).some)

weighed_some : (ws : List ℕ) → 1 ≤ sum ws → 1 ≤ length ws
weighed_some [] l = l
weighed_some (w ∷ ws) l = omega arith

module _ (t : Table) where
  -- ---- the invariant
  -- why a verdict is right
  abbrev Just : List Objective → List Priced → Verdict → Type 0
  Just os rs Open = Unit {0}
  Just os rs (Achieved ss) = (length ss ≤ length rs) × Mixture t os (map (planned t os) (backed ss rs)) × MeetsAll t os (map (planned t os) (backed ss rs))
  Just os rs (Refuted ws c s) = (c ≡ ceiling t os ws) × (s ≡ target_sum ws os) × (c <ℤ s)

  -- a row more leaves a verdict right
  just_more : (os : List Objective) (rs qs : List Priced) (v : Verdict) → Just os rs v → Just os (rs ++ qs) v
  just_more os rs qs Open j = tt
  just_more os rs qs (Achieved ss) j =
      rw (backed_more ss rs qs j.0) (omega (arith, length-append rs qs, j.0), j.1, j.2)
  just_more os rs qs (Refuted ws c s) j = j

  just_judged : (os : List Objective) (rs : List Priced) (v : Verdict) (so : Bool) (new : Verdict) → Just os rs v → (so ≡ true → Just os rs new) → Just os rs (judged v so new)
  just_judged os rs Open so new j h = cond_both so new Open (Just os rs) h (λ e. tt)
  just_judged os rs (Achieved ss) so new j h = j
  just_judged os rs (Refuted ws c s) so new j h = j

  abbrev Sound : Docket → Type 0
  Sound d = Orderly t d × Just d.objectives d.table d.verdict

  just_priced : (d : Docket) (ws : List ℕ) → Just d.objectives d.table d.verdict → Just d.objectives (priced t d ws).table (priced t d ws).verdict
  unfolding priced
  just_priced d ws j =
      let os = d.objectives in
      let c = ceiling t os ws in
      let s = target_sum ws os in
      let rs = d.table in
      let new : lt_z c s ≡ true → (c ≡ c) × (s ≡ s) × (c <ℤ s) = λ e. (refl, refl, (decides_ltZ c s).0 e) in
      rows_priced t d ws (λ qs. Just os qs (judged d.verdict (lt_z c s) (Refuted ws c s)))
      (λ q. just_judged os rs d.verdict (lt_z c s) (Refuted ws c s) j new)
      (λ q. just_judged os (rs ++ row_of t d ws ∷ []) d.verdict (lt_z c s) (Refuted ws c s) (just_more os rs (row_of t d ws ∷ []) d.verdict j) new)

  module _ (facts : Facts t) where
    -- no mixture meets where a docket is refuted
    excluded : (os : List Objective) (ws : List ℕ) (c s : ℤ) → Just os [] (Refuted ws c s) → (ms : List Share) → Mixture t os ms → ¬ MeetsAll t os ms
    excluded os ws c s (a, b, l) ms m = out_of_reach t os ws ms facts (omega (arith, ints)) m

    -- ---- a pricing by which every plan misses
    price_shows : (d : Docket) (ws : List ℕ) (lent : ℕ) → refusal t d (price ws lent) ≡ None → Sound d → AllMiss t d.objectives ws → IsRefuted (priced t d ws).verdict
    unfolding priced
    price_shows d ws lent r (o, just) m = by d.verdict just (lt_z (ceiling t d.objectives ws) (target_sum ws d.objectives)) ((decides_ltZ _ _).1 low)
      where
        low : ceiling t d.objectives ws <ℤ target_sum ws d.objectives
        low =
            let w = (((taken_exactly t d).price_if ws lent).0 r).0 in
            miss_refutes t d.objectives ws facts (horizon_some t d.objectives o.posable.each (omega (arith, w.each, weighed_some ws w.some))) m

        by : (v : Verdict) → Just d.objectives d.table v → (so : Bool) → so ≡ true → IsRefuted (judged v so (Refuted ws (ceiling t d.objectives ws) (target_sum ws d.objectives)))
        by Open j true e = (ws, ceiling t d.objectives ws, target_sum ws d.objectives, refl)
        by Open j false e = absurd (false≢true e)
        by (Achieved ss) j so e = absurd (excluded d.objectives ws _ _ (refl, refl, low) (shown t d ss) j.1 j.2)
        by (Refuted qs a b) j so e = (qs, a, b, refl)

    -- ---- a mix that meets, and one that clears every target
    module _ (d : Docket) (ss : List ℕ) (r : refusal t d (mix ss) ≡ None) (sound : Sound d) where
      -- the sweeps' parts reach a target where the rows' parts do
      reach : (i : ℕ) → PartsReach t d.objectives (backed ss d.table) i ≡ ((sum ss · (get_or d.objectives i no_objective).target) ≤ℤ part_sum ss d.table i)
      reach i =
          let full = (((taken_exactly t d).mix_if ss).0 r).0 in
          λ j. (backed_sum ss d.table full j · (get_or d.objectives i no_objective).target) ≤ℤ backed_parts t d.objectives i ss d.table full sound.0.told j

      just_mixed : meets d ss ≡ true → Just d.objectives d.table (Achieved ss)
      just_mixed e =
          let os = d.objectives in
          let h = ((taken_exactly t d).mix_if ss).0 r in (
            omega arith,
            backed_mixture t os facts ss d.table h.0 h.1,
            All-from_get_or (Meets t os (shown t d ss)) os no_objective
                (λ i l. within_reach t os (backed ss d.table) i facts l sound.0.posable.few (subst (λ X. X) (sym (reach i)) ((decides_enough d ss).0 e i l))),
          )

      clears_meet : AllClear t d ss → meets d ss ≡ true
      clears_meet c =
          let os = d.objectives in
          let p = sound.0.posable in
          (decides_enough d ss).1
          (λ i l. subst (λ X. X) (reach i)
          (clear_achieves t os (backed ss d.table) i facts l p.few (All-get_or (Accepted t) os i no_objective l p.each).some (All-get_or (Clears t os (shown t d ss)) os i no_objective l c)))

      mix_shows : AllClear t d ss → IsAchieved (mixed d ss).verdict
      unfolding mixed
      mix_shows c = by d.verdict sound.1 (meets d ss) (clears_meet c)
        where
          by : (v : Verdict) → Just d.objectives d.table v → (so : Bool) → so ≡ true → IsAchieved (judged v so (Achieved ss))
          by Open j true e = (ss, refl)
          by Open j false e = absurd (false≢true e)
          by (Achieved qs) j so e = (qs, refl)
          by (Refuted ws a b) j so e = let m = just_mixed (clears_meet c) in absurd (excluded d.objectives ws a b j (shown t d ss) m.1 m.2)

      sound_mixed : Sound (mixed d ss)
      unfolding mixed
      sound_mixed = (orderly_effect t d (mix ss) r sound.0, just_judged d.objectives d.table d.verdict (meets d ss) (Achieved ss) sound.1 just_mixed)

    sound_priced : (d : Docket) (ws : List ℕ) (lent : ℕ) → refusal t d (price ws lent) ≡ None → Sound d → Sound (priced t d ws)
    unfolding priced
    sound_priced d ws lent r (o, j) = (orderly_effect t d (price ws lent) r o, just_priced d ws j)

    sound_effect : (d : Docket) (c : Call) → refusal t d c ≡ None → Sound d → Sound (effect t d c)
    sound_effect d (price ws lent) r s = sound_priced d ws lent r s
    sound_effect d (mix ss) r s = sound_mixed d ss r s
    sound_effect d (retarget ts) r (o, j) = (orderly_effect t d (retarget ts) r o, tt)
    sound_effect d clear r (o, j) = (orderly_effect t d clear r o, tt)
    sound_effect d (settle lent) r (o, j) =
        settle_keeps t lent d r Sound (orderly_effect t d clear refl o, tt) (λ e ws q s. sound_priced e ws lent q s) (λ e ss q s. sound_mixed e ss q s)

    -- ---- what a call took tells
    abbrev MissTells : Docket → List ℕ → Type 0
    MissTells d ws = AllMiss t d.objectives ws → IsRefuted d.verdict

    abbrev ClearTells : Docket → List ℕ → Type 0
    ClearTells d ss = AllClear t d ss → IsAchieved d.verdict

    abbrev Tells : Docket → List (List ℕ) → List (List ℕ) → Type 0
    Tells d wss sss = All (MissTells d) wss × All (ClearTells d) sss

    no_tells : (d : Docket) → Tells d [] []
    no_tells d = (All-nil (MissTells d), All-nil (ClearTells d))

    -- weights at which no pricing was below are none at which every plan misses
    not_missed : (os : List Objective) (wss : List (List ℕ)) (P : Type 0) → 1 ≤ horizon os → All (NotBelow t os) wss → All (λ ws. AllMiss t os ws → P) wss
    not_missed os wss P some = All-weaker (NotBelow t os) (λ ws. AllMiss t os ws → P) (λ ws h m. absurd (clash_ℤ (miss_refutes t os ws facts some m) h)) wss

    settle_tells : (d : Docket) (v : Verdict) → 1 ≤ horizon d.objectives → SettledAs t d v → All (λ ws. AllMiss t d.objectives ws → IsRefuted v) (settle_prices t d)
    settle_tells d Open some h = not_missed d.objectives (settle_prices t d) (IsRefuted Open) some h.0
    settle_tells d (Achieved ss) some h = not_missed d.objectives (settle_prices t d) (IsRefuted (Achieved ss)) some h.0
    settle_tells d (Refuted ws c s) some h =
        All-from_get_or (λ qs. AllMiss t d.objectives qs → IsRefuted (Refuted ws c s)) (settle_prices t d) [] (λ i l m. (ws, c, s, refl))

    effect_tells : (d : Docket) (c : Call) → refusal t d c ≡ None → Sound d → Tells (effect t d c) (prices t d c) (mixes t d c)
    unfolding priced mixed
    effect_tells d (price ws lent) r s =
        let e = effect t d (price ws lent) in
        (All-cons (MissTells e) ws [] (λ m. price_shows d ws lent r s m) (All-nil (MissTells e)), All-nil (ClearTells e))
    effect_tells d (mix ss) r s =
        let e = effect t d (mix ss) in
        (All-nil (MissTells e), All-cons (ClearTells e) ss [] (λ c. mix_shows d ss r s c) (All-nil (ClearTells e)))
    effect_tells d (retarget ts) r s = no_tells (effect t d (retarget ts))
    effect_tells d clear r s = no_tells (effect t d clear)
    effect_tells d (settle lent) r s =
        let e = settle_priced t d in
        let two = (((taken_exactly t d).settle_if lent).0 r).1 in
        let some = horizon_some t d.objectives s.0.posable.each (omega arith) in
        let Then : List (List ℕ) → List ℕ → Type 0 = λ sss ss. AllClear t (settled t d) ss → IsAchieved (fold mixed e sss).verdict in
        let same : (settled t d).objectives ≡ d.objectives = settle_keeps t lent d r (λ e. e.objectives ≡ d.objectives) refl (λ f ws q p. p) (λ f ss q p. p) in (
          subst (λ os. All (λ ws. AllMiss t os ws → IsRefuted (settled t d).verdict) (settle_prices t d)) (sym same) (settle_tells d (settled t d).verdict some (settle_verdict t d)),
          mixes_cases e (λ sss. All (Then sss) sss) (λ o. All-nil (Then [])) (λ o none. All-nil (Then []))
              (λ o ss f. All-cons (Then (ss ∷ [])) ss [] (λ c. (ss, achieved e ss o f)) (All-nil (Then (ss ∷ [])))),
        )

    after_tells : (d : Docket) (c : Call) → Sound d → Tells (after t d c) (priced_by t d c) (mixed_by t d c)
    after_tells d c s = by (refusal t d c) refl
      where
        by : (o : Option Fault) → refusal t d c ≡ o → Tells (if_taken o (effect t d c) d) (if_taken o (prices t d c) []) (if_taken o (mixes t d c) [])
        by None r = effect_tells d c r s
        by (Some f) r = no_tells d

    shows : (d : Docket) → Sound d → ShowsTrue t d
    shows d (o, j) = record {
      if_achieved = λ ss e. (let k = subst (Just d.objectives d.table) e j in (k.1, k.2));
      if_refuted = λ ws c s e. excluded d.objectives ws c s (subst (Just d.objectives d.table) e j);
      numbers = λ ws c s e. subst (Just d.objectives d.table) e j;
    }

pub truth : Truth
truth t os calls call facts p =
    let d = ran t (posed os) calls in
    let s = run_keeps t (Sound t) (sound_effect t facts) calls (posed os) (orderly_none t os p, tt) in
    let tells = after_tells t facts d call s in
    (shows t facts (after t d call) (after_both t d call (Sound t) (λ r. sound_effect t facts d call r s) s), tells.0, tells.1)

pub truth_drafted : TruthDrafted
truth_drafted t facts offers calls call = truth t (drafted t.columns offers) calls call facts (drafted_posable t offers)
