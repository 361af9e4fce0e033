-- The mix of a settle, as the code finds it. Assumes nothing.
use Rattle.std.proofs.Common.{◌≡◌, ℕ, Bool, true, false, cond, List, [], ◌∷◌, length, take, Some, None, filter, fold, Option, sym, refl, ap, ◌∙◌}
use Rattle.std.specs.Bool.{then_some}
use Rattle.std.specs.List.{find}
use Rattle.std.specs.Option.{option_map, option_to_list}
use Rattle.std.proofs.lemmas.Bool.{cond_both}
use Rattle.truth.specs.Dockets.{Docket, Verdict, Open, Achieved, Refuted, judged, is_open, meets, mixed, pairings, settle_mixes}
use Rattle.few.specs.Views.{listed}
use Rattle.few.specs.declared.Few.{Few}
use Rattle.verdict.specs.declared.verdict.Event.TheVariants.{Mixed}
use Rattle.verdict.specs.Verdicts.{came_out, verdict_by}

abbrev pub Shares : Type 0
Shares = Few ℕ 16

-- the first that passes
first_kept : {X : Type 0} (p : X → Bool) (xs : List X) → take 1 (filter p xs) ≡ option_to_list (find p xs)
first_kept p [] = refl
first_kept p (x ∷ xs) = elim (p x) as (λ b. take 1 (cond b (x ∷ filter p xs) (filter p xs)) ≡ option_to_list (cond b (Some x) (find p xs))) [ true ↦ refl | false ↦ first_kept p xs ]

pub first_passes : {X : Type 0} (p : X → Bool) (xs : List X) (x : X) → Some x ≡ find p xs → p x ≡ true
first_passes p [] x e = cc
first_passes p (y ∷ xs) x e =
    cond_both (p y) (Some y) (find p xs) (λ o. Some x ≡ o → p x ≡ true) (λ h q. let z : x ≡ y = cc in ap p z ∙ h) (λ h q. first_passes p xs x q) e

module _ (d : Docket) where
  pub closed : is_open d.verdict ≡ false → d ≡ fold mixed d (settle_mixes d)
  unfolding settle_mixes
  closed e = sym (ap (λ b. fold mixed d (cond b (take 1 (filter (meets d) (pairings (length d.table)))) [])) e)

  pub mixes_found : is_open d.verdict ≡ true → (found : Option (List ℕ)) → found ≡ find (meets d) (pairings (length d.table)) → settle_mixes d ≡ option_to_list found
  unfolding settle_mixes
  mixes_found e found f =
      ap (λ b. cond b (take 1 (filter (meets d) (pairings (length d.table)))) []) e
      ∙ first_kept (meets d) (pairings (length d.table)) ∙ sym (ap option_to_list f)

-- the verdict after a mix that may meet, and after one that is found or not
pub turned : (v : Verdict) (met : Bool) (shares : Shares) (ss : List ℕ) → listed shares ≡ ss →
    judged v (came_out (Mixed (then_some met shares))) (verdict_by (Mixed (then_some met shares))) ≡ judged v met (Achieved ss)
turned v true shares ss e = ap (λ xs. judged v true (Achieved xs)) e
turned Open false shares ss e = refl
turned (Achieved xs) false shares ss e = refl
turned (Refuted ws c s) false shares ss e = refl

pub mixed_found : (d : Docket) (found : Option Shares) → option_map listed found ≡ find (meets d) (pairings (length d.table)) →
    ◌≡◌ {A = Docket} (record { objectives = d.objectives; table = d.table; verdict = judged d.verdict (came_out (Mixed found)) (verdict_by (Mixed found)) })
    (fold mixed d (option_to_list (option_map listed found)))
unfolding mixed
mixed_found d None e = ap (λ v. record { objectives = d.objectives; table = d.table; verdict = v }) (stands d.verdict)
  where
    stands : (v : Verdict) → judged v false Open ≡ v
    stands Open = refl
    stands (Achieved xs) = refl
    stands (Refuted ws c s) = refl
mixed_found d (Some shares) e =
    ap (λ b. record { objectives = d.objectives; table = d.table; verdict = judged d.verdict b (Achieved (listed shares)) })
    (sym (first_passes (meets d) (pairings (length d.table)) (listed shares) e))

-- a docket that was open, once the pair that was looked for is mixed
pub opened : (d : Docket) → is_open d.verdict ≡ true → (found : Option Shares) → option_map listed found ≡ find (meets d) (pairings (length d.table)) →
    record d { verdict = judged d.verdict (came_out (Mixed found)) (verdict_by (Mixed found)) } ≡ fold mixed d (settle_mixes d)
opened d e found f = mixed_found d found f ∙ sym (ap (fold mixed d) (mixes_found d e (option_map listed found) f))
