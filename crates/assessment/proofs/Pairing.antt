-- Two objectives in turn: their faults, and what is listed of their docket. Assumes nothing.
use Rattle.std.proofs.Common.{◌≡◌, ℕ, List, [], ◌∷◌, Some, None, Ok, Err, codes, Option, Result, sym, refl, ap, ◌∙◌, arith}
use Rattle.std.specs.Result.{result_map_both}
use Rattle.mdp.specs.Table.{Table, Facts}
use Rattle.plans.specs.declared.Objective.{Objective}
use Rattle.truth.specs.Dockets.{Docket, Priced, Verdict, settled}
use Rattle.truth.specs.Calls as calls
use Rattle.truth.specs.Calls.{settle, draft_refusal, added, drafted, refusal, if_taken, after}
use Rattle.truth.proofs.Drafting.{drafted_posable}
use Rattle.truth.proofs.Rows.{orderly_none}
use Rattle.truth.proofs.Taken.{after_taken}
use Rattle.text.specs.Texts.{followed_by}
use Rattle.text.proofs.Followed.{followed_fits}
use Rattle.assessment.specs.declared.faults.QuestionFault.{QuestionFault}
use Rattle.assessment.specs.Faults.{Told, told_fault, told, unless}
use Rattle.assessment.specs.Listings.{lines_of, listing}
use Rattle.assessment.specs.Assess.{from, if_none}
use Rattle.assessment.specs.Steps.{pair_docket, first_fault_of, second_fault_of, docket_fault_of, pair_fault}
use Rattle.assessment.proofs.Room.{listing_short}

-- ---- what an answer tells of the fault
pub answers_none : {X : Type 0} (o : Option Told) (x y : X) → Ok x ≡ unless o y → o ≡ None
answers_none None x y e = refl
answers_none (Some f) x y e = let z : ◌≡◌ {A = ℕ} 0 1 = cc in absurd (omega arith)

pub answers_some : {X : Type 0} (o : Option Told) (f : Told) (y : X) → Err f ≡ unless o y → o ≡ Some f
answers_some None f y e = let z : ◌≡◌ {A = ℕ} 0 1 = cc in absurd (omega arith)
answers_some (Some g) f y e = cc

pub answers_value : {X : Type 0} (o : Option Told) (x y : X) → Ok x ≡ unless o y → x ≡ y
answers_value None x y e = cc
answers_value (Some f) x y e = let z : ◌≡◌ {A = ℕ} 0 1 = cc in absurd (omega arith)

-- and the fault of the answer
pub refused_answer : {X Y : Type 0} (view : X → Y) (o : Option Told) (r : Result X QuestionFault) (y : QuestionFault) (z : Y) → r ≡ Err y → o ≡ Some (told_fault y) →
    result_map_both view told_fault r ≡ unless o z
refused_answer view o r y z e k = ap (result_map_both view told_fault) e ∙ ap (λ v. unless v z) (sym k)

pub refused_told : {X : Type 0} (o : Option Told) (r : Result X QuestionFault) (y : QuestionFault) (z : X) → r ≡ Err y → o ≡ Some (told_fault y) → told r ≡ unless o z
refused_told o r y z e k = ap told e ∙ ap (λ v. unless v z) (sym k)

pub refused_stays : {X : Type 0} (o : Option Told) (f : Told) (a b : X) → o ≡ Some f → b ≡ if_none o a b
refused_stays o f a b k = ap (λ v. if_none v a b) (sym k)

none_from : (layer : List ℕ) (at : ℕ) (o : Option calls.Fault) → from layer at o ≡ None → o ≡ None
none_from layer at None e = refl
none_from layer at (Some f) e = let z : ◌≡◌ {A = ℕ} 0 1 = cc in absurd (omega arith)

module _ (t : Table) (o p : Objective) (lent : ℕ) where
  pub pair_first : (f : Told) → first_fault_of t o ≡ Some f → pair_fault t o p lent ≡ Some f
  unfolding pair_fault
  pair_first f a = rw a

  pub pair_second : (f : Told) → first_fault_of t o ≡ None → second_fault_of t o p ≡ Some f → pair_fault t o p lent ≡ Some f
  unfolding pair_fault
  pair_second f a b = rw (a, b)

  pub pair_docket_fault : (f : Told) → first_fault_of t o ≡ None → second_fault_of t o p ≡ None → docket_fault_of t o p lent ≡ Some f → pair_fault t o p lent ≡ Some f
  unfolding pair_fault
  pair_docket_fault f a b c = rw (a, b, c)

  pub pair_none : first_fault_of t o ≡ None → second_fault_of t o p ≡ None → refusal t (pair_docket t o p) (settle lent) ≡ None → pair_fault t o p lent ≡ None
  unfolding pair_fault
  pair_none a b c = rw (a, b, ap (from (codes "docket") 0) c)

  -- what a draft holds once the first is taken
  pub first_held : first_fault_of t o ≡ None → added t.columns [] o ≡ o ∷ []
  first_held a = ap (λ r. if_taken r (o ∷ []) []) (none_from (codes "draft") 0 (draft_refusal t.columns [] o) a)

  -- the lines fit
  pub pair_lines : Facts t → refusal t (pair_docket t o p) (settle lent) ≡ None → (v : Verdict) (rs : List Priced) →
      v ≡ (settled t (pair_docket t o p)).verdict → rs ≡ (after t (pair_docket t o p) (settle lent)).table →
      followed_by [] (lines_of v rs) ≡ listing (after t (pair_docket t o p) (settle lent))
  pair_lines facts taken v rs ev er =
      let d = pair_docket t o p in
      let is = after_taken t d (settle lent) taken in
      let orderly = orderly_none t (drafted t.columns (o ∷ p ∷ [])) (drafted_posable t (o ∷ p ∷ [])) in
      let all : lines_of v rs ≡ listing (settled t d) = ap (λ v. lines_of v rs) ev ∙ ap (lines_of (settled t d).verdict) (er ∙ ap (λ (e : Docket). e.table) is) in
      ap (followed_by []) all ∙ followed_fits [] (listing (settled t d)) (listing_short t facts d orderly lent taken) ∙ ap listing (sym is)
