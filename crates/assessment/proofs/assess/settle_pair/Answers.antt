use Rattle.std.proofs.Common.{◌≡◌, ℕ, List, [], ◌∷◌, length, Some, None, Ok, Err, codes, Result, sym, ap, ◌∙◌}
use Rattle.std.proofs.lemmas.Result.{err_from_is_err_and}
use Rattle.mdp.specs.Table.{Table}
use Rattle.plans.specs.declared.Objective.{Objective}
use Rattle.plans.specs.declared.Row.{Row}
use Rattle.truth.specs.Dockets as dockets
use Rattle.truth.specs.Dockets.{posed, settled}
use Rattle.truth.specs.Calls.{settle, draft_refusal, added, refusal, if_taken, after}
use Rattle.verdict.specs.Verdicts.{verdict_of}
use Rattle.verdict.proofs.Refused.{taken_none, taken_value, taken_some, numbered}
use Rattle.holdings.specs.Views.{held}
use Rattle.docket.specs.Settling.{settled_rows}
use Rattle.docket.specs.Views.{view}
use Rattle.text.specs.Texts.{text_of}
use Rattle.assessment.specs.Questions.{objective_size}
use Rattle.assessment.specs.Faults.{Told, told_fault, unless}
use Rattle.assessment.specs.Listings.{listing}
use Rattle.assessment.specs.Assess.{from, if_none}
use Rattle.assessment.specs.Steps.{pair_docket, first_fault_of, second_fault_of}
use Rattle.assessment.proofs.Pairing.{answers_none, answers_some, refused_answer, refused_stays, pair_first, pair_second, pair_docket_fault, pair_none, first_held, pair_lines}
use Rattle.assessment.proofs.assess.settle_pair.Given as given
use Rattle.assessment.proofs.assess.settle_pair.Goals as goal
use Rattle.assessment.proofs.assess.settle_pair.Goals.{In_ok-add, After-pose-docket}

-- the answers to the two offers, by the table and what the draft holds
first_answer : (t t0 : Table) (h0 : List Objective) (o : Objective) → t0 ≡ t → h0 ≡ [] → (x : Result (Unit {0}) Told) →
    x ≡ unless (from (codes "draft") 0 (draft_refusal t0.columns h0 o)) tt → x ≡ unless (first_fault_of t o) tt
first_answer t t0 h0 o m h x e = e ∙ (λ i. unless (from (codes "draft") 0 (draft_refusal (m i).columns (h i) o)) tt)

second_answer : (t t1 : Table) (h1 : List Objective) (o p : Objective) → t1 ≡ t → h1 ≡ o ∷ [] → (x : Result (Unit {0}) Told) →
    x ≡ unless (from (codes "draft") objective_size (draft_refusal t1.columns h1 p)) tt → x ≡ unless (second_fault_of t o p) tt
second_answer t t1 h1 o p m h x e = e ∙ (λ i. unless (from (codes "draft") objective_size (draft_refusal (m i).columns (h i) p)) tt)

-- the first was taken
first_taken : (g : given.Over) (c : In_ok-add g) →
    let t = g.M.Model.table c.args.model in
    let d = c.add.new.draft in
    (first_fault_of t c.args.first ≡ None) × (g.M.Model.table d.model ≡ t) × (held d.objectives ≡ added t.columns [] c.args.first)
first_taken g c =
    let t = g.M.Model.table c.args.model in
    let o = c.args.first in
    let d0 = c.over-draft.result in
    let m = ap g.M.Model.table c.over-draft.ensures.model in
    let h = c.over-draft.ensures.none in
    let told = first_answer t (g.M.Model.table d0.model) (held d0.objectives) o m h (Ok tt) c.in_ok-add.ensures.answer in
    (answers_none _ tt tt told, ap g.M.Model.table c.add.ensures.model ∙ m, c.add.ensures.after ∙ (λ i. added (m i).columns (h i) o))

-- both were taken, and the docket is posed
both_taken : (g : given.Over) (c : After-pose-docket g) →
    let t = g.M.Model.table c.args.model in
    let d1 = c.add.new.draft in
    let d = c.pose-docket.result in
    (first_fault_of t c.args.first ≡ None) × (g.M.Model.table d1.model ≡ t) × (held d1.objectives ≡ added t.columns [] c.args.first) →
    (second_fault_of t c.args.first c.args.second ≡ None) × (g.M.Model.table d.model ≡ t) × (view d ≡ pair_docket t c.args.first c.args.second)
both_taken g c (none, m1, h1) =
    let t = g.M.Model.table c.args.model in
    let o = c.args.first in
    let p = c.args.second in
    let d1 = c.add.new.draft in
    let told = second_answer t (g.M.Model.table d1.model) (held d1.objectives) o p m1 (h1 ∙ first_held t o p 0 none) (Ok tt) c.in_ok-add-2.ensures.answer in
    let h2 = c.add-2.ensures.after ∙ (λ i. added (m1 i).columns (h1 i) p) in
    (answers_none _ tt tt told, ap g.M.Model.table (c.pose-docket.ensures.model ∙ c.add-2.ensures.model) ∙ m1, c.pose-docket.ensures.view ∙ ap posed h2)

-- the docket as it was posed has the table and the view of the pair
module _ (t t' : Table) (d d' : dockets.Docket) (m : t' ≡ t) (v : d' ≡ d) (lent : ℕ) (old : List Row) where
  as_refusal : refusal t' d' (settle lent) ≡ refusal t d (settle lent)
  as_refusal i = refusal (m i) (v i) (settle lent)

  as_rows : (rows : List Row) → rows ≡ if_taken (refusal t' d' (settle lent)) (settled_rows t' d' old) old → rows ≡ if_taken (refusal t d (settle lent)) (settled_rows t d old) old
  as_rows rows e = e ∙ (λ i. if_taken (refusal (m i) (v i) (settle lent)) (settled_rows (m i) (v i) old) old)

  as_after : (e : dockets.Docket) → e ≡ after t' d' (settle lent) → e ≡ after t d (settle lent)
  as_after e q = q ∙ (λ i. after (m i) (v i) (settle lent))

  as_verdict : (w : dockets.Verdict) → w ≡ (settled t' d').verdict → w ≡ (settled t d).verdict
  as_verdict w q = q ∙ (λ i. (settled (m i) (v i)).verdict)

pub returns-in_err-add : goal.returns-in_err-add
returns-in_err-add g c =
    let t = g.M.Model.table c.args.model in
    let d0 = c.over-draft.result in
    let (y, is, same) = err_from_is_err_and c.from_residual.result c.from_residual.ensures.1 in
    let told = first_answer t (g.M.Model.table d0.model) (held d0.objectives) c.args.first (ap g.M.Model.table c.over-draft.ensures.model) c.over-draft.ensures.none
    (Err (told_fault c.in_err-add.field-0.0)) c.in_err-add.ensures.answer in
    let fault = pair_first t c.args.first c.args.second (length c.args.rows.now) _ (answers_some _ _ tt told) ∙ ap (λ f. Some (told_fault f)) (sym same) in
    record { answer = refused_answer text_of _ c.from_residual.result y _ is fault; rows = refused_stays _ (told_fault y) _ _ fault }

pub returns-in_err-add-2 : goal.returns-in_err-add-2
returns-in_err-add-2 g c =
    let t = g.M.Model.table c.args.model in
    let o = c.args.first in
    let p = c.args.second in
    let d1 = c.add.new.draft in
    let (none, m1, h1) = first_taken g (goal.at.returns-in_err-add-2 g c).In_ok-add in
    let (y, is, same) = err_from_is_err_and c.from_residual-in_err-add-2.result c.from_residual-in_err-add-2.ensures.1 in
    let told = second_answer t (g.M.Model.table d1.model) (held d1.objectives) o p m1 (h1 ∙ first_held t o p 0 none)
    (Err (told_fault c.in_err-add-2.field-0.0)) c.in_err-add-2.ensures.answer in
    let fault = pair_second t o p (length c.args.rows.now) _ none (answers_some _ _ tt told) ∙ ap (λ f. Some (told_fault f)) (sym same) in
    record { answer = refused_answer text_of _ c.from_residual-in_err-add-2.result y _ is fault; rows = refused_stays _ (told_fault y) _ _ fault }

pub returns-in_err-verdict : goal.returns-in_err-verdict
returns-in_err-verdict g c =
    let t = g.M.Model.table c.args.model in
    let o = c.args.first in
    let p = c.args.second in
    let d = pair_docket t o p in
    let old = c.args.rows.now in
    let lent = length old in
    let at = goal.at.returns-in_err-verdict g c in
    let first = first_taken g at.In_ok-add in
    let (second, m, v) = both_taken g at.After-pose-docket first in
    let t' = g.M.Model.table c.pose-docket.result.model in
    let d' = view c.pose-docket.result in
    let r = refusal t d (settle lent) in
    let (y, is, same) = err_from_is_err_and c.from_residual-in_err-verdict.result c.from_residual-in_err-verdict.ensures.1 in
    let f = numbered c.in_err-verdict.field-0.0 in
    let refused = sym (as_refusal t t' d d' m v lent old) ∙ taken_some (refusal t' d' (settle lent)) f _ c.in_err-verdict.ensures.answer in
    let fault = pair_docket_fault t o p lent _ first.0 second (ap (from (codes "docket") 0) refused) ∙ ap (λ f. Some (told_fault f)) (sym same) in
    let kept = as_rows t t' d d' m v lent old c.settle.new.rows c.settle.ensures.rows ∙ ap (λ x. if_taken x (settled_rows t d old) old) refused in
    record { answer = refused_answer text_of _ c.from_residual-in_err-verdict.result y _ is fault; rows = kept ∙ refused_stays _ (told_fault y) _ _ fault }

pub returns : goal.returns
returns g c =
    let t = g.M.Model.table c.args.model in
    let o = c.args.first in
    let p = c.args.second in
    let d = pair_docket t o p in
    let old = c.args.rows.now in
    let lent = length old in
    let at = goal.at.returns g c in
    let first = first_taken g at.In_ok-add in
    let (second, m, v) = both_taken g at.After-pose-docket first in
    let t' = g.M.Model.table c.pose-docket.result.model in
    let d' = view c.pose-docket.result in
    let answer = c.in_ok-verdict.ensures.answer in
    let taken = sym (as_refusal t t' d d' m v lent old) ∙ taken_none (refusal t' d' (settle lent)) _ _ answer in
    let none = pair_none t o p lent first.0 second taken in
    let shown = as_verdict t t' d d' m v lent old (verdict_of c.in_ok-verdict.verdict) (taken_value (refusal t' d' (settle lent)) _ _ answer) in
    let after_is = as_after t t' d d' m v lent old (view c.settle.new.self) c.settle.ensures.after in
    let table = c.rows.ensures ∙ ap (λ (e : dockets.Docket). e.table) after_is in
    let lines = c.list.ensures ∙ pair_lines t o p lent (g.M.Model.facts c.args.model) taken _ _ shown table in
    let rows = as_rows t t' d d' m v lent old c.settle.new.rows c.settle.ensures.rows ∙ ap (λ x. if_taken x (settled_rows t d old) old) taken in
    record { answer = ap Ok lines ∙ ap (λ x. unless x (listing (after t d (settle lent)))) (sym none); rows = rows ∙ ap (λ x. if_none x (settled_rows t d old) old) (sym none) }
