use Rattle.std.proofs.Common.{◌≡◌, is_some, length, Some, Ok, Err, sym, refl, ap, ◌∙◌, w64, rules}
use Rattle.std.proofs.lemmas.Int.{to_z-of_z}
use Rattle.std.proofs.lemmas.Result.{err_from_is_err_and}
use Rattle.truth.specs.Dockets.{number, swept, priced}
use Rattle.truth.specs.Calls.{price, refusal}
use Rattle.verdict.specs.Answers.{told_docket, answered}
use Rattle.verdict.specs.Verdicts.{verdict_of}
use Rattle.few.specs.Views.{listed}
use Rattle.verdict.proofs.Refused.{taken_none, taken_value, taken_some, if_none, if_some, numbered}
use Rattle.holdings.specs.Refusals.{weights_refusal, room_refusal}
use Rattle.holdings.specs.Views.{held, table_of}
use Rattle.docket.specs.Pricing.{priced_rows, price_of, lent_refusal}
use Rattle.docket.specs.Views.{view}
use Rattle.docket.proofs.Pricing.{refusal_is, same_weights, is_taken, row_is, answer_is, rows_are, view_is, price_is}
use Rattle.docket.proofs.docket.Docket.price.Goals as goal

pub returns-in_err-row : goal.returns-in_err-row
returns-in_err-row g c =
    let d = c.args.self.now in
    let t = g.M.Model.table d.model in
    let ws = c.args.weights.now in
    let old = c.args.rows.now in
    let kept = listed c.in_ok-weights.weights in
    let f = numbered c.in_err-row.field-0.0 in
    let rs = table_of d.table in
    let w = c.in_ok-weights.ensures in
    let same : kept ≡ ws = taken_value (weights_refusal (length (held d.objectives)) ws) kept ws w in
    let o = refusal t (view d) (price ws (length old)) in
    let e : o ≡ Some f =
    refusal_is t (view d) ws (length old) (Some f) (taken_none (weights_refusal (length (held d.objectives)) ws) kept ws w)
    (taken_none (lent_refusal t (length old)) tt tt c.in_ok-check_lent.ensures)
    (ap (room_refusal rs) (sym same) ∙ taken_some (room_refusal rs kept) f (number kept rs) c.in_err-row.ensures) in
    let p = err_from_is_err_and c.from_residual-in_err-row.result c.from_residual-in_err-row.ensures.1 in
    record {
      answer = ap told_docket (p.1 ∙ ap Err p.2) ∙ sym (ap (λ v. answered v (price_of t (view d) ws)) e);
      after = sym (if_some o f (priced t (view d) ws) (view d) e);
      rows = sym (if_some o f (priced_rows t (held d.objectives) ws old) old e);
      model = refl;
    }

pub unwrap-ceiling-requires : goal.unwrap-ceiling-requires
unwrap-ceiling-requires g c =
    let d = c.args.self.now in
    let t = g.M.Model.table d.model in
    let ws = c.args.weights.now in
    let old = c.args.rows.now in
    let lends = taken_none (lent_refusal t (length old)) tt tt c.in_ok-check_lent.ensures in
    let same = same_weights t (view d) ws _ (length old) _ c.in_ok-weights.ensures lends c.in_ok-row.ensures in
    let taken = is_taken t (view d) ws _ (length old) _ c.in_ok-weights.ensures lends c.in_ok-row.ensures in
    ap is_some (c.sweep-swept.ensures.answer ∙ answer_is t d ws old taken _ c.as_slice-objectives.ensures _ (c.as_slice.ensures ∙ same))

pub returns : goal.returns
returns g c =
    let d = c.args.self.now in
    let t = g.M.Model.table d.model in
    let ws = c.args.weights.now in
    let old = c.args.rows.now in
    let lent = length old in
    let o = refusal t (view d) (price ws lent) in
    let lends = taken_none (lent_refusal t lent) tt tt c.in_ok-check_lent.ensures in
    let same = same_weights t (view d) ws _ lent _ c.in_ok-weights.ensures lends c.in_ok-row.ensures in
    let taken = is_taken t (view d) ws _ lent _ c.in_ok-weights.ensures lends c.in_ok-row.ensures in
    let number-is = row_is t (view d) ws _ lent _ c.in_ok-weights.ensures lends c.in_ok-row.ensures in
    let a : c.sweep-swept.result ≡ Some (swept t (held d.objectives) ws) =
    c.sweep-swept.ensures.answer ∙ answer_is t d ws old taken _ c.as_slice-objectives.ensures _ (c.as_slice.ensures ∙ same) in
    let b = c.unwrap-ceiling.ensures in
    let r = c.unwrap-ceiling.result in
    let q : r ≡ swept t (held d.objectives) ws = cc in
    let x = to_z-of_z w64 r.ceiling (search rules) in
    let y = to_z-of_z w64 c.target_sum-target_sum.result (search rules) ∙ c.target_sum-target_sum.ensures in
    let e = record (view d) { table = table_of c.add.new.self; verdict = verdict_of c.after-self.result } in
    record {
      answer = ap Ok (price_is t (view d) e ws _ same lent taken _ r _ _ number-is q x y refl c.after-self.ensures c.add.ensures) ∙ sym (ap (λ f. answered f (price_of t (view d) ws)) taken);
      after = view_is t (view d) e ws _ same lent taken _ r _ _ number-is q x y refl c.after-self.ensures c.add.ensures ∙ sym (if_none o (priced t (view d) ws) (view d) taken);
      rows = c.sweep-swept.ensures.rows ∙ rows_are t d ws old taken _ c.as_slice-objectives.ensures _ (c.as_slice.ensures ∙ same) ∙ sym (if_none o (priced_rows t (held d.objectives) ws old) old taken);
      model = refl;
    }
