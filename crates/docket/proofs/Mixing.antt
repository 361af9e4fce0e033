-- A mix that is taken. Assumes nothing.
use Rattle.std.proofs.Common.{◌≡◌, ℕ, Bool, List, length, take, Ok, Option, sym, ap, ◌∙◌, arith}
use Rattle.std.specs.Bool.{then_some}
use Rattle.std.proofs.lemmas.List.{take_all}
use Rattle.std.proofs.lemmas.Bool.Decides.{nat_tests}
use Rattle.mdp.specs.Table.{Table}
use Rattle.truth.specs.Dockets.{Verdict, Achieved, judged, meets, mixed}
use Rattle.truth.specs.Calls.{mix, after}
use Rattle.verdict.specs.Answers.{answered}
use Rattle.few.specs.Views.{listed}
use Rattle.verdict.specs.declared.verdict.Event.TheVariants.{Mixed}
use Rattle.verdict.specs.Verdicts.{verdict_of, came_out, verdict_by}
use Rattle.verdict.proofs.Refused.{taken_none, taken_value, if_none}
use Rattle.holdings.specs.Refusals.{shares_refusal}
use Rattle.holdings.specs.Views.{held, table_of}
use Rattle.holdings.proofs.Rows.{table_within}
use Rattle.docket.specs.declared.docket.Docket.{Docket}
use Rattle.docket.specs.Views.{view}
use Rattle.docket.proofs.Pairs.{Shares, turned}

pub mixed_is : {M : Type 0} (t : Table) (d : Docket M) (ss : List ℕ) (kept : Shares) (enough : Option Shares) (met : Bool) (v : Verdict) →
    Ok met ≡ answered (shares_refusal (length (table_of d.table)) ss) (meets (view d) ss) → listed kept ≡ take 16 ss → enough ≡ then_some met kept →
    v ≡ judged (verdict_of d.verdict) (came_out (Mixed enough)) (verdict_by (Mixed enough)) → record (view d) { verdict = v } ≡ after t (view d) (mix ss)
unfolding mixed
mixed_is t d ss kept enough met v h k so turns =
    let o = shares_refusal (length (table_of d.table)) ss in
    let none = taken_none o met (meets (view d) ss) h in
    let met_is = taken_value o met (meets (view d) ss) h in
    let each : length ss ≡ length (table_of d.table) = grind (arith, nat_tests) in
    let all = k ∙ take_all 16 ss (omega (arith, table_within d.table)) in
    let turn = turns ∙ ap (λ e. judged (verdict_of d.verdict) (came_out (Mixed e)) (verdict_by (Mixed e))) so
    ∙ turned (verdict_of d.verdict) met kept ss all ∙ ap (λ b. judged (verdict_of d.verdict) b (Achieved ss)) met_is in
    (λ i. record { objectives = held d.objectives; table = table_of d.table; verdict = turn i }) ∙ sym (if_none o (mixed (view d) ss) (view d) none)
