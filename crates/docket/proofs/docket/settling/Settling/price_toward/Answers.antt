use Rattle.std.proofs.Common.{List, length, get_or, pos, sym, ap, ◌∙◌, arith, w64, rules}
use lib.Signed.{le_z}
use Rattle.std.proofs.lemmas.Int.{to_z-of_z}
use Rattle.plans.specs.declared.Objective.{Objective}
use Rattle.plans.specs.Plans.{no_objective}
use Rattle.truth.specs.Dockets.{priced, toward}
use Rattle.truth.specs.Calls.{price, refusal}
use Rattle.verdict.proofs.Refused.{taken_value}
use Rattle.verdict.specs.Answers.{told_docket, answered}
use Rattle.docket.specs.declared.docket.pricing.Price.{Price}
use Rattle.docket.specs.Pricing.{price_of}
use Rattle.docket.specs.Stages.{stage}
use Rattle.docket.proofs.Settling.{toward_leads}
use Rattle.docket.proofs.docket.settling.Settling.price_toward.Goals as goal

pub invariant_of-self : goal.invariant_of-self
unfolding priced
invariant_of-self g c =
    let s = c.args.self.now in
    let p = c.price.ensures in
    let e = toward_leads s c.args.first c.requires.room c.requires.small c.price.new.self c.price.new.rows p.model p.after p.rows in
    record { lent = omega (arith, ap (λ x. length x.table.states) e, s.lent, c.price.auto.rows); two = ap (λ x. length x.docket.objectives) e ∙ s.two }

pub returns : goal.returns
returns g c =
    let s = c.args.self.now in
    let p = c.price.ensures in
    let t = (stage s).table in
    let d = (stage s).docket in
    let ws = toward c.args.first in
    let o = refusal t d (price ws (length s.rows.now)) in
    let price_is = taken_value o c.unwrap-price.result (price_of t d ws) (◌∙◌ {c = answered o (price_of t d ws)} (sym (ap told_docket c.unwrap-price.ensures)) p.answer) in
    let want = to_z-of_z w64 (get_or c.objectives.result.now 0 no_objective).target (search rules) ∙ ap (λ (xs : List Objective). (get_or xs 0 no_objective).target) c.objectives.ensures in
    let got = to_z-of_z w64 (get_or c.unwrap-price.result.point 0 (pos 0)) (search rules) ∙ ap (λ (q : Price). get_or q.point 0 (pos 0)) price_is in
    record {
      answer = λ i. le_z (want i) (got i);
      after = toward_leads s c.args.first c.requires.room c.requires.small c.price.new.self c.price.new.rows p.model p.after p.rows;
    }
