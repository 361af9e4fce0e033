use Rattle.std.proofs.Common.{length, Some, Ok, Err, sym, refl, ap, ◌∙◌, subst}
use Rattle.std.proofs.lemmas.Result.{err_from_is_err_and}
use Rattle.mdp.specs.Table.{Facts}
use Rattle.file_check.specs.Accepts.{read_table}
use Rattle.file_check.specs.Decode.{decode}
use Rattle.file_check.proofs.Accepted.{file_facts}
use Rattle.text.specs.Texts.{text_of}
use Rattle.assessment.specs.Questions.{asked}
use Rattle.assessment.specs.Faults.{told_fault, unless}
use Rattle.assessment.specs.Listings.{listing}
use Rattle.assessment.specs.Assess.{assess_fault, assessed, onto, if_none}
use Rattle.assessment.proofs.Pairing.{answers_none, answers_some, answers_value, refused_told, refused_stays}
use Rattle.assessment.proofs.Order.{early_fault, by_file, by_question, pair_answer, pair_rows, wide_enough, shows_true}
use Rattle.assessment.proofs.assess.assess.Goals as goal
use Rattle.assessment.proofs.assess.assess.Goals.{After-read-model}

model_facts : (c : After-read-model) → Facts (read_table c.args.model.now)
model_facts c = let m = c.read-model.result in subst Facts c.read-model.ensures.model (file_facts m.bytes.now m.sound m.typed)

pub returns-in-Some : goal.returns-in-Some
returns-in-Some c =
    let file = c.args.model.now in
    let q = c.args.question.now in
    let lent = length c.args.rows.now in
    let room = length c.args.print.now in
    let y = c.from.result in
    let fault = by_file file q lent room c.in-Some.fault (c.in-Some.ensures ∙ c.read-model.ensures.fault) ∙ ap (λ f. Some (told_fault f)) (sym c.from.ensures) in
    record {
      answer = refused_told _ (Err y) y _ refl fault;
      rows = refused_stays _ (told_fault y) _ _ fault;
      print = refused_stays _ (told_fault y) _ _ fault;
      truth = shows_true file q lent (model_facts (goal.at.returns-in-Some c).After-read-model);
    }

pub returns-in_err-first : goal.returns-in_err-first
returns-in_err-first c =
    let file = c.args.model.now in
    let q = c.args.question.now in
    let lent = length c.args.rows.now in
    let room = length c.args.print.now in
    let good = c.in_default.ensures ∙ c.read-model.ensures.fault in
    let (y, is, same) = err_from_is_err_and c.from_residual.result c.from_residual.ensures.1 in
    let early = answers_some (early_fault q room) _ (asked q) c.in_err-first.ensures in
    let fault = by_question file q lent room good _ early ∙ ap (λ f. Some (told_fault f)) (sym same) in
    record {
      answer = refused_told _ c.from_residual.result y _ is fault;
      rows = refused_stays _ (told_fault y) _ _ fault;
      print = refused_stays _ (told_fault y) _ _ fault;
      truth = shows_true file q lent (model_facts (goal.at.returns-in_err-first c).After-read-model);
    }

pub returns-in_err-text : goal.returns-in_err-text
returns-in_err-text c =
    let file = c.args.model.now in
    let q = c.args.question.now in
    let old = c.args.rows.now in
    let lent = length old in
    let room = length c.args.print.now in
    let good = c.in_default.ensures ∙ c.read-model.ensures.fault in
    let t = decode c.read-model.result.bytes.now in
    let m = c.read-model.ensures.model in
    let os = c.in_ok-first.field-0 in
    let early = answers_none (early_fault q room) os (asked q) c.in_ok-first.ensures in
    let two = answers_value (early_fault q room) os (asked q) c.in_ok-first.ensures in
    let (y, is, same) = err_from_is_err_and c.from_residual-in_err-text.result c.from_residual-in_err-text.ensures.1 in
    let told = pair_answer file q lent room good early t os m two (Err (told_fault c.in_err-text.field-0.0)) c.in_err-text.ensures.answer in
    let fault = answers_some _ _ _ told ∙ ap (λ f. Some (told_fault f)) (sym same) in
    record {
      answer = refused_told _ c.from_residual-in_err-text.result y _ is fault;
      rows = pair_rows file q lent room good early t os m two old c.settle_pair.new.rows c.settle_pair.ensures.rows;
      print = refused_stays _ (told_fault y) _ _ fault;
      truth = shows_true file q lent (model_facts (goal.at.returns-in_err-text c).After-read-model);
    }

pub put-requires : goal.put-requires
put-requires c =
    let q = c.args.question.now in
    let room = length c.args.print.now in
    wide_enough q room (answers_none (early_fault q room) c.in_ok-first.field-0 (asked q) c.in_ok-first.ensures)

pub returns : goal.returns
returns c =
    let file = c.args.model.now in
    let q = c.args.question.now in
    let old = c.args.rows.now in
    let print = c.args.print.now in
    let lent = length old in
    let room = length print in
    let good = c.in_default.ensures ∙ c.read-model.ensures.fault in
    let t = decode c.read-model.result.bytes.now in
    let m = c.read-model.ensures.model in
    let os = c.in_ok-first.field-0 in
    let early = answers_none (early_fault q room) os (asked q) c.in_ok-first.ensures in
    let two = answers_value (early_fault q room) os (asked q) c.in_ok-first.ensures in
    let f = assess_fault file q lent room in
    let lines = listing (assessed file q lent) in
    let told = pair_answer file q lent room good early t os m two (Ok (text_of c.in_ok-text.text)) c.in_ok-text.ensures.answer in
    let none = answers_none f _ lines told in
    let is = answers_value f _ lines told in
    record {
      answer = ap (λ n. Ok n) (c.put.ensures.answer ∙ ap length is) ∙ ap (λ x. unless x (length lines)) (sym none);
      rows = pair_rows file q lent room good early t os m two old c.settle_pair.new.rows c.settle_pair.ensures.rows;
      print = c.put.ensures.print ∙ ap (λ l. onto l print) is ∙ ap (λ x. if_none x (onto lines print) print) (sym none);
      truth = shows_true file q lent (model_facts (goal.at.returns c).After-read-model);
    }
