use Rattle.std.proofs.Common.{Err, sym, ap, ◌∙◌}
use Rattle.std.proofs.lemmas.Bool.{lt-ltb, le-ltb, cond-true, cond-false}
use Rattle.file_check.proofs.Steps.{broke, choices_done, choices_cut, choices_more, choices_last}
use Rattle.file_check.proofs.check.Block.check_choices.Goals as goal

pub returns-then-at-self : goal.returns-then-at-self
returns-then-at-self c = sym (c.loop.invariant ∙ choices_done c.args.self.now.bytes.now c.args.self.now.header _ _ _ _ c.loop-test.true (le-ltb _ _ c.if-at-self.true))

pub returns-in_err-at : goal.returns-in_err-at
returns-in_err-at c =
    broke c.from_residual.result c.from_residual.ensures.1
    (sym (c.loop.invariant ∙ choices_cut c.args.self.now.bytes.now c.args.self.now.header _ _ _ _ c.loop-test.true (lt-ltb _ _ c.if-at-self.false) c.in_err-at.ensures))

pub loop-preserved : goal.loop-preserved
loop-preserved c = c.loop.invariant ∙ choices_more c.args.self.now.bytes.now c.args.self.now.header _ _ _ _ c.loop-test.true (lt-ltb _ _ c.if-at-self.false) c.in_ok-at.ensures

pub returns-then-at-self-2 : goal.returns-then-at-self-2
returns-then-at-self-2 c =
    ap Err c.at.ensures
    ∙ sym (c.loop.invariant ∙ (choices_last c.args.self.now.bytes.now c.args.self.now.header c.args.self.now.end c.loop.at _ c.loop-test.false ∙ cond-true _ _ _ (lt-ltb _ _ c.if-at-self-2.true)))

pub returns : goal.returns
returns c =
    sym (c.loop.invariant ∙ (choices_last c.args.self.now.bytes.now c.args.self.now.header c.args.self.now.end c.loop.at _ c.loop-test.false ∙ cond-false _ _ _ (le-ltb _ _ c.if-at-self-2.false)))
