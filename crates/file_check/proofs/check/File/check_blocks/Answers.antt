use Rattle.std.proofs.Common.{sym, ◌∙◌, arith}
use Rattle.file_check.proofs.Steps.{broke, blocks_cut, blocks_more}
use Rattle.file_check.proofs.check.File.check_blocks.Goals as goal

pub returns-in_err-check_choices : goal.returns-in_err-check_choices
returns-in_err-check_choices c =
    broke c.from_residual.result c.from_residual.ensures.1
    (sym (c.loop-state.invariant ∙ blocks_cut c.args.self.now.bytes.now c.args.self.now.header _ _ _ c.loop-state-test.true c.block-start.ensures.start c.block-start.ensures.size c.in_err-check_choices.ensures))

pub loop-state-preserved : goal.loop-state-preserved
loop-state-preserved c =
    c.loop-state.invariant ∙ blocks_more c.args.self.now.bytes.now c.args.self.now.header _ _ _ c.loop-state-test.true c.block-start.ensures.start c.block-start.ensures.size c.in_ok-check_choices.ensures (omega arith)
