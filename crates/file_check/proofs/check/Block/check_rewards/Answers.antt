use Rattle.std.proofs.Common.{Err, sym, ap, ◌∙◌, arith}
use Rattle.file_check.proofs.Steps.{rewards_wrong, rewards_more}
use Rattle.file_check.proofs.check.Block.check_rewards.Goals as goal

pub returns-then-not-fits_reward : goal.returns-then-not-fits_reward
returns-then-not-fits_reward c =
    ap Err c.at.ensures ∙ sym (c.loop-i.invariant.1 ∙ rewards_wrong c.args.self.now.bytes.now _ _ _ _ (omega arith) c.in_ok-bits.ensures.answer c.if-not-fits_reward.ensures)

pub loop-i-preserved : goal.loop-i-preserved
loop-i-preserved c = (
  λ _. omega (arith, c.in_ok-bits.ensures.inside),
  c.loop-i.invariant.1 ∙ rewards_more c.args.self.now.bytes.now _ _ _ _ (omega arith) c.in_ok-bits.ensures.answer c.if-not-fits_reward.ensures (omega arith),
)
