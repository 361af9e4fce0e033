use Rattle.std.proofs.Common.{None, ◌∙◌}
use Rattle.mdp.specs.Questions.{reward_of}
use Rattle.tables.proofs.Asked.{reward_small}
use Rattle.layers.proofs.Extended.{passed_small}
use Rattle.layers.proofs.Negated.{idle_asked, on_reward, on_last, on_last_some}
use Rattle.layers.proofs.mirror.MirrorDecisionModel.reward.Goals as goal
use Rattle.layers.proofs.mirror.MirrorDecisionModel.reward.Goals.{in_default-via-in-Some+else-column-columns, in_default-via-in_default}

pub returns-in_err-reward-in-Some : goal.returns-in_err-reward-in-Some
returns-in_err-reward-in-Some g c = c.from_residual.ensures ∙ on_last c.in-Some.mirrored c.args.self.now.column (g.M.Model.table c.args.self.now.below) c.in-Some.is c.args.self.now.fits (g.M.Model.facts c.args.self.now.below) c.args.state c.args.choice c.args.branch c.args.column c.columns.result c.columns.ensures c.if-column-columns.true None c.in_err-reward-in-Some.ensures

pub negative-requires : goal.negative-requires
negative-requires g c = passed_small c.in_ok-reward-in-Some.reward (reward_small (g.M.Model.table c.args.self.now.below) c.args.state c.args.choice c.args.branch c.in-Some.mirrored c.in_ok-reward-in-Some.reward (g.M.Model.facts c.args.self.now.below) c.in_ok-reward-in-Some.ensures)

pub returns-in_ok-reward-in-Some : goal.returns-in_ok-reward-in-Some
returns-in_ok-reward-in-Some g c = on_last_some c.in-Some.mirrored c.args.self.now.column (g.M.Model.table c.args.self.now.below) c.in-Some.is c.args.self.now.fits (g.M.Model.facts c.args.self.now.below) c.args.state c.args.choice c.args.branch c.args.column c.columns.result c.columns.ensures c.if-column-columns.true c.in_ok-reward-in-Some.reward c.negative.result c.in_ok-reward-in-Some.ensures c.negative.ensures

pub returns-in_default : goal.returns-in_default
returns-in_default g c = elim c.in_default.branch [
  | in_default-via-in-Some+else-column-columns w ↦ on_reward w.in-Some.mirrored c.args.self.now.column (g.M.Model.table c.args.self.now.below) w.in-Some.is c.args.self.now.fits (g.M.Model.facts c.args.self.now.below) c.args.state c.args.choice c.args.branch c.args.column w.columns.result w.columns.ensures w.if-column-columns.false c.reward-in_default.result c.reward-in_default.ensures
  | in_default-via-in_default w ↦ idle_asked (λ u. reward_of u c.args.state c.args.choice c.args.branch c.args.column) c.args.self.now.column (g.M.Model.table c.args.self.now.below) c.reward-in_default.result w.in_default.is c.reward-in_default.ensures
]
