use Rattle.std.proofs.Common.{get_or, pos, ◌∙◌}
use Rattle.mdp.specs.Questions.{whole_branch}
use Rattle.layers.proofs.Extended.{passed_small}
use Rattle.layers.proofs.Negated.{idle_asked, whole_absent, whole_small, on_whole_some}
use Rattle.layers.proofs.mirror.MirrorDecisionModel.branch.Goals as goal

pub returns-in_err-whole : goal.returns-in_err-whole
returns-in_err-whole g c = c.from_residual.ensures ∙ whole_absent c.args.self.now.column (g.M.Model.table c.args.self.now.below) c.args.self.now.fits (g.M.Model.facts c.args.self.now.below) c.args.state c.args.choice c.args.branch c.in_err-whole.ensures

pub returns-in_default : goal.returns-in_default
returns-in_default g c = idle_asked (λ u. whole_branch u c.args.state c.args.choice c.args.branch) c.args.self.now.column (g.M.Model.table c.args.self.now.below) _ c.in_default.is c.in_ok-whole.ensures

pub negative-reward-requires : goal.negative-reward-requires
negative-reward-requires g c = passed_small (get_or c.in_ok-whole.whole.rewards c.in-Some.mirrored (pos 0)) (whole_small c.in-Some.mirrored c.args.self.now.column (g.M.Model.table c.args.self.now.below) c.in-Some.is c.args.self.now.fits (g.M.Model.facts c.args.self.now.below) c.args.state c.args.choice c.args.branch c.in_ok-whole.whole c.in_ok-whole.ensures)

pub returns : goal.returns
returns g c = on_whole_some c.in-Some.mirrored c.args.self.now.column (g.M.Model.table c.args.self.now.below) c.in-Some.is c.args.self.now.fits (g.M.Model.facts c.args.self.now.below) c.args.state c.args.choice c.args.branch c.in_ok-whole.whole c.extend.result c.columns.result c.negative-reward.result c.in_ok-whole.ensures c.columns.ensures c.extend.ensures c.negative-reward.ensures
