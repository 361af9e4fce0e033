use Rattle.std.proofs.Common.{None, ◌∙◌}
use Rattle.mdp.specs.Questions.{whole_branch}
use Rattle.layers.proofs.Halves.{idle_asked, whole_next_low, on_whole, on_whole_some}
use Rattle.layers.proofs.goal.GoalDecisionModel.branch.Goals as goal

pub returns-in_default : goal.returns-in_default
returns-in_default g c = idle_asked (λ u. whole_branch u c.args.state c.args.choice c.args.branch) c.args.self.now.marks (g.M.Model.table c.args.self.now.below) c.branch-self.result c.in_default.ensures.marks c.branch-self.ensures

pub returns-in_err-whole : goal.returns-in_err-whole
returns-in_err-whole g c = c.from_residual.ensures ∙ on_whole c.in-Some.halves.marks.now c.args.self.now.marks (g.M.Model.table c.args.self.now.below) c.in-Some.halves.states c.in-Some.ensures.marks c.in-Some.ensures.states c.args.self.now.fits (g.M.Model.facts c.args.self.now.below) c.args.state c.args.choice c.args.branch c.state_below.result c.state_below.ensures None c.in_err-whole.ensures

pub next-next-requires : goal.next-next-requires
next-next-requires g c = whole_next_low c.in-Some.halves.marks.now c.args.self.now.marks (g.M.Model.table c.args.self.now.below) c.in-Some.halves.states c.in-Some.ensures.marks c.in-Some.ensures.states c.args.self.now.fits (g.M.Model.facts c.args.self.now.below) c.state_below.result c.args.choice c.args.branch c.in_ok-whole.whole c.in_ok-whole.ensures

pub returns : goal.returns
returns g c =
    on_whole_some c.in-Some.halves.marks.now c.args.self.now.marks (g.M.Model.table c.args.self.now.below) c.in-Some.halves.states c.in-Some.ensures.marks c.in-Some.ensures.states c.args.self.now.fits (g.M.Model.facts c.args.self.now.below) c.args.state c.args.choice c.args.branch c.state_below.result c.state_below.ensures c.in_ok-whole.whole c.extend.result c.columns.result c.next-next.result c.reward-reward.result
    c.in_ok-whole.ensures c.columns.ensures c.extend.ensures c.next-next.ensures c.reward-reward.ensures
