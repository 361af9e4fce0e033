use Rattle.std.proofs.Common.{None, ◌∙◌}
use Rattle.mdp.specs.Questions.{reward_of}
use Rattle.layers.proofs.Halves.{idle_asked, on_reward, on_last, on_last_some}
use Rattle.layers.proofs.goal.GoalDecisionModel.reward.Goals as goal

pub returns-in_default : goal.returns-in_default
returns-in_default g c = idle_asked (λ u. reward_of u c.args.state c.args.choice c.args.branch c.args.column) c.args.self.now.marks (g.M.Model.table c.args.self.now.below) c.reward.result c.in_default.ensures.marks c.reward.ensures

pub returns-then-column-columns : goal.returns-then-column-columns
returns-then-column-columns g c = on_reward c.in-Some.halves.marks.now c.args.self.now.marks (g.M.Model.table c.args.self.now.below) c.in-Some.halves.states c.in-Some.ensures.marks c.in-Some.ensures.states c.args.self.now.fits (g.M.Model.facts c.args.self.now.below) c.args.state c.args.choice c.args.branch c.state_below-low.result c.state_below-low.ensures c.args.column c.columns.result c.columns.ensures c.if-column-columns.true c.reward-then-column-columns.result c.reward-then-column-columns.ensures

pub returns-in_err-next : goal.returns-in_err-next
returns-in_err-next g c = c.from_residual.ensures ∙ on_last c.in-Some.halves.marks.now c.args.self.now.marks (g.M.Model.table c.args.self.now.below) c.in-Some.halves.states c.in-Some.ensures.marks c.in-Some.ensures.states c.args.self.now.fits (g.M.Model.facts c.args.self.now.below) c.args.state c.args.choice c.args.branch c.state_below-low.result c.state_below-low.ensures c.args.column c.columns.result c.columns.ensures c.if-column-columns.false None c.in_err-next.ensures

pub returns : goal.returns
returns g c = on_last_some c.in-Some.halves.marks.now c.args.self.now.marks (g.M.Model.table c.args.self.now.below) c.in-Some.halves.states c.in-Some.ensures.marks c.in-Some.ensures.states c.args.self.now.fits (g.M.Model.facts c.args.self.now.below) c.args.state c.args.choice c.args.branch c.state_below-low.result c.state_below-low.ensures c.args.column c.columns.result c.columns.ensures c.if-column-columns.false c.in_ok-next.next c.reward-2.result c.in_ok-next.ensures c.reward-2.ensures
