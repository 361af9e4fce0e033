use Rattle.std.proofs.Common.{None, ◌∙◌}
use Rattle.mdp.specs.Questions.{next_of}
use Rattle.layers.proofs.Halves.{idle_asked, next_low, on_next, on_next_some}
use Rattle.layers.proofs.goal.GoalDecisionModel.next.Goals as goal

pub returns-in_default : goal.returns-in_default
returns-in_default g c = idle_asked (λ u. next_of u c.args.state c.args.choice c.args.branch) c.args.self.now.marks (g.M.Model.table c.args.self.now.below) c.next.result c.in_default.ensures.marks c.next.ensures

pub returns-in_err-next : goal.returns-in_err-next
returns-in_err-next g c = c.from_residual.ensures ∙ on_next c.in-Some.halves.marks.now c.args.self.now.marks (g.M.Model.table c.args.self.now.below) c.in-Some.halves.states c.in-Some.ensures.marks c.in-Some.ensures.states c.args.self.now.fits (g.M.Model.facts c.args.self.now.below) c.args.state c.args.choice c.args.branch c.state_below.result c.state_below.ensures None c.in_err-next.ensures

pub next-requires-3 : goal.next-requires-3
next-requires-3 g c = next_low c.in-Some.halves.marks.now c.args.self.now.marks (g.M.Model.table c.args.self.now.below) c.in-Some.halves.states c.in-Some.ensures.marks c.in-Some.ensures.states c.args.self.now.fits (g.M.Model.facts c.args.self.now.below) c.state_below.result c.args.choice c.args.branch c.in_ok-next.next c.in_ok-next.ensures

pub returns : goal.returns
returns g c = on_next_some c.in-Some.halves.marks.now c.args.self.now.marks (g.M.Model.table c.args.self.now.below) c.in-Some.halves.states c.in-Some.ensures.marks c.in-Some.ensures.states c.args.self.now.fits (g.M.Model.facts c.args.self.now.below) c.args.state c.args.choice c.args.branch c.state_below.result c.state_below.ensures c.in_ok-next.next c.next-3.result c.in_ok-next.ensures c.next-3.ensures
