use Rattle.std.proofs.Common.{Less, Equal, Greater, sym, ◌∙◌, arith}
use Rattle.tables.proofs.CounterBox.{whole_at}
use Rattle.counter_box.proofs.CounterBoxDecisionModel.branch.Goals as goal

pub returns-then-state-self : goal.returns-then-state-self
returns-then-state-self c =
    c.open_branch.ensures ∙ sym (whole_at c.args.self.now.limit c.args.self.now.chance c.args.state Less c.if-state-self.true c.args.choice c.args.branch)

pub returns-then-state-self-2 : goal.returns-then-state-self-2
returns-then-state-self-2 c =
    c.full_branch.ensures ∙ sym (whole_at c.args.self.now.limit c.args.self.now.chance c.args.state Equal c.if-state-self-2.true c.args.choice c.args.branch)

pub returns-else-state-self-2 : goal.returns-else-state-self-2
returns-else-state-self-2 c = sym (whole_at c.args.self.now.limit c.args.self.now.chance c.args.state Greater (omega arith) c.args.choice c.args.branch)
