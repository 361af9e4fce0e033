use Rattle.std.proofs.Common.{Less, Equal, Greater, sym}
use Rattle.tables.proofs.CounterBox.{choices_ranked}
use Rattle.counter_box.proofs.CounterBoxDecisionModel.choices.Goals as goal

pub returns-in-Less : goal.returns-in-Less
returns-in-Less c = sym (choices_ranked c.args.self.now.limit c.args.self.now.chance c.args.state Less c.in-Less.ensures)

pub returns-in-Equal : goal.returns-in-Equal
returns-in-Equal c = sym (choices_ranked c.args.self.now.limit c.args.self.now.chance c.args.state Equal c.in-Equal.ensures)

pub returns-in-Greater : goal.returns-in-Greater
returns-in-Greater c = sym (choices_ranked c.args.self.now.limit c.args.self.now.chance c.args.state Greater c.in-Greater.ensures)
