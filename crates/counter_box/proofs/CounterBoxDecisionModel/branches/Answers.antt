use Rattle.std.proofs.Common.{Less, Equal, Greater, length, sym, ap, ◌∙◌, arith}
use Rattle.std.specs.Option.{option_map}
use Rattle.std.specs.List.{slice_get}
use Rattle.std.proofs.lemmas.Option.{slice_get_past}
use Rattle.tables.specs.CounterBox.{open_state, full_state}
use Rattle.tables.proofs.CounterBox.{branches_ranked}
use Rattle.counter_box.proofs.CounterBoxDecisionModel.branches.Goals as goal

pub returns-in-Less-eq0 : goal.returns-in-Less-eq0
returns-in-Less-eq0 c =
    sym (branches_ranked c.args.self.now.limit c.args.self.now.chance c.args.state Less c.in-Less-eq0.ensures c.args.choice ∙ ap (λ k. option_map length (slice_get (open_state c.args.self.now.chance c.args.state) k)) c.in-Less-eq0.is-1)

pub returns-in-Less-eq1 : goal.returns-in-Less-eq1
returns-in-Less-eq1 c =
    sym (branches_ranked c.args.self.now.limit c.args.self.now.chance c.args.state Less c.in-Less-eq1.ensures c.args.choice ∙ ap (λ k. option_map length (slice_get (open_state c.args.self.now.chance c.args.state) k)) c.in-Less-eq1.is-1)

pub returns-in-Less-eq1-2 : goal.returns-in-Less-eq1-2
returns-in-Less-eq1-2 c =
    sym (branches_ranked c.args.self.now.limit c.args.self.now.chance c.args.state Equal c.in-Less-eq1.ensures c.args.choice ∙ ap (λ k. option_map length (slice_get full_state k)) c.in-Less-eq1.is-1)

pub returns-in_default : goal.returns-in_default
returns-in_default c =
    sym (branches_ranked c.args.self.now.limit c.args.self.now.chance c.args.state Less c.in_default.ensures c.args.choice ∙ ap (option_map length) (slice_get_past (open_state c.args.self.now.chance c.args.state) c.args.choice (omega arith)))

pub returns-in_default-2 : goal.returns-in_default-2
returns-in_default-2 c =
    sym (branches_ranked c.args.self.now.limit c.args.self.now.chance c.args.state Equal c.in_default.ensures c.args.choice ∙ ap (option_map length) (slice_get_past full_state c.args.choice (omega arith)))

pub returns-in_default-3 : goal.returns-in_default-3
returns-in_default-3 c = sym (branches_ranked c.args.self.now.limit c.args.self.now.chance c.args.state Greater c.in_default.ensures c.args.choice)
