use Rattle.std.proofs.Common.{◌≡◌, take, sym, ap, ◌∙◌, rules}
use Rattle.std.specs.List.{slice_get}
use Rattle.tables.specs.CounterBox.{counter_box}
use Rattle.tables.proofs.Asked.{reward_among}
use Rattle.tables.proofs.CounterBox.{counter_box_facts, box_columns}
use Rattle.counter_box.proofs.CounterBoxDecisionModel.reward.Goals as goal

pub returns : goal.returns
returns c =
    let m = c.args.self.now in
    let w = c.in_ok-whole.whole in
    let read : c.copied.result ≡ slice_get (take 2 w.rewards) c.args.column = search rules in
    read
    ∙ (ap (λ n. slice_get (take n w.rewards) c.args.column) (sym (box_columns m.limit m.chance))
    ∙ reward_among (counter_box m.limit m.chance) c.args.state c.args.choice c.args.branch c.args.column w (counter_box_facts m.limit m.chance m.ranges.0 m.ranges.1 m.ranges.2 m.ranges.3) c.in_ok-whole.ensures)
