use Rattle.sweep.proofs.Gains.{gain_small}
use Rattle.sweep.proofs.objectives.WeightedObjectives.column_gain.Goals as goal

pub counted_weight-requires : goal.counted_weight-requires
counted_weight-requires c =
    let a = c.args in
    let objectives = a.self.now in
    gain_small objectives.weights.now objectives.each.now a.step a.column objectives.asked
