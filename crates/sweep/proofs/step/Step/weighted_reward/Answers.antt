use Rattle.std.proofs.Common.{ℕ, List, ap, ◌∙◌, arith, w64}
use Rattle.std.proofs.lemmas.Int.{to_z-of_z}
use Rattle.sweep.specs.Steps.{earned, plain}
use Rattle.sweep.proofs.Gains.{earned_is}
use Rattle.sweep.proofs.step.Step.weighted_reward.Goals as goal

pub returns : goal.returns
returns g c =
    let p = c.args.self.now in
    let b = plain c.args.branch in
    to_z-of_z w64 c.earned_by.result (record { sfits = c.earned_by.type_inv }) ∙ c.earned_by.ensures ∙ ap (λ (gains : List ℕ). earned gains b.rewards) p.gained ∙ earned_is p.step b (omega arith) p.objectives.weights.now p.objectives.each.now
