use Rattle.std.proofs.Common.{refl, arith}
use Rattle.plans.specs.Plans.{earns_by}
use Rattle.plans.specs.Sweep.{ceiling_at}
use Rattle.plans.proofs.Limits.{earns_by_within}
use Rattle.blend.proofs.Fits.{passed_within}
use Rattle.sweep.specs.Limits.{max_worth, max_earned}
use Rattle.sweep.specs.Steps.{plain}
use Rattle.sweep.proofs.Branches.{usual_fair}
use Rattle.sweep.proofs.step.Step.ceiling_after.Goals as goal

pub grains_onto-requires : goal.grains_onto-requires
grains_onto-requires g c =
    let p = c.args.self.now in
    let t = g.M.Model.table p.model.now in
    let b = c.args.branch in
    let asked = p.objectives.asked in
    let worth = ceiling_at p.next.now b.next in
    let reward = earns_by p.objectives.weights.now p.objectives.each.now p.step (plain b) in
    (passed_within worth worth max_worth refl (p.small.ceilings b.next) (omega arith), passed_within c.weighted_reward-reward.result reward max_earned c.weighted_reward-reward.ensures (earns_by_within t p.objectives.each.now p.objectives.weights.now asked.few asked.light p.step (plain b) (usual_fair t b p.whole c.requires (omega arith))) (omega arith))
