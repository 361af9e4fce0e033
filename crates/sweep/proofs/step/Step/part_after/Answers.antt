use Rattle.std.proofs.Common.{get_or, refl, arith}
use Rattle.plans.specs.Plans.{no_objective, earns}
use Rattle.plans.specs.Sweep.{part_at}
use Rattle.plans.proofs.Limits.{earns_within}
use Rattle.blend.proofs.Fits.{passed_within}
use Rattle.sweep.specs.Limits.{max_worth, max_earned}
use Rattle.sweep.specs.Steps.{plain}
use Rattle.sweep.proofs.Branches.{usual_fair}
use Rattle.sweep.proofs.step.Step.part_after.Goals as goal

pub grains_onto-requires : goal.grains_onto-requires
grains_onto-requires g c =
    let p = c.args.self.now in
    let t = g.M.Model.table p.model.now in
    let b = c.args.branch in
    let i = c.args.part in
    let o = get_or p.objectives.each.now i no_objective in
    let worth = part_at p.next.now i b.next in
    (passed_within worth worth max_worth refl (p.small.parts i b.next) (omega arith), passed_within c.reward_of-reward.result (earns o p.step (plain b)) max_earned c.reward_of-reward.ensures (omega (arith, earns_within t o p.step (plain b) (usual_fair t b p.whole c.requires (omega arith)))) (omega arith))
