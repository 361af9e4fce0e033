use Rattle.std.proofs.Common.{get_or, sym, ap, ◌∙◌, subst, arith, w64, to_z, of_z}
use Rattle.std.proofs.lemmas.Int.{to_z-of_z}
use Rattle.mdp.specs.declared.WholeBranch.{WholeBranch}
use Rattle.plans.specs.Blends.{running}
use Rattle.plans.specs.Plans.{no_branch}
use Rattle.plans.specs.Sweep.{weighed}
use Rattle.blend.specs.Running.{max_amount}
use Rattle.blend.proofs.Fits.{passed_within}
use Rattle.sweep.specs.Made.{choice_of, ceiling_after}
use Rattle.sweep.proofs.Running.{Going, going_start, going_add, going_more, going_finish, going_end}
use Rattle.sweep.proofs.Worths.{light_at, ceiling_read, ceiling_small}
use Rattle.sweep.proofs.step.Step.choice_ceiling.Goals as goal

pub loop-index-init : goal.loop-index-init
loop-index-init g c =
    let a = c.args in
    let u = g.U.Blend in
    let bs = choice_of a.self.now a.state a.choice in
    let worth = ceiling_after a.self.now in
    subst (λ (r : g.row.U-Running.Denot). Going u.more u.after worth (running u.more u.none (weighed worth bs)) r bs) (sym c.start-running.ensures) (going_start u.more u.after worth u.none u.starts bs (light_at a.self.now a.state a.choice))

pub add-running-requires : goal.add-running-requires
add-running-requires g c =
    let a = c.args in
    let p = a.self.now in
    let u = g.U.Blend in
    let j = c.loop-index.index in
    let r = c.branch_at-branch.result in
    let z = c.ceiling_after-amount.result in
    let bs = choice_of p a.state a.choice in
    let worth = ceiling_after p in
    let small = passed_within z (worth (get_or bs j no_branch)) max_amount (c.ceiling_after-amount.ensures ∙ ceiling_read p a.state a.choice j r c.branch_at-branch.ensures.read) (ceiling_small p a.state a.choice j) (omega arith) in
    going_add u.more u.after worth (running u.more u.none (weighed worth bs)) c.loop-index.running bs j c.loop-index.invariant (omega (arith, c.loop-index-test.true, c.branch_count-index-end.ensures)) r.weight (to_z w64 (of_z w64 z)) (ap (λ (b : WholeBranch). b.weight) c.branch_at-branch.ensures.read) small

pub loop-index-preserved : goal.loop-index-preserved
loop-index-preserved g c =
    let a = c.args in
    let p = a.self.now in
    let u = g.U.Blend in
    let j = c.loop-index.index in
    let r = c.branch_at-branch.result in
    let z = c.ceiling_after-amount.result in
    let bs = choice_of p a.state a.choice in
    let worth = ceiling_after p in
    let read = to_z-of_z w64 z (record { sfits = c.ceiling_after-amount.type_inv }) ∙ c.ceiling_after-amount.ensures ∙ ceiling_read p a.state a.choice j r c.branch_at-branch.ensures.read in
    going_more u.more u.after worth (running u.more u.none (weighed worth bs)) c.loop-index.running bs j c.loop-index.invariant (omega (arith, c.loop-index-test.true, c.branch_count-index-end.ensures)) u.adds (ceiling_small p a.state a.choice j) c.add-running.result r.weight (to_z w64 (of_z w64 z)) c.add-running.ensures (ap (λ (b : WholeBranch). b.weight) c.branch_at-branch.ensures.read) read

pub finish-requires : goal.finish-requires
finish-requires g c =
    let a = c.args in
    let p = a.self.now in
    let u = g.U.Blend in
    let bs = choice_of p a.state a.choice in
    let worth = ceiling_after p in
    going_finish u.more u.after worth (running u.more u.none (weighed worth bs)) c.loop-index.running bs c.loop-index.index c.loop-index.invariant p.divisor (omega (arith, p.divided, (g.M.Model.facts p.model.now).divisor_low))

pub returns : goal.returns
returns g c =
    let a = c.args in
    let p = a.self.now in
    let u = g.U.Blend in
    let bs = choice_of p a.state a.choice in
    let worth = ceiling_after p in
    let end = going_end u.more u.after worth (running u.more u.none (weighed worth bs)) c.loop-index.running bs c.loop-index.index c.loop-index.invariant (omega (arith, c.loop-index-test.false, c.branch_count-index-end.ensures)) in
    to_z-of_z w64 c.finish.result (record { sfits = c.finish.type_inv }) ∙ c.finish.ensures ∙ ap (λ r. u.outcome r p.divisor) end ∙ u.means (weighed worth bs) p.divisor ∙ ap (u.mean (weighed worth bs)) p.divided
