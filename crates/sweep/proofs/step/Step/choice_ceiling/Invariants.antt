use Rattle.std.proofs.Common.{drop}
use Rattle.plans.specs.Blends.{running}
use Rattle.plans.specs.Sweep.{weighed}
use Rattle.sweep.specs.Made.{choice_of, ceiling_after}
use Rattle.sweep.proofs.Running.{Going}
use Rattle.sweep.proofs.step.Step.choice_ceiling.Given as goal

abbrev pub invariant-loop-index : goal.invariant-loop-index
invariant-loop-index g l =
    let u = g.U.Blend in
    let bs = choice_of l.self l.state l.choice in
    Going u.more u.after (ceiling_after l.self) (running u.more u.none (weighed (ceiling_after l.self) bs)) l.running (drop l.index bs)
