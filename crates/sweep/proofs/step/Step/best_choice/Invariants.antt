use Rattle.std.proofs.Common.{◌≡◌, ◌≤◌, max}
use Rattle.plans.specs.Sweep.{best}
use Rattle.sweep.specs.Made.{ceiling_of}
use Rattle.sweep.proofs.step.Step.best_choice.Given as goal

abbrev pub invariant-loop-choice : goal.invariant-loop-choice
invariant-loop-choice g l =
    let f = ceiling_of l.self g.U.Blend.mean l.state in
    (l.best ≡ best f l.choice) × (l.top ≡ f l.best) × (l.choice ≤ max 1 l.choice-end)
