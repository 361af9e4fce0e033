use Rattle.sweep.proofs.Parts.{PartGoing}
use Rattle.sweep.proofs.step.Step.choice_parts.Given as goal

abbrev pub invariant-loop-index : goal.invariant-loop-index
invariant-loop-index g l =
    let d = g.D.Blend in
    let going = PartGoing l.self d.none d.more d.after l.state l.choice l.index in
    going 0 l.first × going 1 l.second × going 2 l.third × going 3 l.fourth
