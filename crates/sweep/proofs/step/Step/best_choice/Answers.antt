use Rattle.std.proofs.Common.{ap, ◌∙◌, arith, w64}
use Rattle.std.proofs.lemmas.Int.{to_z-of_z}
use Rattle.plans.specs.Sweep.{best}
use Rattle.sweep.specs.Made.{ceiling_of}
use Rattle.sweep.proofs.Asking.{choices_read}
use Rattle.sweep.proofs.Best.{best_end, turn_taken, turn_left}
use Rattle.sweep.proofs.step.Step.best_choice.Goals as goal
use Rattle.sweep.proofs.step.Step.best_choice.Goals.{then-ceiling-top, else-ceiling-top}

pub loop-choice-preserved : goal.loop-choice-preserved
loop-choice-preserved g c =
    let a = c.args in
    let f = ceiling_of a.self.now g.U.Blend.mean a.state in
    let i = c.loop-choice.invariant in
    let now = c.choice_ceiling-ceiling in
    let new = to_z-of_z w64 now.result (record { sfits = now.type_inv }) ∙ now.ensures in
    elim c.if-ceiling-top.branch [ then-ceiling-top w ↦ let t = turn_taken f c.loop-choice.choice c.loop-choice.best _ _ _ _ i.0 i.1 new w.if-ceiling-top.true w.best-is w.top-is in (t.0, t.1, omega arith) | else-ceiling-top w ↦ let t = turn_left f c.loop-choice.choice c.loop-choice.best _ _ _ _ i.0 i.1 new w.if-ceiling-top.false w.best-is w.top-is in (t.0, t.1, omega arith) ]

pub returns : goal.returns
returns g c =
    let a = c.args in
    let p = a.self.now in
    let f = ceiling_of p g.U.Blend.mean a.state in
    let i = c.loop-choice.invariant in
    let count = choices_read (g.M.Model.table p.model.now) a.state c.choices.result c.unwrap_or-choice-end.result c.choices.ensures c.unwrap_or-choice-end.ensures in
    record { choice = i.0 ∙ best_end f c.unwrap_or-choice-end.result c.loop-choice.choice (omega arith) (omega arith) (omega arith) ∙ ap (best f) count; ceiling = i.1 }
