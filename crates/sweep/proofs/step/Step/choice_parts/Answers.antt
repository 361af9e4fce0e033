use Rattle.std.proofs.Common.{◌∙◌, w64}
use Rattle.std.proofs.lemmas.Int.{to_z-of_z}
use Rattle.sweep.proofs.Parts.{part_start, part_add, part_more, part_end}
use Rattle.sweep.proofs.step.Step.choice_parts.Goals as goal

pub loop-index-init : goal.loop-index-init
loop-index-init g c =
    let a = c.args in
    let d = g.D.Blend in
    let start = part_start a.self.now d.none d.more d.after a.state a.choice d.starts in
    (start 0 _ c.start-first.ensures, start 1 _ c.start-second.ensures, start 2 _ c.start-third.ensures, start 3 _ c.start-fourth.ensures)

pub plus_part-first-requires-clause-room : goal.plus_part-first-requires-clause-room
plus_part-first-requires-clause-room g c =
    let a = c.args in
    let d = g.D.Blend in
    let l = c.loop-index in
    part_add a.self.now d.none d.more d.after a.state a.choice l.index _ c.branch_count-index-end.ensures c.loop-index-test.true _ c.branch_at-branch.ensures.read 0 l.first l.invariant.0

pub plus_part-second-requires-clause-room : goal.plus_part-second-requires-clause-room
plus_part-second-requires-clause-room g c =
    let a = c.args in
    let d = g.D.Blend in
    let l = c.loop-index in
    part_add a.self.now d.none d.more d.after a.state a.choice l.index _ c.branch_count-index-end.ensures c.loop-index-test.true _ c.branch_at-branch.ensures.read 1 l.second l.invariant.1

pub plus_part-third-requires-clause-room : goal.plus_part-third-requires-clause-room
plus_part-third-requires-clause-room g c =
    let a = c.args in
    let d = g.D.Blend in
    let l = c.loop-index in
    part_add a.self.now d.none d.more d.after a.state a.choice l.index _ c.branch_count-index-end.ensures c.loop-index-test.true _ c.branch_at-branch.ensures.read 2 l.third l.invariant.2

pub plus_part-fourth-requires-clause-room : goal.plus_part-fourth-requires-clause-room
plus_part-fourth-requires-clause-room g c =
    let a = c.args in
    let d = g.D.Blend in
    let l = c.loop-index in
    part_add a.self.now d.none d.more d.after a.state a.choice l.index _ c.branch_count-index-end.ensures c.loop-index-test.true _ c.branch_at-branch.ensures.read 3 l.fourth l.invariant.3

pub loop-index-preserved : goal.loop-index-preserved
loop-index-preserved g c =
    let a = c.args in
    let d = g.D.Blend in
    let l = c.loop-index in
    let more = part_more a.self.now d.none d.more d.after a.state a.choice l.index _ c.branch_count-index-end.ensures c.loop-index-test.true _ c.branch_at-branch.ensures.read in
    (more 0 l.first l.invariant.0 d.adds _ c.plus_part-first.ensures, more 1 l.second l.invariant.1 d.adds _ c.plus_part-second.ensures, more 2 l.third l.invariant.2 d.adds _ c.plus_part-third.ensures, more 3 l.fourth l.invariant.3 d.adds _ c.plus_part-fourth.ensures)

pub returns : goal.returns
returns g c =
    let a = c.args in
    let d = g.D.Blend in
    let l = c.loop-index in
    let end = part_end a.self.now d.none d.more d.after a.state a.choice l.index _ c.branch_count-index-end.ensures c.loop-index-test.false d.outcome d.mean d.means in
    let e₀ = end 0 l.first l.invariant.0 _ (to_z-of_z w64 c.part_from.result (record { sfits = c.part_from.type_inv }) ∙ c.part_from.ensures) in
    let e₁ = end 1 l.second l.invariant.1 _ (to_z-of_z w64 c.part_from-2.result (record { sfits = c.part_from-2.type_inv }) ∙ c.part_from-2.ensures) in
    let e₂ = end 2 l.third l.invariant.2 _ (to_z-of_z w64 c.part_from-3.result (record { sfits = c.part_from-3.type_inv }) ∙ c.part_from-3.ensures) in
    let e₃ = end 3 l.fourth l.invariant.3 _ (to_z-of_z w64 c.part_from-4.result (record { sfits = c.part_from-4.type_inv }) ∙ c.part_from-4.ensures) in
    cc
