use Rattle.std.proofs.Common.{◌≡◌, true, false, get_or, sum, sym, ap, ◌∙◌, w64, SFits, rules}
use Rattle.plans.specs.Plans.{no_objective}
use Rattle.truth.specs.Dockets.{part_sum, suffice}
use Rattle.holdings.proofs.Enough.{tested, met, met_more, met_all}
use Rattle.holdings.proofs.table.mixtures.Mixture.is_enough.Goals as goal

pub loop-part-preserved : goal.loop-part-preserved
loop-part-preserved g c =
    let os = c.as_slice-objective-items.result.now in
    let ss = g.Self.Mixture.shares c.args.self.now in
    let rs = g.Self.Mixture.table c.args.self.now in
    let i = c.loop-part.part in
    let z = (get_or os i no_objective).target in
    let f : SFits w64 z = search rules in
    let t : met ss rs i (get_or os i no_objective) ≡ true =
    tested c.together-together.result (sum ss) z (part_sum ss rs i) c.part_sum.result c.scaled.result false c.together-together.ensures f (record { sfits = c.part_sum.type_inv }) (record { sfits = c.scaled.type_inv }) c.part_sum.ensures c.scaled.ensures.is c.if-part_sum-scaled.false in
    c.loop-part.invariant ∙ met_more ss rs os i true c.loop-part-test.true t

pub returns-then-part_sum-scaled : goal.returns-then-part_sum-scaled
returns-then-part_sum-scaled g c =
    let os = c.as_slice-objective-items.result.now in
    let ss = g.Self.Mixture.shares c.args.self.now in
    let rs = g.Self.Mixture.table c.args.self.now in
    let i = c.loop-part.part in
    let z = (get_or os i no_objective).target in
    let f : SFits w64 z = search rules in
    let t : met ss rs i (get_or os i no_objective) ≡ false =
    tested c.together-together.result (sum ss) z (part_sum ss rs i) c.part_sum.result c.scaled.result true c.together-together.ensures f (record { sfits = c.part_sum.type_inv }) (record { sfits = c.scaled.type_inv }) c.part_sum.ensures c.scaled.ensures.is c.if-part_sum-scaled.true in
    sym (ap (λ xs. suffice xs rs ss) (sym c.as_slice-objective-items.ensures) ∙ c.loop-part.invariant ∙ met_more ss rs os i false c.loop-part-test.true t)

pub returns : goal.returns
returns g c =
    let os = c.as_slice-objective-items.result.now in
    let ss = g.Self.Mixture.shares c.args.self.now in
    let rs = g.Self.Mixture.table c.args.self.now in
    sym (ap (λ xs. suffice xs rs ss) (sym c.as_slice-objective-items.ensures) ∙ c.loop-part.invariant ∙ met_all ss rs os c.loop-part.part c.loop-part-test.false)
