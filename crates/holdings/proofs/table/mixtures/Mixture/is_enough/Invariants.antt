use Rattle.std.proofs.Common.{◌≡◌}
use Rattle.truth.specs.Dockets.{suffice}
use Rattle.holdings.proofs.Enough.{met_from}
use Rattle.holdings.proofs.table.mixtures.Mixture.is_enough.Given as goal

abbrev pub invariant-loop-part : goal.invariant-loop-part
invariant-loop-part g l =
    let ss = g.Self.Mixture.shares l.self in
    let rs = g.Self.Mixture.table l.self in
    suffice l.objective-items rs ss ≡ met_from ss rs l.objective-items l.part
