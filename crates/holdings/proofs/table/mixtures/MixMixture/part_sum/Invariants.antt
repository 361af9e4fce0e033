use Rattle.std.proofs.Common.{◌≡◌, ◌*◌, ◌^◌, ◌≤◌, map, length, take, nat_abs}
use Rattle.truth.specs.Dockets.{part_sum}
use Rattle.holdings.specs.Views.{row_of}
use Rattle.holdings.proofs.table.mixtures.MixMixture.part_sum.Given as goal

abbrev pub invariant-loop-row : goal.invariant-loop-row
invariant-loop-row l =
    let k = length l.yielded in
    (l.sum ≡ part_sum l.self.shares.now (take k (map row_of l.self.rows.now)) l.part) × (nat_abs l.sum ≤ k * 2 ^ 79)
