use Rattle.std.proofs.Common.{◌≡◌, ◌*◌, ◌^◌, ◌≤◌, length, take, nat_abs}
use Rattle.plans.specs.Plans.{target_sum}
use Rattle.few.specs.Views.{listed}
use Rattle.holdings.specs.Views.{held}
use Rattle.holdings.proofs.objectives.Objectives.target_sum.Given as goal

abbrev pub invariant-loop-objective : goal.invariant-loop-objective
invariant-loop-objective l =
    let k = length l.yielded in
    (l.sum ≡ target_sum (listed l.weights) (take k (held l.self))) × (nat_abs l.sum ≤ k * 2 ^ 56)
