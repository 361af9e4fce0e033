use Rattle.std.proofs.Common.{◌≡◌, length, take}
use Rattle.truth.specs.Dockets.{each_by, aimed}
use Rattle.few.specs.Views.{listed}
use Rattle.holdings.proofs.objectives.held.aim.Given as goal

abbrev pub invariant-loop-objective : goal.invariant-loop-objective
invariant-loop-objective l = listed l.each ≡ each_by (aimed l.targets) (take (length l.yielded) l.objectives)
