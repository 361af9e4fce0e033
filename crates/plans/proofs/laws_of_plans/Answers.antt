use Rattle.plans.proofs.Near.{ceiling_bounds, ceiling_near, part_reached, part_near, horizon_covers}
use Rattle.plans.proofs.Reach.{out_of_reach, miss_refutes, within_reach, clear_achieves, mixture_valid}
use Rattle.plans.proofs.laws_of_plans.Goals as goal

pub returns-clause-ceiling_bounds : goal.returns-clause-ceiling_bounds
returns-clause-ceiling_bounds c = ceiling_bounds

pub returns-clause-ceiling_near : goal.returns-clause-ceiling_near
returns-clause-ceiling_near c = ceiling_near

pub returns-clause-part_reached : goal.returns-clause-part_reached
returns-clause-part_reached c = part_reached

pub returns-clause-part_near : goal.returns-clause-part_near
returns-clause-part_near c = part_near

pub returns-clause-horizon_covers : goal.returns-clause-horizon_covers
returns-clause-horizon_covers c = horizon_covers

pub returns-clause-out_of_reach : goal.returns-clause-out_of_reach
returns-clause-out_of_reach c = out_of_reach

pub returns-clause-miss_refutes : goal.returns-clause-miss_refutes
returns-clause-miss_refutes c = miss_refutes

pub returns-clause-within_reach : goal.returns-clause-within_reach
returns-clause-within_reach c = within_reach

pub returns-clause-clear_achieves : goal.returns-clause-clear_achieves
returns-clause-clear_achieves c = clear_achieves

pub returns-clause-mixture_valid : goal.returns-clause-mixture_valid
returns-clause-mixture_valid c = mixture_valid
