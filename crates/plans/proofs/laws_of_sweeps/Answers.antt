use Rattle.plans.proofs.Values.{ceiling_bounds_value, ceiling_is_value, part_is_value, parts_past, plan_valid}
use Rattle.plans.proofs.Bests.{best_first}
use Rattle.plans.proofs.Sizes.{rows_small}
use Rattle.plans.proofs.laws_of_sweeps.Goals as goal

pub returns-clause-ceiling_bounds_value : goal.returns-clause-ceiling_bounds_value
returns-clause-ceiling_bounds_value c = ceiling_bounds_value

pub returns-clause-ceiling_is_value : goal.returns-clause-ceiling_is_value
returns-clause-ceiling_is_value c = ceiling_is_value

pub returns-clause-part_is_value : goal.returns-clause-part_is_value
returns-clause-part_is_value c = part_is_value

pub returns-clause-parts_past : goal.returns-clause-parts_past
returns-clause-parts_past c = parts_past

pub returns-clause-plan_valid : goal.returns-clause-plan_valid
returns-clause-plan_valid c = plan_valid

pub returns-clause-best_first : goal.returns-clause-best_first
returns-clause-best_first c = best_first

pub returns-clause-rows_small : goal.returns-clause-rows_small
returns-clause-rows_small c = rows_small
