use Rattle.tables.proofs.Goal.{goal_decided, goal_tested, goal_kept}
use Rattle.tables.proofs.Mirror.{mirror_decided, mirror_tested, mirror_kept}
use Rattle.tables.proofs.laws_of_layers.Goals as goal

pub returns-clause-goal_decided : goal.returns-clause-goal_decided
returns-clause-goal_decided c = goal_decided

pub returns-clause-goal_tested : goal.returns-clause-goal_tested
returns-clause-goal_tested c = goal_tested

pub returns-clause-goal_kept : goal.returns-clause-goal_kept
returns-clause-goal_kept c = goal_kept

pub returns-clause-mirror_decided : goal.returns-clause-mirror_decided
returns-clause-mirror_decided c = mirror_decided

pub returns-clause-mirror_tested : goal.returns-clause-mirror_tested
returns-clause-mirror_tested c = mirror_tested

pub returns-clause-mirror_kept : goal.returns-clause-mirror_kept
returns-clause-mirror_kept c = mirror_kept
