use Rattle.truth.proofs.Drafting.{offered_exactly}
use Rattle.truth.proofs.Taken.{taken_exactly, refused_exactly}
use Rattle.truth.proofs.Judging.{judged_exactly, stands}
use Rattle.truth.proofs.Runs.{stays_orderly, stays_orderly_drafted, targets_present}
use Rattle.truth.proofs.Rows.{row_numbered}
use Rattle.truth.proofs.Targets.{plans_kept}
use Rattle.truth.proofs.laws_of_calls.Goals as goal

pub returns-clause-offered_exactly : goal.returns-clause-offered_exactly
returns-clause-offered_exactly c = offered_exactly

pub returns-clause-taken_exactly : goal.returns-clause-taken_exactly
returns-clause-taken_exactly c = taken_exactly

pub returns-clause-refused_exactly : goal.returns-clause-refused_exactly
returns-clause-refused_exactly c = refused_exactly

pub returns-clause-judged_exactly : goal.returns-clause-judged_exactly
returns-clause-judged_exactly c = judged_exactly

pub returns-clause-stands : goal.returns-clause-stands
returns-clause-stands c = stands

pub returns-clause-stays_orderly : goal.returns-clause-stays_orderly
returns-clause-stays_orderly c = stays_orderly

pub returns-clause-stays_orderly_drafted : goal.returns-clause-stays_orderly_drafted
returns-clause-stays_orderly_drafted c = stays_orderly_drafted

pub returns-clause-row_numbered : goal.returns-clause-row_numbered
returns-clause-row_numbered c = row_numbered

pub returns-clause-targets_present : goal.returns-clause-targets_present
returns-clause-targets_present c = targets_present

pub returns-clause-plans_kept : goal.returns-clause-plans_kept
returns-clause-plans_kept c = plans_kept
