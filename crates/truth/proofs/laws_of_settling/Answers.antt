use Rattle.truth.proofs.Settling.{settle_fits, settle_verdict, settle_first}
use Rattle.truth.proofs.Narrowing.{settle_closes, settle_halves}
use Rattle.truth.proofs.laws_of_settling.Goals as goal

pub returns-clause-settle_fits : goal.returns-clause-settle_fits
returns-clause-settle_fits c = settle_fits

pub returns-clause-settle_verdict : goal.returns-clause-settle_verdict
returns-clause-settle_verdict c = settle_verdict

pub returns-clause-settle_closes : goal.returns-clause-settle_closes
returns-clause-settle_closes c = settle_closes

pub returns-clause-settle_halves : goal.returns-clause-settle_halves
returns-clause-settle_halves c = settle_halves

pub returns-clause-settle_first : goal.returns-clause-settle_first
returns-clause-settle_first c = settle_first
