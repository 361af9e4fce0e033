-- The numbers of the causes. Assumes nothing.
use Rattle.std.specs.Prelude.{ℕ}
use Rattle.verdict.specs.declared.faults.DraftCause.{DraftCause}
use Rattle.verdict.specs.declared.faults.DraftCause.TheVariants.{Objective, Full}
use Rattle.verdict.specs.declared.faults.DocketCause.{DocketCause}
use Rattle.verdict.specs.declared.faults.DocketCause.TheVariants.{Weights, Rows, Table, Shares, Targets, Settle}

abbrev pub draft_number : DraftCause → ℕ
draft_number Objective = 8
draft_number Full = 9

abbrev pub docket_number : DocketCause → ℕ
docket_number Weights = 10
docket_number Rows = 11
docket_number Table = 12
docket_number Shares = 13
docket_number Targets = 14
docket_number Settle = 15
