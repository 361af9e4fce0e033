-- A docket as the theorems have it. Assumes nothing.
use Rattle.truth.specs.Dockets as dockets
use Rattle.verdict.specs.Verdicts.{verdict_of}
use Rattle.holdings.specs.Views.{held, table_of}
use Rattle.docket.specs.declared.docket.Docket.{Docket}

abbrev pub view : {M : Type 0} → Docket M → dockets.Docket
view d = record { objectives = held d.objectives; table = table_of d.table; verdict = verdict_of d.verdict }
