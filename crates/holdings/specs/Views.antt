-- What is held, as lists. Assumes nothing.
use Rattle.std.specs.Prelude.{List, map}
use Rattle.plans.specs.declared.Objective.{Objective}
use Rattle.truth.specs.Dockets.{Priced}
use Rattle.few.specs.Views.{listed}
use Rattle.holdings.specs.declared.objectives.Objectives.{Objectives}
use Rattle.holdings.specs.declared.table.TableRow.{TableRow}
use Rattle.holdings.specs.declared.table.RowTable.{RowTable}

abbrev pub held : Objectives → List Objective
held os = listed os.each

abbrev pub rows_in : RowTable → List TableRow
rows_in t = listed t.rows

abbrev pub row_of : TableRow → Priced
row_of r = record { weights = listed r.weights; point = r.point }

abbrev pub table_of : RowTable → List Priced
table_of t = map row_of (rows_in t)
