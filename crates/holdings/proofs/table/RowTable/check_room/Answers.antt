use Rattle.std.proofs.Common.{◌∙◌, arith}
use Rattle.std.proofs.lemmas.Bool.Decides.{nat_tests}
use Rattle.truth.specs.Dockets.{same}
use Rattle.few.specs.Views.{listed}
use Rattle.holdings.specs.Views.{row_of, rows_in}
use Rattle.holdings.proofs.Rows.{number_in, position_none, length_table_of, table_within}
use Rattle.holdings.proofs.table.RowTable.check_room.Goals as goal

pub returns-in-Some : goal.returns-in-Some
returns-in-Some c =
    let t = c.args.self.now in
    let n = number_in (listed c.args.weights.now) (rows_in t) in
    let l = length_table_of t in
    let w = table_within t in
    grind (arith, nat_tests)

pub returns-in-None : goal.returns-in-None
returns-in-None c =
    let t = c.args.self.now in
    let ws = listed c.args.weights.now in
    let n = number_in ws (rows_in t) ∙ position_none (λ r. same (row_of r).weights ws) (rows_in t) c.in-None.ensures in
    let l = length_table_of t in
    let k = c.len-in-None.ensures in
    let f = c.if-len-lt-MAX_ROWS.true in
    grind (arith, nat_tests)
