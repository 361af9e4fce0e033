use Rattle.std.proofs.Common.{ℕ, length, map, ap, ◌∙◌, rules}
use Rattle.std.specs.List.{find}
use Rattle.truth.specs.Dockets.{suffice}
use Rattle.few.specs.Views.{listed}
use Rattle.holdings.specs.Pairs.{shares_from}
use Rattle.holdings.specs.Views.{held, row_of}
use Rattle.holdings.proofs.Pairs.{found_over, partner_shares_are}
use Rattle.holdings.proofs.table.pairs.find_partner.Goals as goal

pub returns : goal.returns
returns c =
    let n = length c.args.rows.now in
    let p = suffice (held c.args.objectives.now) (map row_of c.args.rows.now) in
    found_over p (λ second. shares_from n c.args.first second 0) (listed {T = ℕ} {n = 16}) c.find_map.result c.find_map.ensures.runs
    (λ a r f' k. search rules) (λ x o k. search rules)
    ∙ ap (find p) (partner_shares_are n c.args.first)
