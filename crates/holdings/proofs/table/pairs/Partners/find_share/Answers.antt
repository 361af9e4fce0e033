use Rattle.std.proofs.Common.{ℕ, length, map, [], ◌∷◌, ap, ◌∙◌, rules}
use Rattle.std.specs.List.{find}
use Rattle.truth.specs.Dockets.{suffice, paired}
use Rattle.few.specs.Views.{listed}
use Rattle.holdings.specs.Views.{held, row_of}
use Rattle.holdings.proofs.Pairs.{found_through, shares_from_are}
use Rattle.holdings.proofs.table.pairs.Partners.find_share.Goals as goal

pub returns : goal.returns
returns c =
    let two = c.args.self.now in
    let n = length two.rows.now in
    let p = suffice (held c.args.objectives.now) (map row_of two.rows.now) in
    found_through p (λ share. paired n two.first two.second share ∷ []) (listed {T = ℕ} {n = 16}) c.new.ensures.start c.new.ensures.end c.new.ensures.exhausted c.find_map.result c.find_map.ensures.runs
    (λ a r f' k. search rules) (λ x o k. search rules)
    ∙ ap (find p) (shares_from_are n two.first two.second)
