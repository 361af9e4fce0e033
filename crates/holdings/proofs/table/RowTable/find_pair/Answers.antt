use Rattle.std.proofs.Common.{ℕ, length, map, ap, ◌∙◌, rules}
use Rattle.std.specs.List.{find}
use Rattle.std.proofs.lemmas.List.{length-map}
use Rattle.truth.specs.Dockets.{suffice, pairings}
use Rattle.few.specs.Views.{listed}
use Rattle.holdings.specs.Pairs.{partner_shares}
use Rattle.holdings.specs.Views.{held, row_of}
use Rattle.holdings.proofs.Pairs.{found_over, pairings_are}
use Rattle.holdings.proofs.table.RowTable.find_pair.Goals as goal

pub returns : goal.returns
returns c =
    let rs = c.as_slice-rows.result.now in
    let p = suffice (held c.args.objectives.now) (map row_of rs) in
    found_over p (partner_shares (length rs)) (listed {T = ℕ} {n = 16}) c.find_map.result c.find_map.ensures.runs (λ a r f' k. search rules) (λ x o k. search rules)
    ∙ ap (find p) (pairings_are (length rs) (length (map row_of rs)) (length-map rs row_of))
    ∙ ap (λ xs. find (suffice (held c.args.objectives.now) (map row_of xs)) (pairings (length (map row_of xs)))) c.as_slice-rows.ensures
