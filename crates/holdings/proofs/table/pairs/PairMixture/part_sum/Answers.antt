use Rattle.std.proofs.Common.{◌≡◌, ◌-◌, ◌<◌, length, map, get_or, pos, ◌+ℤ◌, sym, ap, ◌∙◌, arith, w64}
use Rattle.std.proofs.lemmas.List.{length-map}
use Rattle.std.proofs.lemmas.Int.{to_z-of_z}
use Rattle.plans.specs.Totals.{◌·◌}
use Rattle.truth.specs.Dockets.{no_priced}
use Rattle.holdings.specs.Views.{row_of}
use Rattle.holdings.proofs.Products.{both_is}
use Rattle.holdings.proofs.Rows.{part_of_row}
use Rattle.holdings.proofs.Pairs.{part_sum_paired}
use Rattle.holdings.proofs.table.pairs.PairMixture.part_sum.Goals as goal

pub returns : goal.returns
returns c =
    let p = c.args.self.now in
    let rs = p.rows.now in
    let i = c.args.part in
    let x = get_or (get_or (map row_of rs) p.first no_priced).point i (pos 0) in
    let y = get_or (get_or (map row_of rs) p.second no_priced).point i (pos 0) in
    let h : p.first < length rs = omega (arith, p.rising, p.inside) in
    let ex : c.part.result ≡ x = c.part.ensures ∙ sym (part_of_row rs p.first i c.index-self-self.result h) in
    let ey : c.part-2.result ≡ y = c.part-2.ensures ∙ sym (part_of_row rs p.second i c.index-self-self-2.result p.inside) in
    let sx : c.scaled.result ≡ p.share · x = c.scaled.ensures.is ∙ ap (λ z. p.share · z) (to_z-of_z w64 c.part.result (record { sfits = c.part.type_inv }) ∙ ex) in
    let sy : c.scaled-2.result ≡ (1000 - p.share) · y = c.scaled-2.ensures.is ∙ ap (λ z. (1000 - p.share) · z) (to_z-of_z w64 c.part-2.result (record { sfits = c.part-2.type_inv }) ∙ ey) in
    both_is c.scaled.result c.scaled-2.result c.scaled.ensures.near c.scaled-2.ensures.near
    ∙ ap (λ z. z +ℤ c.scaled-2.result) sx ∙ ap (λ z. p.share · x +ℤ z) sy
    ∙ sym (part_sum_paired (length rs) p.first p.second p.share p.rising p.inside (map row_of rs) i (length-map rs row_of))
