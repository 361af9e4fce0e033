use Rattle.std.proofs.Common.{◌≡◌, ◌+◌, ◌*◌, ◌^◌, ◌<◌, ◌≤◌, [], ◌∷◌, ◌++◌, map, length, get_or, take, min, pos, ◌+ℤ◌, nat_abs, sym, ap, ◌∙◌, subst, arith, rules, w64}
use Rattle.std.proofs.lemmas.List.{take_all, length_push, length-map}
use Rattle.std.proofs.lemmas.Int.{to_z-of_z}
use Rattle.std.proofs.lemmas.Slice.Zip.{zip_turn, zip_end}
use Rattle.plans.specs.Totals.{◌·◌}
use Rattle.truth.specs.Dockets.{Priced, no_priced, part_sum}
use Rattle.holdings.specs.declared.table.TableRow.{TableRow}
use Rattle.holdings.specs.Views.{row_of}
use Rattle.holdings.proofs.Products.{more_fits, more_is, more_near}
use Rattle.holdings.proofs.Rows.{part_of_row, total_more}
use Rattle.holdings.proofs.table.mixtures.MixMixture.part_sum.Goals as goal

few : (c : goal.After-scaled-sum) → length c.loop-row.yielded < 16
few c =
    let m = c.args.self.now in
    let t = zip_turn m.rows.now m.shares.now c.loop-row.yielded c.into_iter-row-iterator.result c.loop-row.row-iterator c.next.new.self _ (search rules) (search rules) c.loop-row.yielded_by _ c.in-Some.is c.next.ensures.steps in
    omega (arith, m.few)

pub overflow_add-sum : goal.overflow_add-sum
overflow_add-sum c = let l = few c in more_fits _ c.scaled-sum.result (length c.loop-row.yielded) (2 ^ 79) c.loop-row.invariant.1 c.scaled-sum.ensures.near (omega arith)

pub loop-row-preserved : goal.loop-row-preserved
loop-row-preserved c =
    let m = c.args.self.now in
    let rs = map row_of m.rows.now in
    let ss = m.shares.now in
    let i = c.args.part in
    let k = length c.loop-row.yielded in
    let t = zip_turn m.rows.now ss c.loop-row.yielded c.into_iter-row-iterator.result c.loop-row.row-iterator c.next.new.self _ (search rules) (search rules) c.loop-row.yielded_by _ c.in-Some.is c.next.ensures.steps in
    let r = c.in-Some.row.now in
    let one : length (c.loop-row.yielded ++ ((c.in-Some.row, c.in-Some.share) ∷ [])) ≡ k + 1 = length_push c.loop-row.yielded (c.in-Some.row, c.in-Some.share) in
    let p : c.part.result ≡ get_or (get_or rs k no_priced).point i (pos 0) =
    c.part.ensures ∙ ap (λ (q : TableRow). get_or q.point i (pos 0)) (t.2 r) ∙ sym (part_of_row m.rows.now k i r t.0) in
    let x : c.scaled-sum.result ≡ get_or ss k 0 · get_or (get_or rs k no_priced).point i (pos 0) =
    c.scaled-sum.ensures.is ∙ ap (λ z. c.in-Some.share.now · z) (to_z-of_z w64 c.part.result (record { sfits = c.part.type_inv }) ∙ p) ∙ ap (λ n. n · get_or (get_or rs k no_priced).point i (pos 0)) (t.3 0) in
    let l = few c in
    let n = total_more (λ j v. get_or ss j 0) (λ j (v : Priced). get_or v.point i (pos 0)) rs k no_priced (omega (arith, length-map m.rows.now row_of, t.0)) in
    let e = more_is _ c.scaled-sum.result k (2 ^ 79) c.loop-row.invariant.1 c.scaled-sum.ensures.near (omega arith) in (
      e ∙ ap (λ z. z +ℤ c.scaled-sum.result) c.loop-row.invariant.0 ∙ ap (λ z. part_sum ss (take k rs) i +ℤ z) x ∙ sym n ∙ ap (λ j. part_sum ss (take j rs) i) (sym one),
      rw one (subst (λ z. nat_abs z ≤ (k + 1) * 2 ^ 79) (sym e) (more_near _ c.scaled-sum.result k (2 ^ 79) c.loop-row.invariant.1 c.scaled-sum.ensures.near (omega arith))),
    )

pub returns : goal.returns
returns c =
    let m = c.args.self.now in
    let k = length c.loop-row.yielded in
    let e : k ≡ min (length m.rows.now) (length m.shares.now) = zip_end m.rows.now m.shares.now c.loop-row.yielded c.into_iter-row-iterator.result c.loop-row.row-iterator c.next.new.self _ (search rules) (search rules) c.loop-row.yielded_by c.in-None.is c.next.ensures.steps in
    c.loop-row.invariant.0 ∙ ap (λ rs. part_sum m.shares.now rs c.args.part) (take_all k (map row_of m.rows.now) (omega (arith, length-map m.rows.now row_of, m.each)))
