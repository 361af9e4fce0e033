use Rattle.std.proofs.Common.{◌≡◌, ◌+◌, ◌*◌, ◌^◌, ◌<◌, ◌≤◌, [], ◌∷◌, ◌++◌, length, get_or, take, min, ◌+ℤ◌, nat_abs, sym, ap, ◌∙◌, subst, arith, rules, w64, SFits, inl, inr}
use Rattle.std.proofs.lemmas.List.{take_all, length_push, get_or_past}
use Rattle.std.proofs.lemmas.Bool.{cases_lt}
use Rattle.std.proofs.lemmas.Int.{ints, to_z-of_z}
use Rattle.std.proofs.lemmas.Slice.Zip.{zip_turn, zip_end}
use Rattle.plans.specs.declared.Objective.{Objective}
use Rattle.plans.specs.Totals.{◌·◌}
use Rattle.plans.specs.Plans.{no_objective, target_sum}
use Rattle.plans.proofs.Amounts.{product_within}
use Rattle.few.specs.Views.{listed}
use Rattle.holdings.specs.Views.{held}
use Rattle.holdings.proofs.Products.{more_fits, more_is, more_near}
use Rattle.holdings.proofs.Held.{target_near, held_within}
use Rattle.holdings.proofs.Rows.{total_more, total_take}
use Rattle.holdings.proofs.objectives.Objectives.target_sum.Goals as goal

-- the place of a turn, and what stands there
turn : (c : goal.After-scaled-sum) → (length c.loop-objective.yielded < length (held c.args.self.now)) × (c.in-Some.objective.now ≡ get_or (held c.args.self.now) (length c.loop-objective.yielded) no_objective)
    × (c.in-Some.weight.now ≡ get_or (listed c.args.weights.now) (length c.loop-objective.yielded) 0)
turn c =
    let os = held c.args.self.now in
    let ws = listed c.args.weights.now in
    let t = zip_turn os ws c.loop-objective.yielded c.into_iter-objective-iterator.result c.loop-objective.objective-iterator c.next.new.self _ (search rules) (search rules) c.loop-objective.yielded_by _ c.in-Some.is c.next.ensures.steps in
    (t.0, t.2 no_objective, t.3 0)

scaled_is : (c : goal.After-scaled-sum) → c.scaled-sum.result ≡ get_or (listed c.args.weights.now) (length c.loop-objective.yielded) 0 · (get_or (held c.args.self.now) (length c.loop-objective.yielded) no_objective).target
scaled_is c =
    let t = turn c in
    let z = c.in-Some.objective.now.target in
    let f : SFits w64 z = search rules in
    c.scaled-sum.ensures.is ∙ ap (λ v. c.in-Some.weight.now · v) (to_z-of_z w64 z f ∙ ap (λ (o : Objective). o.target) t.1) ∙ ap (λ n. n · (get_or (held c.args.self.now) (length c.loop-objective.yielded) no_objective).target) t.2

near : (c : goal.After-scaled-sum) → nat_abs c.scaled-sum.result ≤ 2 ^ 56
near c =
    let s = c.args.self.now in
    let k = length c.loop-objective.yielded in
    let t = turn c in
    let n = target_near s k t.0 in
    let small : c.in-Some.weight.now < 2 ^ 16 = search rules in
    let w : get_or (listed c.args.weights.now) k 0 < 2 ^ 16 = subst (λ v. v < 2 ^ 16) t.2 small in
    subst (λ z. nat_abs z ≤ 2 ^ 56) (sym (scaled_is c)) (omega (arith, product_within (get_or (listed c.args.weights.now) k 0) (get_or (held s) k no_objective).target (2 ^ 16) (2 ^ 40) (omega arith) n))

few : (c : goal.After-scaled-sum) → length c.loop-objective.yielded < 4
few c = let t = (turn c).0 in omega (arith, held_within c.args.self.now)

pub overflow_add-sum : goal.overflow_add-sum
overflow_add-sum c = let l = few c in more_fits _ c.scaled-sum.result (length c.loop-objective.yielded) (2 ^ 56) c.loop-objective.invariant.1 (near c) (omega arith)

pub loop-objective-preserved : goal.loop-objective-preserved
loop-objective-preserved c =
    let k = length c.loop-objective.yielded in
    let ws = listed c.args.weights.now in
    let os = held c.args.self.now in
    let l = few c in
    let one : length (c.loop-objective.yielded ++ ((c.in-Some.objective, c.in-Some.weight) ∷ [])) ≡ k + 1 = length_push c.loop-objective.yielded (c.in-Some.objective, c.in-Some.weight) in
    let e = more_is _ c.scaled-sum.result k (2 ^ 56) c.loop-objective.invariant.1 (near c) (omega arith) in
    let m = total_more (λ j o. get_or ws j 0) (λ j (o : Objective). o.target) os k no_objective (turn c).0 in (
      e ∙ ap (λ z. z +ℤ c.scaled-sum.result) c.loop-objective.invariant.0 ∙ ap (λ z. target_sum ws (take k os) +ℤ z) (scaled_is c) ∙ sym m ∙ ap (λ j. target_sum ws (take j os)) (sym one),
      rw one (subst (λ z. nat_abs z ≤ (k + 1) * 2 ^ 56) (sym e) (more_near _ c.scaled-sum.result k (2 ^ 56) c.loop-objective.invariant.1 (near c) (omega arith))),
    )

-- the turns of the loop
turns : (c : goal.In-None) → length c.loop-objective.yielded ≡ min (length (held c.args.self.now)) (length (listed c.args.weights.now))
turns c = zip_end (held c.args.self.now) (listed c.args.weights.now) c.loop-objective.yielded c.into_iter-objective-iterator.result c.loop-objective.objective-iterator c.next.new.self _ (search rules) (search rules) c.loop-objective.yielded_by c.in-None.is c.next.ensures.steps

pub overflow_cast-result : goal.overflow_cast-result
overflow_cast-result c =
    let b = c.loop-objective.invariant.1 in
    omega (arith, ints, held_within c.args.self.now, turns c)

pub returns : goal.returns
returns c =
    let ws = listed c.args.weights.now in
    let os = held c.args.self.now in
    let k = length c.loop-objective.yielded in
    let n = turns c in
    let rest : target_sum ws (take k os) ≡ target_sum ws os = elim (cases_lt (length ws) (length os)) [
      | inl h ↦ total_take (λ j. get_or ws j 0) (λ j (o : Objective). o.target) os k (λ j m. get_or_past ws j 0 (omega arith))
      | inr h ↦ ap (target_sum ws) (take_all k os (omega arith))
    ] in
    to_z-of_z w64 _ (overflow_cast-result c) ∙ c.loop-objective.invariant.0 ∙ rest
