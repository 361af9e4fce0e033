use Rattle.std.proofs.Common.{◌≡◌, ◌<◌, [], ◌∷◌, ◌++◌, length, get_or, take, pos, sym, ap, ◌∙◌, arith, rules, min}
use Rattle.std.proofs.lemmas.List.{take_all, length_push}
use Rattle.std.proofs.lemmas.Bool.Decides.{nat_tests}
use Rattle.std.proofs.lemmas.Slice.Zip.{zip_turn, zip_end}
use Rattle.plans.specs.declared.Objective.{Objective}
use Rattle.plans.specs.Plans.{no_objective}
use Rattle.truth.specs.Dockets.{each_by, aimed}
use Rattle.few.specs.Views.{listed}
use Rattle.holdings.proofs.Held.{each_by_more, length_aimed}
use Rattle.holdings.proofs.objectives.held.aim.Goals as goal

pub unwrap-requires : goal.unwrap-requires
unwrap-requires c =
    let os = c.args.objectives.now in
    let ts = c.args.targets.now in
    let ys = c.loop-objective.yielded in
    let t = zip_turn os ts ys c.into_iter-objective-iterator.result c.loop-objective.objective-iterator c.next.new.self _ (search rules) (search rules) c.loop-objective.yielded_by _ c.in-Some.is c.next.ensures.steps in
    let n = length_aimed ts os (length ys) (omega arith) in
    let e = c.loop-objective.invariant in
    let l : length (listed c.loop-objective.each) < 4 = omega (arith, ap length e) in
    grind (arith, nat_tests)

pub loop-objective-preserved : goal.loop-objective-preserved
loop-objective-preserved c =
    let os = c.args.objectives.now in
    let ts = c.args.targets.now in
    let ys = c.loop-objective.yielded in
    let k = length ys in
    let t = zip_turn os ts ys c.into_iter-objective-iterator.result c.loop-objective.objective-iterator c.next.new.self _ (search rules) (search rules) c.loop-objective.yielded_by _ c.in-Some.is c.next.ensures.steps in
    let n = length_aimed ts os (length ys) (omega arith) in
    let e = c.loop-objective.invariant in
    let l : length (listed c.loop-objective.each) < 4 = omega (arith, ap length e) in
    let o : Objective = record { column = c.in-Some.objective.now.column; bound = c.in-Some.objective.now.bound; target = c.in-Some.target.now } in
    let pushed : listed c.push.new.self ≡ listed c.loop-objective.each ++ (o ∷ []) = grind (arith, nat_tests) in
    let item : o ≡ aimed ts k (get_or os k no_objective) = (λ i. record { column = (t.2 no_objective i).column; bound = (t.2 no_objective i).bound; target = t.3 (pos 0) i }) in
    pushed ∙ (λ i. c.loop-objective.invariant i ++ (item i ∷ [])) ∙ sym (each_by_more (aimed ts) os k no_objective t.0)
    ∙ ap (λ j. each_by (aimed ts) (take j os)) (sym (length_push ys (c.in-Some.objective, c.in-Some.target)))

pub returns : goal.returns
returns c =
    let os = c.args.objectives.now in
    let ts = c.args.targets.now in
    let ys = c.loop-objective.yielded in
    let e : length ys ≡ min (length os) (length ts) = zip_end os ts ys c.into_iter-objective-iterator.result c.loop-objective.objective-iterator c.next.new.self _ (search rules) (search rules) c.loop-objective.yielded_by c.in-None.is c.next.ensures.steps in
    c.loop-objective.invariant ∙ ap (each_by (aimed ts)) (take_all (length ys) os (omega arith))
