use Rattle.std.proofs.Common.{◌≡◌, ℕ, max, List, [], ◌∷◌, unwrap_or, ap, ◌∙◌, rules, tests, arith}
use Rattle.std.specs.List.{fold}
use Rattle.std.proofs.lemmas.Iterator.{YieldsList-from_slice, YieldsList-from_map}
use Rattle.std.proofs.lemmas.Iterator.Consumers.{reduce_from_yields_List}
use Rattle.std.proofs.lemmas.List.Folds.{max_of_map}
use Rattle.plans.specs.declared.Objective.{Objective}
use Rattle.plans.specs.Plans.{horizon}
use Rattle.sweep.proofs.objectives.WeightedObjectives.horizon.Goals as goal

horizon_from : (n : ℕ) (os : List Objective) → fold (λ a o. max a o.bound) n os ≡ max n (horizon os)
horizon_from n [] = omega arith
horizon_from n (o ∷ os) = horizon_from (max n o.bound) os ∙ omega arith

pub returns : goal.returns
returns c =
    let os = c.args.self.now.each.now in
    c.unwrap_or.ensures ∙ ap (λ o. unwrap_or o 0) (reduce_from_yields_List _ c.map.result _ c.max.ensures.ran (YieldsList-from_map _ (λ (o : Objective). o.bound) (YieldsList-from_slice os cc) c.map.ensures.closure (λ x b q k. search (rules, tests)))) ∙ max_of_map (λ (o : Objective). o.bound) os ∙ horizon_from 0 os ∙ omega arith
