-- What a pricing answers, and the working rows after it. Assumes nothing.
use Rattle.std.specs.Prelude.{ℕ, ◌-◌, ◌*◌, List, [], ◌∷◌, ◌++◌, length, drop, Option, nat_lt}
use Rattle.mdp.specs.Table.{Table}
use Rattle.plans.specs.declared.Objective.{Objective}
use Rattle.plans.specs.declared.Row.{Row}
use Rattle.plans.specs.Plans.{horizon, target_sum}
use Rattle.plans.specs.Claims.{mean_rows}
use Rattle.truth.specs.Dockets.{Docket, ceiling, point, number}
use Rattle.truth.specs.Calls.{Fault, cause, first_of}
use Rattle.docket.specs.declared.docket.pricing.Price.{Price}

-- those of step 0, those of step 1, and what was beyond
abbrev pub priced_rows : Table → List Objective → List ℕ → List Row → List Row
priced_rows t os ws old = mean_rows t os ws (horizon os) ++ (mean_rows t os ws (horizon os - 1) ++ drop (2 * length t.states) old)

-- too few working rows
abbrev pub lent_refusal : Table → ℕ → Option Fault
lent_refusal t lent = first_of (cause (nat_lt lent (2 * length t.states)) 11 lent ∷ [])

abbrev pub price_of : Table → Docket → List ℕ → Price
price_of t d ws = record {
  row = number ws d.table;
  ceiling = ceiling t d.objectives ws;
  target_sum = target_sum ws d.objectives;
  point = point t d.objectives ws;
}
