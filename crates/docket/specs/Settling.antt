-- The working rows after the pricings of a settle. Assumes nothing.
use Rattle.std.specs.Prelude.{ℕ, List, fold}
use Rattle.mdp.specs.Table.{Table}
use Rattle.plans.specs.declared.Objective.{Objective}
use Rattle.plans.specs.declared.Row.{Row}
use Rattle.truth.specs.Dockets.{Docket, settle_prices}
use Rattle.docket.specs.Pricing.{priced_rows}

-- the working rows after some pricings
abbrev pub all_priced_rows : Table → List Objective → List Row → List (List ℕ) → List Row
all_priced_rows t os old wss = fold (λ rs ws. priced_rows t os ws rs) old wss

abbrev pub settled_rows : Table → Docket → List Row → List Row
settled_rows t d old = all_priced_rows t d.objectives old (settle_prices t d)
