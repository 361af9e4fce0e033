-- A settle under way, and what its pricings make of it. Assumes nothing.
use Rattle.std.specs.Prelude.{ℕ, ◌+◌, ◌≤◌, Bool, cond, List, [], ◌∷◌, length, get_or, pos, fold, int_le, slice_index_or}
use Rattle.std.specs.Borrow.{GName}
use Rattle.mdp.specs.Table.{Table}
use Rattle.mdp.specs.declared.Model.{Ghosts}
use Rattle.plans.specs.declared.Row.{Row}
use Rattle.plans.specs.Plans.{no_objective}
use Rattle.truth.specs.Dockets.{Docket, is_open, point, priced, toward, bisected, settle_priced}
use Rattle.docket.specs.declared.docket.settling.Settling.{Settling}
use Rattle.docket.specs.Views.{view}
use Rattle.docket.specs.Pricing.{priced_rows}
use Rattle.docket.specs.Settling.{settled_rows}

-- the docket and the working rows as they stand, over a model with its table, and which docket and rows they are
pub record Stage (M : Type 0) : Type 0 where
  pub model : M
  pub table : Table
  pub docket : Docket
  pub rows : List Row
  pub docket_name : GName
  pub rows_name : GName

module _ {M : Type 0} where
  abbrev pub stage : {m : Ghosts M} → Settling M m → Stage M
  stage {m = m} s = record {
    model = s.docket.now.model;
    table = m.table s.docket.now.model;
    docket = view s.docket.now;
    rows = s.rows.now;
    docket_name = s.docket.ghost_name;
    rows_name = s.rows.ghost_name;
  }

  -- the table has room for some rows more
  abbrev pub Room : Stage M → ℕ → Type 0
  Room s more = length s.docket.table + more ≤ 16

  -- whether the sweep toward a brings the first target
  abbrev pub brings : Stage M → ℕ → Bool
  brings s a = int_le (get_or s.docket.objectives 0 no_objective).target (slice_index_or (point s.table s.docket.objectives (toward a)) 0 (pos 0))

  -- after a pricing, and after some
  abbrev pub after_price : Stage M → List ℕ → Stage M
  after_price s ws = record s { docket = priced s.table s.docket ws; rows = priced_rows s.table s.docket.objectives ws s.rows }

  abbrev pub after_prices : Stage M → List (List ℕ) → Stage M
  after_prices s wss = fold after_price s wss

  abbrev pub bisections : Stage M → List (List ℕ)
  bisections s = bisected s.table 1000 s.docket 0 1000

  -- what is priced after (0, 1000), if that leaves the docket open: (1000, 0), and the bisections
  abbrev pub prices_on : Stage M → List (List ℕ)
  prices_on s = cond (is_open s.docket.verdict) (toward 1000 ∷ bisections (after_price s (toward 1000))) []

  -- after all pricings of a settle
  abbrev pub priced_anew : Stage M → Stage M
  priced_anew s = record s { docket = settle_priced s.table s.docket; rows = settled_rows s.table s.docket s.rows }
