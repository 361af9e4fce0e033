-- A docket, and what pricing, mixing, retargeting, clearing and settling make of it. Assumes nothing.
use Rattle.std.specs.Prelude.{ℕ, zero, suc, ◌+◌, ◌-◌, ◌/◌, Bool, true, false, cond, not, ◌&&◌, List, [], ◌∷◌, ◌++◌, map, length, get_or, take, ℤ, pos, fold, sum, filter, ◌==◌, int_le, int_lt, nat_lt, slice_index, slice_index_or}
use Rattle.std.specs.List.{range_with_len, prefix_len}
use Rattle.mdp.specs.Table.{Table}
use Rattle.plans.specs.declared.Objective.{Objective}
use Rattle.plans.specs.declared.Row.{Row}
use Rattle.plans.specs.Totals.{◌·◌, total}
use Rattle.plans.specs.Plans.{Share, no_objective, horizon, target_sum}
use Rattle.plans.specs.Sweep.{no_row}
use Rattle.plans.specs.Claims.{mean_rows, Candidate, planned}

-- a row of a docket's table: the weights of a pricing, and the point that its sweep reached
pub record Priced : Type 0 where
  pub weights : List ℕ
  pub point : List ℤ

-- what is read past the end of a table
abbrev pub no_priced : Priced
no_priced = record { weights = []; point = [] }

-- achieved shows the shares of the rows; refuted the weights, the ceiling and the target sum
pub data Verdict : Type 0 where
  Open : Verdict
  Achieved : List ℕ → Verdict
  Refuted : List ℕ → ℤ → ℤ → Verdict

pub record Docket : Type 0 where
  pub objectives : List Objective
  pub table : List Priced
  pub verdict : Verdict

-- the row of the first state after a sweep of all K steps at some weights
abbrev pub swept : Table → List Objective → List ℕ → Row
swept t os ws = slice_index_or (mean_rows t os ws (horizon os)) t.first no_row

abbrev pub ceiling : Table → List Objective → List ℕ → ℤ
ceiling t os ws = (swept t os ws).ceiling

abbrev pub point : Table → List Objective → List ℕ → List ℤ
point t os ws = (swept t os ws).parts

-- the verdict: an open docket takes the new one if the event came out so, and any other stands
abbrev pub judged : Verdict → Bool → Verdict → Verdict
judged Open so new = cond so new Open
judged (Achieved ss) so new = Achieved ss
judged (Refuted ws c s) so new = Refuted ws c s

abbrev pub is_open : Verdict → Bool
is_open Open = true
is_open (Achieved ss) = false
is_open (Refuted ws c s) = false

-- pricing
abbrev pub same : List ℕ → List ℕ → Bool
same [] [] = true
same [] (y ∷ ys) = false
same (x ∷ xs) [] = false
same (x ∷ xs) (y ∷ ys) = x == y && same xs ys

-- the number of the row with these weights; the length where there is none
abbrev pub number : List ℕ → List Priced → ℕ
number ws rs = prefix_len (λ r. not (same r.weights ws)) rs

abbrev pub has_row : List ℕ → List Priced → Bool
has_row ws rs = nat_lt (number ws rs) (length rs)

unfoldable pub priced : Table → Docket → List ℕ → Docket
priced t d ws = record {
  objectives = d.objectives;
  table = cond (has_row ws d.table) d.table (d.table ++ record { weights = ws; point = point t d.objectives ws } ∷ []);
  verdict = judged d.verdict (int_lt (ceiling t d.objectives ws) (target_sum ws d.objectives))
      (Refuted ws (ceiling t d.objectives ws) (target_sum ws d.objectives));
}

-- mixing
-- a test of each element, by its number
abbrev pub holds : {X : Type 0} → (ℕ → X → Bool) → List X → Bool
holds p [] = true
holds p (x ∷ xs) = p 0 x && holds (λ j. p (suc j)) xs

-- the sum over the rows of share × part i
abbrev pub part_sum : List ℕ → List Priced → ℕ → ℤ
part_sum ss rs i = total (λ j r. slice_index ss j) (λ j r. get_or r.point i (pos 0)) rs

-- whether the shares bring every target
abbrev pub suffice : List Objective → List Priced → List ℕ → Bool
suffice os rs ss = holds (λ i o. int_le (sum ss · o.target) (part_sum ss rs i)) os

abbrev pub meets : Docket → List ℕ → Bool
meets d ss = holds (λ i o. int_le (sum ss · o.target) (part_sum ss d.table i)) d.objectives

unfoldable pub mixed : Docket → List ℕ → Docket
mixed d ss = record { objectives = d.objectives; table = d.table; verdict = judged d.verdict (meets d ss) (Achieved ss) }

-- the rows with positive shares; a row past the shares has none
abbrev pub backed : List ℕ → List Priced → List Candidate
backed [] rs = []
backed (s ∷ ss) [] = []
backed (s ∷ ss) (r ∷ rs) = cond (nat_lt 0 s) (record { share = s; weights = r.weights } ∷ backed ss rs) (backed ss rs)

-- the mixture of the plans of the rows with positive shares
abbrev pub shown : Table → Docket → List ℕ → List Share
shown t d ss = map (planned t d.objectives) (backed ss d.table)

-- retargeting and clearing
-- f of each, by its number
abbrev pub each_by : {X Y : Type 0} → (ℕ → X → Y) → List X → List Y
each_by f [] = []
each_by f (x ∷ xs) = f 0 x ∷ each_by (λ j. f (suc j)) xs

abbrev pub aimed : List ℤ → ℕ → Objective → Objective
aimed ts i o = record { column = o.column; bound = o.bound; target = slice_index_or ts i (pos 0) }

abbrev pub retargeted : Docket → List ℤ → Docket
retargeted d ts = record { objectives = each_by (aimed ts) d.objectives; table = d.table; verdict = Open }

abbrev pub cleared : Docket → Docket
cleared d = record { objectives = d.objectives; table = []; verdict = Open }

abbrev pub posed : List Objective → Docket
posed os = record { objectives = os; table = []; verdict = Open }

-- settling: the weights that are priced, one after the other, and then the mix
abbrev pub toward : ℕ → List ℕ
toward a = a ∷ (1000 - a) ∷ []

-- at most n more bisections between lo and hi; each leaves the half that reaches target 0
unfoldable pub bisected : Table → ℕ → Docket → ℕ → ℕ → List (List ℕ)
bisected t zero d lo hi = []
bisected t (suc n) d lo hi =
    let a = (lo + hi) / 2 in
    let rest = cond (int_le (get_or d.objectives 0 no_objective).target (slice_index_or (point t d.objectives (toward a)) 0 (pos 0)))
    (bisected t n (priced t d (toward a)) lo a)
    (bisected t n (priced t d (toward a)) a hi) in
    cond (nat_lt 1 (hi - lo) && is_open d.verdict) (toward a ∷ rest) []

unfoldable pub settle_prices : Table → Docket → List (List ℕ)
settle_prices t d =
    let one = priced t (cleared d) (toward 0) in
    toward 0 ∷ cond (is_open one.verdict) (toward 1000 ∷ bisected t 1000 (priced t one (toward 1000)) 0 1000) []

abbrev pub settle_priced : Table → Docket → Docket
settle_priced t d = fold (priced t) (cleared d) (settle_prices t d)

abbrev pub gathered : {X Y : Type 0} → (X → List Y) → List X → List Y
gathered f [] = []
gathered f (x ∷ xs) = f x ++ gathered f xs

-- a for row r, 1000 - a for row s, 0 for the other rows of n
abbrev pub paired : ℕ → ℕ → ℕ → ℕ → List ℕ
paired n r s a = map (λ j. cond (j == r) a (cond (j == s) (1000 - a) 0)) (range_with_len 0 n)

-- by rising r, then s above r, then a
unfoldable pub pairings : ℕ → List (List ℕ)
pairings n = gathered (λ r. gathered (λ s. map (paired n r s) (range_with_len 0 1001)) (range_with_len (suc r) (n - suc r))) (range_with_len 0 n)

-- the first that meets, if any
unfoldable pub settle_mixes : Docket → List (List ℕ)
settle_mixes d = cond (is_open d.verdict) (take 1 (filter (meets d) (pairings (length d.table)))) []

abbrev pub settled : Table → Docket → Docket
settled t d = fold mixed (settle_priced t d) (settle_mixes (settle_priced t d))
