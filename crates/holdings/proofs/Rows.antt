-- The rows of a table, and a sum's next element. Assumes nothing.
use Rattle.std.proofs.Common.{◌≡◌, ℕ, zero, suc, ◌+◌, ◌<◌, ◌≤◌, List, [], ◌∷◌, map, length, get_or, take, ℤ, pos, ◌+ℤ◌, Bool, None, cond, not, sym, refl, ap, ◌∙◌, arith}
use borrow.Author.Differences.{same_in, same_out, sum_is_lem}
use lib.IntN.{zero-*ℤ}
use Rattle.std.specs.List.{position, position_or_len}
use Rattle.std.proofs.lemmas.List.{get_or-map, length-map}
use Rattle.std.proofs.lemmas.List.Sums.{prefix_len-le-length}
use Rattle.std.proofs.lemmas.Bool.Decides.{nat_tests}
use Rattle.plans.specs.Totals.{◌·◌, total}
use Rattle.truth.specs.Dockets.{Priced, no_priced, same, number}
use Rattle.few.specs.Views.{listed}
use Rattle.few.proofs.Lengths.{listed_within}
use Rattle.holdings.specs.declared.table.TableRow.{TableRow}
use Rattle.holdings.specs.declared.table.RowTable.{RowTable}
use Rattle.holdings.specs.Views.{row_of, table_of}

-- a part of row k, over any row that is read past the end
pub part_of_row : (rs : List TableRow) (k i : ℕ) (r : TableRow) → k < length rs → get_or (get_or (map row_of rs) k no_priced).point i (pos 0) ≡ get_or (get_or rs k r).point i (pos 0)
part_of_row rs k i r h = ap (λ (v : Priced). get_or v.point i (pos 0)) (get_or-map row_of rs k r no_priced h)

module _ (t : RowTable) where
  pub length_table_of : length (table_of t) ≡ length (listed t.rows)
  length_table_of = length-map (listed t.rows) row_of

  pub table_within : length (table_of t) ≤ 16
  table_within = omega (arith, length_table_of, listed_within t.rows)

-- the number of the row with some weights
pub number_in : (ws : List ℕ) (rs : List TableRow) → number ws (map row_of rs) ≡ position_or_len (λ r. same (row_of r).weights ws) rs
number_in ws [] = refl
number_in ws (r ∷ rs) = ap (λ n. cond (not (same (row_of r).weights ws)) (1 + n) 0) (number_in ws rs)

pub position_none : {X : Type 0} (p : X → Bool) (xs : List X) → None ≡ position p xs → position_or_len p xs ≡ length xs
position_none p xs e = let h = prefix_len-le-length (λ x. not (p x)) xs in grind (arith, nat_tests)

-- one element more of a sum
pub total_more : {X : Type 0} (u : ℕ → X → ℕ) (f : ℕ → X → ℤ) (xs : List X) (k : ℕ) (d : X) → k < length xs →
    total u f (take (k + 1) xs) ≡ total u f (take k xs) +ℤ u k (get_or xs k d) · f k (get_or xs k d)
total_more u f [] k d h = absurd (omega arith)
total_more u f (x ∷ xs) zero d h = omega (arith, same_in, same_out, sum_is_lem)
total_more u f (x ∷ xs) (suc k) d h =
    let r = total_more (λ j. u (suc j)) (λ j. f (suc j)) xs k d (omega arith) in
    let n : suc k + 1 ≡ suc (k + 1) = omega arith in
    rw n (omega (arith, same_in, same_out, sum_is_lem))

-- a sum in which no weight is other than 0, and one in which none past the first k is
pub total_zero : {X : Type 0} (u : ℕ → ℕ) (f : ℕ → X → ℤ) (xs : List X) → ((j : ℕ) → u j ≡ 0) → total (λ j x. u j) f xs ≡ pos 0
total_zero u f [] z = refl
total_zero u f (x ∷ xs) z =
    let a : u 0 · f 0 x ≡ pos 0 = ap (λ n. n · f 0 x) (z 0) ∙ zero-*ℤ (f 0 x) in
    let r = total_zero (λ j. u (suc j)) (λ j. f (suc j)) xs (λ j. z (suc j)) in
    omega (arith, same_in, same_out, sum_is_lem)

pub total_take : {X : Type 0} (u : ℕ → ℕ) (f : ℕ → X → ℤ) (xs : List X) (k : ℕ) → ((j : ℕ) → k ≤ j → u j ≡ 0) → total (λ j x. u j) f (take k xs) ≡ total (λ j x. u j) f xs
total_take u f [] zero z = refl
total_take u f [] (suc k) z = refl
total_take u f (x ∷ xs) zero z = sym (total_zero u f (x ∷ xs) (λ j. z j (omega arith)))
total_take u f (x ∷ xs) (suc k) z =
    let r = total_take (λ j. u (suc j)) (λ j. f (suc j)) xs k (λ j h. z (suc j) (omega arith)) in
    omega (arith, same_in, same_out, sum_is_lem)
