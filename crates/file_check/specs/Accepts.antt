-- Which files are accepted, and what is read from a file. Assumes nothing.
use Rattle.std.specs.Prelude.{◌≡◌, ℕ, ◌<◌, ◌≤◌, Bool, true, cond, List, [], ◌∷◌, length, pos, is_ok, slice_index}
use Rattle.mdp.specs.Table.{Table, Facts}
use Rattle.file_check.specs.Layout.{encode}
use Rattle.file_check.specs.Check.{max_file, check_result}
use Rattle.file_check.specs.Decode.{decode}

unfoldable pub accepted : List ℕ → Bool
accepted xs = is_ok (check_result xs)

abbrev pub Bytes : List ℕ → Type 0
Bytes xs = (i : ℕ) → slice_index xs i < 256

-- xs is the file of t, a table with its facts, and is no longer than a file may be
pub record FileOf (xs : List ℕ) (t : Table) : Type 0 where
  pub facts : Facts t
  pub file : encode t ≡ xs
  pub short : length xs ≤ max_file

-- Exactly the files of tables are accepted, and each holds one table, which is decoded from it.
pub record Layout : Type 0 where
  pub sound : (xs : List ℕ) → Bytes xs → accepted xs ≡ true → FileOf xs (decode xs)
  pub complete : (xs : List ℕ) (t : Table) → FileOf xs t → (accepted xs ≡ true) × (decode xs ≡ t)
  pub single : (xs : List ℕ) (t u : Table) → FileOf xs t → FileOf xs u → t ≡ u

-- one state, one choice, one branch back with reward 0
abbrev pub blank : Table
blank = record { first = 0; divisor = 1; columns = 1; states = ((record { weight = 1; next = 0; rewards = pos 0 ∷ [] } ∷ []) ∷ []) ∷ [] }

-- the table of what is read from a file: its own, or the blank one where it is refused
abbrev pub read_table : List ℕ → Table
read_table xs = cond (accepted xs) (decode xs) blank
