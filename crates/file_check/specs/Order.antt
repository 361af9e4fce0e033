-- The order in which a file's faults count, in the words of its format. Assumes nothing.
use Rattle.std.specs.Prelude.{◌≡◌, ℕ, zero, suc, ◌+◌, ◌*◌, Bool, true, false, cond, not, ◌&&◌, ◌||◌, List, [], ◌∷◌, ◌++◌, map, length, Some, None, Ok, Err, All, Option, ◌==◌, nat_le, nat_lt, slice_index}
use Rattle.std.specs.List.{range_with_len, flat_map}
use Rattle.std.specs.Option.{unwrap_or}
use Rattle.mdp.specs.Limits.{max_states, max_divisor, max_columns, max_choices, max_branches}
use Rattle.mdp.specs.Table.{total_weight}
use Rattle.file_check.specs.declared.faults.FileCause.{FileCause}
use Rattle.file_check.specs.declared.faults.FileCause.TheVariants.{Size, Header, Pair, Field, Sum}
use Rattle.file_check.specs.Check.{FileFault, Checked, max_file, within, word, branch_size, reward_fits, block_end}
use Rattle.file_check.specs.Decode.{choice_in}
use Rattle.file_check.specs.Places.{pair_place, choice_place}

-- what a file can be wrong at; s, k, b and i are the numbers of a state, a choice, a branch and a column
pub data Point : Type 0 where
  size : Point
  states : Point
  first : Point
  divisor : Point
  columns : Point
  zero_byte : Point
  pair_table : Point
  pair : (s : ℕ) → Point
  count : (s k : ℕ) → Point
  weight : (s k b : ℕ) → Point
  next : (s k b : ℕ) → Point
  reward : (s k b i : ℕ) → Point
  sum : (s k : ℕ) → Point

-- the points of a file with c columns, in the order in which they count: header, pairs, blocks, each from its front
abbrev pub branch_points : ℕ → ℕ → ℕ → ℕ → List Point
branch_points c s k b = weight s k b ∷ next s k b ∷ map (reward s k b) (range_with_len 0 c)

abbrev pub choice_points : ℕ → ℕ → ℕ → List Point
choice_points c s k = count s k ∷ (flat_map (branch_points c s k) (range_with_len 0 max_branches) ++ (sum s k ∷ []))

abbrev pub state_points : ℕ → ℕ → List Point
state_points c s = flat_map (choice_points c s) (range_with_len 0 (max_choices + 1))

abbrev pub points : List ℕ → List Point
points xs =
    size ∷ states ∷ first ∷ divisor ∷ columns ∷ zero_byte ∷ pair_table
    ∷ (map pair (range_with_len 0 (word xs 0)) ++ flat_map (state_points (slice_index xs 6)) (range_with_len 0 (word xs 0)))

-- where the block of state s has to stand
abbrev pub block_start : List ℕ → ℕ → ℕ
block_start xs zero = 8 + 4 * word xs 0
block_start xs (suc s) = block_end xs (pair_place s)

-- the pair of state s is in line, its block not empty, within the file and, if it is the last, up to the file's end
abbrev pub pair_right : List ℕ → ℕ → Bool
pair_right xs s =
    (word xs (pair_place s) == block_start xs s)
    && (nat_lt 0 (word xs (pair_place s + 2))
    && (nat_le (block_end xs (pair_place s)) (length xs)
    && (nat_lt (suc s) (word xs 0) || block_end xs (pair_place s) == length xs)))

abbrev pub holds_of : Option ℕ → (ℕ → Bool) → Bool
holds_of None f = false
holds_of (Some p) f = f p

-- f of the offset of a branch that its choice says it has
abbrev pub of_branch : List ℕ → ℕ → ℕ → ℕ → (ℕ → Bool) → Bool
of_branch xs s k b f = holds_of (choice_place xs s k) (λ a. nat_lt b (slice_index xs a) && f (a + 1 + b * branch_size (slice_index xs 6)))

-- the field of two bytes at p passes the end of the block of state s
abbrev pub cut : List ℕ → ℕ → ℕ → Bool
cut xs s p = nat_lt (block_end xs (pair_place s)) (p + 2)

abbrev pub wrong : List ℕ → Point → Bool
wrong xs size = not (within 8 max_file (length xs))
wrong xs states = not (within 1 max_states (word xs 0))
wrong xs first = not (nat_lt (word xs 2) (word xs 0))
wrong xs divisor = not (within 1 max_divisor (word xs 4))
wrong xs columns = not (within 1 max_columns (slice_index xs 6))
wrong xs zero_byte = not (slice_index xs 7 == 0)
wrong xs pair_table = nat_lt (length xs) (8 + 4 * word xs 0)
wrong xs (pair s) = not (pair_right xs s)
wrong xs (count s k) = holds_of (choice_place xs s k) (λ a. (k == max_choices) || not (within 1 max_branches (slice_index xs a)))
wrong xs (weight s k b) = of_branch xs s k b (λ p. cut xs s p || not (within 1 (word xs 4) (word xs p)))
wrong xs (next s k b) = of_branch xs s k b (λ p. cut xs s (p + 2) || not (nat_lt (word xs (p + 2)) (word xs 0)))
wrong xs (reward s k b i) = of_branch xs s k b (λ p. cut xs s (p + 4 + 2 * i) || not (reward_fits (word xs (p + 4 + 2 * i))))
wrong xs (sum s k) = holds_of (choice_place xs s k) (λ a. not (total_weight (choice_in xs (slice_index xs 6) a) == word xs 4))

abbrev pub choice_offset : List ℕ → ℕ → ℕ → ℕ
choice_offset xs s k = unwrap_or (choice_place xs s k) 0

-- the offset of the field that stands d bytes into a branch, or its block's end if it is cut
abbrev pub field_offset : List ℕ → ℕ → ℕ → ℕ → ℕ → ℕ
field_offset xs s k b d =
    let p = choice_offset xs s k + 1 + b * branch_size (slice_index xs 6) + d in
    cond (cut xs s p) (block_end xs (pair_place s)) p

abbrev pub fault_of : FileCause → ℕ → FileFault
fault_of c p = record { cause = c; place = p }

-- the fault of a file that is wrong at a point
abbrev pub fault_at : List ℕ → Point → FileFault
fault_at xs size = fault_of Size 0
fault_at xs states = fault_of Header 0
fault_at xs first = fault_of Header 2
fault_at xs divisor = fault_of Header 4
fault_at xs columns = fault_of Header 6
fault_at xs zero_byte = fault_of Header 7
fault_at xs pair_table = fault_of Pair 8
fault_at xs (pair s) = fault_of Pair (pair_place s)
fault_at xs (count s k) = fault_of Field (choice_offset xs s k)
fault_at xs (weight s k b) = fault_of Field (field_offset xs s k b 0)
fault_at xs (next s k b) = fault_of Field (field_offset xs s k b 2)
fault_at xs (reward s k b i) = fault_of Field (field_offset xs s k b (4 + 2 * i))
fault_at xs (sum s k) = fault_of Sum (choice_offset xs s k)

abbrev pub Right : List ℕ → List Point → Type 0
Right xs ps = All (λ p. wrong xs p ≡ false) ps

-- f is the fault of a point that is wrong, and no point before it is
pub record Named (xs : List ℕ) (f : FileFault) : Type 0 where
  pub before : List Point
  pub at : Point
  pub after : List Point
  pub order : points xs ≡ before ++ (at ∷ after)
  pub right : Right xs before
  pub wrong_there : wrong xs at ≡ true
  pub fault : f ≡ fault_at xs at

-- r names the first fault of a file, or none where the file is wrong at no point
pub record FirstFault (xs : List ℕ) (r : Checked (Unit {0})) : Type 0 where
  pub none : r ≡ Ok tt → Right xs (points xs)
  pub named : (f : FileFault) → r ≡ Err f → Named xs f
