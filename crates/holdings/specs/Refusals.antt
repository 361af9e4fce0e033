-- Why new targets, weights or shares, or one more row, are refused. Assumes nothing.
use Rattle.std.specs.Prelude.{ℕ, not, ◌&&◌, ◌||◌, List, [], ◌∷◌, length, ℤ, sum, Option, ◌==◌, nat_le, nat_lt}
use Rattle.truth.specs.Dockets.{Priced, has_row}
use Rattle.truth.specs.Calls.{Fault, cause, first_of, small_weights, small_targets}

-- for some number of objectives
abbrev pub targets_refusal : ℕ → List ℤ → Option Fault
targets_refusal n ts =
    first_of (cause (not (length ts == n)) 14 (length ts) ∷ cause (nat_lt (small_targets ts) (length ts)) 14 (small_targets ts) ∷ [])

-- for some number of objectives
abbrev pub weights_refusal : ℕ → List ℕ → Option Fault
weights_refusal n ws =
    first_of (cause (not (length ws == n)) 10 (length ws) ∷ cause (nat_lt (small_weights ws) (length ws)) 10 (small_weights ws) ∷ cause (sum ws == 0) 10 0 ∷ [])

-- for some number of rows
abbrev pub shares_refusal : ℕ → List ℕ → Option Fault
shares_refusal n ss =
    first_of (cause (not (length ss == n)) 13 (length ss) ∷ cause (sum ss == 0 || nat_lt 1000 (sum ss)) 13 0 ∷ [])

-- in a table of some rows
abbrev pub room_refusal : List Priced → List ℕ → Option Fault
room_refusal rs ws = first_of (cause (nat_le 16 (length rs) && not (has_row ws rs)) 12 16 ∷ [])
