-- The check of a file, step by step. Assumes nothing.
use Rattle.std.specs.Prelude.{ℕ, zero, suc, ◌+◌, ◌-◌, ◌*◌, Bool, cond, ◌&&◌, List, length, Ok, Err, Result, ◌==◌, nat_le, nat_lt, slice_index, unsigned_abs}
use Rattle.std.proofs.Common.{to_z}
use Rattle.std.specs.Int.{w16}
use Rattle.fault.specs.declared.Fault.{Fault}
use Rattle.mdp.specs.Limits.{max_states, max_divisor, max_columns, max_choices, max_branches, max_reward}
use Rattle.file_check.specs.declared.faults.FileCause.{FileCause}
use Rattle.file_check.specs.declared.faults.FileCause.TheVariants.{Size, Header as BadHeader, Pair, Field, Sum}
use Rattle.file_check.specs.declared.check.Header.{Header}

abbrev pub max_file : ℕ
max_file = 65535

abbrev pub FileFault : Type 0
FileFault = Fault FileCause

abbrev pub Checked : Type 0 → Type 0
Checked A = Result A FileFault

abbrev pub bad : {A : Type 0} → FileCause → ℕ → Checked A
bad k p = Err (record { cause = k; place = p })

abbrev pub then_do : {A B : Type 0} → Checked A → (A → Checked B) → Checked B
then_do (Ok x) f = f x
then_do (Err e) f = Err e

abbrev pub within : ℕ → ℕ → ℕ → Bool
within low high n = nat_le low n && nat_le n high

-- the number in the two bytes at an offset
abbrev pub word : List ℕ → ℕ → ℕ
word xs p = slice_index xs p + slice_index xs (p + 1) * 256

abbrev pub header_of : List ℕ → Header
header_of xs = record { states = word xs 0; first = word xs 2; divisor = word xs 4; columns = slice_index xs 6 }

abbrev pub header_at : List ℕ → Checked Header
header_at xs =
    cond (within 1 max_states (word xs 0))
    (cond (nat_lt (word xs 2) (word xs 0))
    (cond (within 1 max_divisor (word xs 4))
    (cond (within 1 max_columns (slice_index xs 6))
    (cond (slice_index xs 7 == 0) (Ok (header_of xs)) (bad BadHeader 7))
    (bad BadHeader 6))
    (bad BadHeader 4))
    (bad BadHeader 2))
    (bad BadHeader 0)

-- the pair at p names a block that stands at o, is not empty and ends within the file
abbrev pub pair_fits : List ℕ → ℕ → ℕ → Bool
pair_fits xs p o = word xs p == o && (nat_lt 0 (word xs (p + 2)) && nat_le (o + word xs (p + 2)) (length xs))

-- the n pairs from p on, the first block standing at o, the last ending with the file
abbrev pub pairs_at : List ℕ → ℕ → ℕ → ℕ → Checked (Unit {0})
pairs_at xs p o zero = cond (o == length xs) (Ok tt) (bad Pair (p - 4))
pairs_at xs p o (suc n) = cond (pair_fits xs p o) (pairs_at xs (p + 4) (o + word xs (p + 2)) n) (bad Pair p)

-- the bytes of one branch
abbrev pub branch_size : ℕ → ℕ
branch_size columns = 4 + 2 * columns

-- the field of two bytes at p, of a block that ends at e
abbrev pub field_at : List ℕ → ℕ → ℕ → Checked ℕ
field_at xs e p = cond (nat_lt e (p + 2)) (bad Field e) (Ok (word xs p))

abbrev pub reward_fits : ℕ → Bool
reward_fits v = nat_le (unsigned_abs (to_z w16 v)) max_reward

-- n rewards from p on
abbrev pub rewards_at : List ℕ → ℕ → ℕ → ℕ → Checked (Unit {0})
rewards_at xs e p zero = Ok tt
rewards_at xs e p (suc n) = then_do (field_at xs e p) (λ v. cond (reward_fits v) (rewards_at xs e (p + 2) n) (bad Field p))

-- the branch at p; its weight
abbrev pub branch_at : List ℕ → Header → ℕ → ℕ → Checked ℕ
branch_at xs h e p =
    then_do (field_at xs e p) (λ w. cond (within 1 h.divisor w)
    (then_do (field_at xs e (p + 2)) (λ n. cond (nat_lt n h.states)
    (then_do (rewards_at xs e (p + 4) h.columns) (λ _. Ok w))
    (bad Field (p + 2))))
    (bad Field p))

-- n branches from p on; the sum of their weights, added to a sum
abbrev pub branches_at : List ℕ → Header → ℕ → ℕ → ℕ → ℕ → Checked ℕ
branches_at xs h e p zero sum = Ok sum
branches_at xs h e p (suc n) sum = then_do (branch_at xs h e p) (λ w. branches_at xs h e (p + branch_size h.columns) n (sum + w))

-- where the choice after the one at p stands
abbrev pub choice_after : List ℕ → ℕ → ℕ → ℕ
choice_after xs c p = p + 1 + slice_index xs p * branch_size c

-- the choice at p, which is below e; the offset after it
abbrev pub choice_at : List ℕ → Header → ℕ → ℕ → Checked ℕ
choice_at xs h e p =
    cond (within 1 max_branches (slice_index xs p))
    (then_do (branches_at xs h e (p + 1) (slice_index xs p) 0) (λ sum. cond (sum == h.divisor) (Ok (choice_after xs h.columns p)) (bad Sum p)))
    (bad Field p)

-- at most n choices from p on, up to e
abbrev pub choices_at : List ℕ → Header → ℕ → ℕ → ℕ → Checked (Unit {0})
choices_at xs h e p zero = cond (nat_lt p e) (bad Field p) (Ok tt)
choices_at xs h e p (suc n) = cond (nat_lt p e) (then_do (choice_at xs h e p) (λ q. choices_at xs h e q n)) (Ok tt)

-- where the block that the pair at p names ends
abbrev pub block_end : List ℕ → ℕ → ℕ
block_end xs p = word xs p + word xs (p + 2)

-- the blocks of the n pairs from p on
abbrev pub blocks_at : List ℕ → Header → ℕ → ℕ → Checked (Unit {0})
blocks_at xs h p zero = Ok tt
blocks_at xs h p (suc n) = then_do (choices_at xs h (block_end xs p) (word xs p) max_choices) (λ _. blocks_at xs h (p + 4) n)

-- what the check answers: the first fault, or none
abbrev pub check_result : List ℕ → Checked (Unit {0})
check_result xs =
    cond (within 8 max_file (length xs))
    (then_do (header_at xs) (λ h.
    cond (nat_le (8 + 4 * h.states) (length xs))
    (then_do (pairs_at xs 8 (8 + 4 * h.states) h.states) (λ _. blocks_at xs h 8 h.states))
    (bad Pair 8)))
    (bad Size 0)
