-- The table of a lock that counts wrong tries. Assumes nothing.
use Rattle.std.specs.Prelude.{ℕ, ◌+◌, ◌-◌, min, max, cond, [], ◌∷◌, map, pos, neg_ℤ, Option, nat_lt}
use Rattle.std.specs.List.{range_with_len, slice_get}
use Rattle.mdp.specs.Questions.{bind}
use Rattle.mdp.specs.Table.{Branch, Choice, State, Table}

abbrev pub max_limit : ℕ
max_limit = 15

abbrev pub max_chance : ℕ
max_chance = 99

-- what the weights of a choice add up to
abbrev pub percent : ℕ
percent = 100

-- what a reset of the full counter exposes
abbrev pub reset_exposure : ℕ
reset_exposure = 5

-- the nearest number from low to high
abbrev pub clamped : ℕ → ℕ → ℕ → ℕ
clamped low high n = max low (min n high)

-- openings earned, then exposure, which counts down
abbrev pub box_branch : ℕ → ℕ → ℕ → ℕ → Branch
box_branch w n opened exposed = record { weight = w; next = n; rewards = pos opened ∷ neg_ℤ (pos exposed) ∷ [] }

-- a try at k wrong ones: it opens with the chance, or is one more wrong one
abbrev pub enter : ℕ → ℕ → Choice
enter g k = box_branch g 0 1 k ∷ box_branch (percent - g) (k + 1) 0 k ∷ []

-- the counter is let run out
abbrev pub wait : Choice
wait = box_branch percent 0 0 0 ∷ []

abbrev pub reset : Choice
reset = box_branch percent 0 0 reset_exposure ∷ []

abbrev pub open_state : ℕ → ℕ → State
open_state g k = enter g k ∷ wait ∷ []

abbrev pub full_state : State
full_state = reset ∷ []

-- k wrong tries of at most n, with the chance g
abbrev pub box_state : ℕ → ℕ → ℕ → State
box_state n g k = cond (nat_lt k n) (open_state g k) full_state

abbrev pub branch_in : State → ℕ → ℕ → Option Branch
branch_in cs c b = bind (slice_get cs c) (λ bs. slice_get bs b)

unfoldable pub counter_box : ℕ → ℕ → Table
counter_box n g = record { first = 0; divisor = percent; columns = 2; states = map (box_state n g) (range_with_len 0 (n + 1)) }
