-- What each question answers of a table: none where the table lacks what is asked about. Assumes nothing.
use Rattle.std.specs.Prelude.{ℕ, [], ◌∷◌, length, ℤ, pos, Some, None, Option}
use Rattle.std.specs.Option.{option_map, unwrap_or}
use Rattle.std.specs.List.{slice_get}
use Rattle.mdp.specs.declared.WholeBranch.{WholeBranch}
use Rattle.mdp.specs.Table.{Branch, Choice, State, Table}

abbrev pub bind : {A B : Type 0} → Option A → (A → Option B) → Option B
bind None f = None
bind (Some x) f = f x

abbrev pub state_of : Table → ℕ → Option State
state_of t s = slice_get t.states s

abbrev pub choice_of : Table → ℕ → ℕ → Option Choice
choice_of t s c = bind (state_of t s) (λ cs. slice_get cs c)

abbrev pub branch_of : Table → ℕ → ℕ → ℕ → Option Branch
branch_of t s c b = bind (choice_of t s c) (λ bs. slice_get bs b)

abbrev pub choice_count : Table → ℕ → Option ℕ
choice_count t s = option_map length (state_of t s)

abbrev pub branch_count : Table → ℕ → ℕ → Option ℕ
branch_count t s c = option_map length (choice_of t s c)

abbrev pub weight_of : Table → ℕ → ℕ → ℕ → Option ℕ
weight_of t s c b = option_map (λ x. x.weight) (branch_of t s c b)

abbrev pub next_of : Table → ℕ → ℕ → ℕ → Option ℕ
next_of t s c b = option_map (λ x. x.next) (branch_of t s c b)

abbrev pub reward_of : Table → ℕ → ℕ → ℕ → ℕ → Option ℤ
reward_of t s c b i = bind (branch_of t s c b) (λ x. slice_get x.rewards i)

-- a reward, or 0 in a column that the table lacks
abbrev pub reward_or_zero : Table → ℕ → ℕ → ℕ → ℕ → ℤ
reward_or_zero t s c b i = unwrap_or (reward_of t s c b i) (pos 0)

-- weight, next state and rewards of a branch, as the questions about each answer them
abbrev pub whole_branch : Table → ℕ → ℕ → ℕ → Option WholeBranch
whole_branch t s c b =
    bind (weight_of t s c b) (λ w. option_map (λ n.
    record { weight = w; next = n; rewards = reward_or_zero t s c b 0 ∷ reward_or_zero t s c b 1 ∷ reward_or_zero t s c b 2 ∷ reward_or_zero t s c b 3 ∷ [] })
    (next_of t s c b))
