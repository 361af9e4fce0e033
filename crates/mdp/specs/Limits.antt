-- The limits of a model. Assumes nothing.
use Rattle.std.specs.Prelude.{ℕ}

abbrev pub max_states : ℕ
max_states = 512

abbrev pub max_divisor : ℕ
max_divisor = 10000

abbrev pub max_columns : ℕ
max_columns = 4

abbrev pub max_choices : ℕ
max_choices = 8

abbrev pub max_branches : ℕ
max_branches = 8

-- either way
abbrev pub max_reward : ℕ
max_reward = 1000
