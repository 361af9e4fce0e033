-- The limits of a sweep. Assumes nothing.
use Rattle.std.specs.Prelude.{ℕ}

abbrev pub max_objectives : ℕ
max_objectives = 4

abbrev pub max_weight : ℕ
max_weight = 1000

abbrev pub max_bound : ℕ
max_bound = 256

-- the most that weighted rewards of a step come to, either way: 4 × 1000 × 1000
abbrev pub max_earned : ℕ
max_earned = 4000000

-- the most that a row's numbers come to in grains, either way: 256 × 65536 × 4000000
abbrev pub max_worth : ℕ
max_worth = 67108864000000
