-- What a running amount takes. Assumes nothing.
use Rattle.std.specs.Prelude.{ℕ, ◌+◌, ◌*◌, ◌<◌, ◌≤◌, ℤ, unsigned_abs}
use Rattle.mdp.specs.Limits.{max_divisor}

-- 2 ^ 46, either way
abbrev pub max_amount : ℕ
max_amount = 70368744177664

-- weights so far, with room for one more weight, and an amount that is not too large
pub record MayAdd {R : Type 0} (after : R → ℕ → Type 0) (running : R) (weight : ℕ) (amount : ℤ) : Type 0 where
  pub so_far : ℕ
  pub reached : after running so_far
  pub room : so_far + weight ≤ max_divisor
  pub small : unsigned_abs amount ≤ max_amount

pub record MayFinish {R : Type 0} (after : R → ℕ → Type 0) (running : R) (divisor : ℕ) : Type 0 where
  pub so_far : ℕ
  pub reached : after running so_far
  pub room : so_far ≤ max_divisor
  pub positive : 0 < divisor

-- each weight so far came with an amount that is not too large
abbrev pub Bounded : ℤ → ℕ → Type 0
Bounded sum so_far = unsigned_abs sum ≤ so_far * max_amount
