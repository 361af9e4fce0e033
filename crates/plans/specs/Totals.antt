-- Weighted sums over a list, in ℤ. Assumes nothing.
use Rattle.std.specs.Prelude.{ℕ, suc, ◌+◌, List, [], ◌∷◌, ℤ, pos, ◌+ℤ◌, ◌*ℤ◌}

-- a natural times an integer
infixl 70 ◌·◌
abbrev pub ◌·◌ : ℕ → ℤ → ℤ
k · z = pos k *ℤ z

-- the sum of the weights, each by its place and its element
abbrev pub weight_sum : {X : Type 0} → (ℕ → X → ℕ) → List X → ℕ
weight_sum u [] = 0
weight_sum u (x ∷ xs) = u 0 x + weight_sum (λ j. u (suc j)) xs

-- the sum of weight × amount
abbrev pub total : {X : Type 0} → (ℕ → X → ℕ) → (ℕ → X → ℤ) → List X → ℤ
total u f [] = pos 0
total u f (x ∷ xs) = u 0 x · f 0 x +ℤ total (λ j. u (suc j)) (λ j. f (suc j)) xs
