-- Blends: one number from the weighted amounts of a choice's branches. Assumes nothing.
use Rattle.std.specs.Prelude.{◌≡◌, ℕ, ◌+◌, ◌<◌, List, [], ◌∷◌, map, ℤ, pos, ◌+ℤ◌, ◌*ℤ◌, neg_ℤ, ◌≤ℤ◌, All}
use Rattle.std.specs.Int.{int_div_euclid}

pub record Weighed : Type 0 where
  pub weight : ℕ
  pub amount : ℤ

-- weighted amounts and a divisor to one number
abbrev pub Mean : Type 0
Mean = List Weighed → ℕ → ℤ

-- the running amount after some weighted amounts
abbrev pub running : {R : Type 0} → (R → ℕ → ℤ → R) → R → List Weighed → R
running more r [] = r
running more r (x ∷ xs) = running more (more r x.weight x.amount) xs

-- a blend by its first running amount, what each amount adds to it, and what it comes to
abbrev pub mean_of : {R : Type 0} → R → (R → ℕ → ℤ → R) → (R → ℕ → ℤ) → Mean
mean_of none more result xs d = result (running more none xs) d

abbrev pub all_weights : List Weighed → ℕ
all_weights [] = 0
all_weights (x ∷ xs) = x.weight + all_weights xs

abbrev pub added : ℤ → Weighed → Weighed
added c x = record { weight = x.weight; amount = x.amount +ℤ c }

-- the same weights, and no larger amounts
abbrev pub AtMost : List Weighed → List Weighed → Type 0
AtMost [] [] = Unit {0}
AtMost [] (y ∷ ys) = ⊥
AtMost (x ∷ xs) [] = ⊥
AtMost (x ∷ xs) (y ∷ ys) = (x.weight ≡ y.weight) × (x.amount ≤ℤ y.amount) × AtMost xs ys

-- the laws of a blend
pub record Lawful (mean : Mean) : Type 0 where
  -- a larger amount never lowers the result
  pub larger : (xs ys : List Weighed) (d : ℕ) → 0 < d → AtMost xs ys → mean xs d ≤ℤ mean ys d
  -- c added to every amount adds c
  pub shifted : (c : ℤ) (xs : List Weighed) (d : ℕ) → 0 < d → all_weights xs ≡ d → mean (map (added c) xs) d ≡ mean xs d +ℤ c
  -- amounts that are all 0 give 0
  pub none : (xs : List Weighed) (d : ℕ) → 0 < d → All (λ x. x.amount ≡ pos 0) xs → mean xs d ≡ pos 0

-- the running sum of weight × amount
abbrev pub more_by : ℤ → ℕ → ℤ → ℤ
more_by z w a = z +ℤ pos w *ℤ a

abbrev pub floor_div : ℤ → ℕ → ℤ
floor_div z d = int_div_euclid z (pos d)

abbrev pub ceiling_div : ℤ → ℕ → ℤ
ceiling_div z d = neg_ℤ (int_div_euclid (neg_ℤ z) (pos d))

abbrev pub mean_up : Mean
mean_up = mean_of (pos 0) more_by ceiling_div

abbrev pub mean_down : Mean
mean_down = mean_of (pos 0) more_by floor_div
