-- The steps of a search for the highest. Assumes nothing.
use Rattle.std.proofs.Common.{◌≡◌, ℕ, zero, suc, ◌+◌, ◌≤◌, max, true, false, cond, ℤ, sym, refl, ap, ◌∙◌, add-one, arith}
use lib.Signed.{lt_z}
use Rattle.plans.specs.Sweep.{best}

best_one : (f : ℕ → ℤ) → best f 1 ≡ 0
best_one f = elim (lt_z (f 0) (f 0)) as (λ v. ◌≡◌ {A = ℕ} (cond v 0 0) 0) [ true ↦ refl | false ↦ refl ]

pub best_end : (f : ℕ → ℤ) (n k : ℕ) → 1 ≤ k → n ≤ k → k ≤ max 1 n → best f k ≡ best f n
best_end f zero k p q r = let e : k ≡ 1 = omega arith in ap (best f) e ∙ best_one f
best_end f (suc n) k p q r = let e : k ≡ suc n = omega arith in ap (best f) e

best_taken : (f : ℕ → ℤ) (k : ℕ) → lt_z (f (best f k)) (f k) ≡ true → best f (k + 1) ≡ k
best_taken f k e = rw (add-one, e)

best_left : (f : ℕ → ℤ) (k : ℕ) → lt_z (f (best f k)) (f k) ≡ false → best f (k + 1) ≡ best f k
best_left f k e = rw (add-one, e)

-- a turn at k: x is the highest so far, at i, and y is f k; then the highest is z, at j
module _ (f : ℕ → ℤ) (k i j : ℕ) (x y z : ℤ) (was : i ≡ best f k) (at : x ≡ f i) (new : y ≡ f k) where
  pub turn_taken : lt_z x y ≡ true → j ≡ k → z ≡ y → (j ≡ best f (k + 1)) × (z ≡ f j)
  turn_taken h e d = let t : lt_z (f (best f k)) (f k) ≡ true = cc in (e ∙ sym (best_taken f k t), cc)

  pub turn_left : lt_z x y ≡ false → j ≡ i → z ≡ x → (j ≡ best f (k + 1)) × (z ≡ f j)
  turn_left h e d = let t : lt_z (f (best f k)) (f k) ≡ false = cc in (e ∙ was ∙ sym (best_left f k t), cc)
