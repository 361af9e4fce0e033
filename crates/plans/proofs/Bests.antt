-- The best of some numbers. Assumes nothing.
use Rattle.std.proofs.Common.{◌≡◌, ℕ, zero, suc, ◌<◌, ◌≤◌, Bool, true, false, cond, ℤ, ◌≤ℤ◌, ◌<ℤ◌, refl, arith, below_more}
use lib.Signed.{lt_z}
use borrow.Author.Differences.{ints}
use Rattle.plans.specs.Sweep.{best}
use Rattle.plans.specs.Claims.{BestFirst}

-- n more beside the best so far, b
more : (f : ℕ → ℤ) (n b : ℕ) → b ≤ n → ((k : ℕ) → k < n → f k ≤ℤ f b) → ((k : ℕ) → k < b → f k <ℤ f b) → (v : Bool) → lt_z (f b) (f n) ≡ v →
    (cond v n b < suc n) × ((k : ℕ) → k < suc n → f k ≤ℤ f (cond v n b)) × ((k : ℕ) → k < cond v n b → f k <ℤ f (cond v n b))
more f n b l most first true e =
    (omega arith, λ k m. below_more (λ k. f k ≤ℤ f n) n (λ k l. let u = most k l in omega (arith, ints)) (omega (arith, ints)) k (omega arith), λ k l. let u = most k l in omega (arith, ints))
more f n b l most first false e = (omega arith, λ k m. below_more (λ k. f k ≤ℤ f b) n most (omega (arith, ints)) k (omega arith), first)

pub best_first : BestFirst
best_first f zero h = absurd (omega arith)
best_first f (suc zero) h = more f 0 0 (omega arith) (λ k l. absurd (omega arith)) (λ k l. absurd (omega arith)) (lt_z (f 0) (f 0)) refl
best_first f (suc (suc n)) h =
    let r = best_first f (suc n) (omega arith) in
    more f (suc n) (best f (suc n)) (omega (arith, r.0)) r.1 r.2 (lt_z (f (best f (suc n))) (f (suc n))) refl
