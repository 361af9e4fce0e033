-- What a search for the lowest number finds.
use Rattle.std.proofs.Common.{◌≡◌, ℕ, zero, suc, ◌+◌, ◌<◌, ◌≤◌, Bool, true, false, cond, Some, None, refl, ap, ◌∙◌, subst, inl, inr, arith}
use Rattle.std.proofs.lemmas.Bool.{cases_order}
use Rattle.tables.specs.Goal.{lowest}

module _ (p : ℕ → Bool) where
  -- what is found passes, and nothing below it does
  pub record Lowest (k n s : ℕ) : Type 0 where
    pub passes : p s ≡ true
    pub low : k ≤ s
    pub high : s < k + n
    pub others : (j : ℕ) → k ≤ j → j < s → p j ≡ false

  found_at : (n k s : ℕ) (b : Bool) → p k ≡ b → cond b (Some k) (lowest p (k + 1) n) ≡ Some s → (lowest p (k + 1) n ≡ Some s → Lowest (k + 1) n s) → Lowest k (suc n) s
  found_at n k s true e f h =
      let z : k ≡ s = cc in
      record { passes = subst (λ j. p j ≡ true) z e; low = omega arith; high = omega arith; others = λ j a b. absurd (omega arith) }
  found_at n k s false e f h =
      let r = h f in
      let low = r.low in
      let high = r.high in
      record {
        passes = r.passes;
        low = omega arith;
        high = omega arith;
        others = λ j a b. elim (cases_order j k) [ inl q ↦ ap p q ∙ e | inr q ↦ elim q [ inl l ↦ absurd (omega arith) | inr l ↦ r.others j (omega arith) b ] ];
      }

  pub lowest_found : (n k s : ℕ) → lowest p k n ≡ Some s → Lowest k n s
  unfolding lowest
  lowest_found zero k s e = let z : ◌≡◌ {A = ℕ} 0 1 = cc in absurd (omega arith)
  lowest_found (suc n) k s e = found_at n k s (p k) refl e (lowest_found n (k + 1) s)

  none_at : (n k : ℕ) (b : Bool) → p k ≡ b → cond b (Some k) (lowest p (k + 1) n) ≡ None → (lowest p (k + 1) n ≡ None → (j : ℕ) → k + 1 ≤ j → j < k + 1 + n → p j ≡ false) → (j : ℕ) → k ≤ j → j < k + suc n → p j ≡ false
  none_at n k true e f h j a b = let z : ◌≡◌ {A = ℕ} 0 1 = cc in absurd (omega arith)
  none_at n k false e f h j a b = elim (cases_order j k) [ inl q ↦ ap p q ∙ e | inr q ↦ elim q [ inl l ↦ absurd (omega arith) | inr l ↦ h f j (omega arith) (omega arith) ] ]

  pub lowest_none : (n k : ℕ) → lowest p k n ≡ None → (j : ℕ) → k ≤ j → j < k + n → p j ≡ false
  unfolding lowest
  lowest_none zero k e j a b = absurd (omega arith)
  lowest_none (suc n) k e j a b = none_at n k (p k) refl e (lowest_none n (k + 1)) j a b
