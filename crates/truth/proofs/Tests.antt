-- What tests decide: of integers, of a list from its front on, and of each element by its number. Assumes nothing.
use Rattle.std.proofs.Common.{◌≡◌, ℕ, zero, suc, ◌+◌, ◌<◌, Bool, true, false, ltb, ◌↔◌, List, [], ◌∷◌, length, get_or, ℤ, ◌≤ℤ◌, ◌<ℤ◌, Decides, All, refl, inl, inr, arith}
use borrow.Author.Differences.{ints}
use lib.Signed.{le_z, lt_z}
use Rattle.std.specs.List.{prefix_len}
use Rattle.std.proofs.lemmas.List.Elements.{All-get_or, All-from_get_or}
use Rattle.std.proofs.lemmas.Bool.{cond_both, both_ways, ltb-false, le-ltb, cases_lt, cases_order}
use Rattle.std.proofs.lemmas.Bool.Decides.{Decides-and, Decides-like}
use Rattle.truth.specs.Dockets.{holds}

pub decides_leZ : (a b : ℤ) → Decides (le_z a b) (a ≤ℤ b)
decides_leZ a b = ((λ e. omega (arith, ints)), (λ l. grind (arith, ints)))

pub decides_ltZ : (a b : ℤ) → Decides (lt_z a b) (a <ℤ b)
decides_ltZ a b = ((λ e. omega (arith, ints)), (λ l. grind (arith, ints)))

module _ {X : Type 0} (p : X → Bool) where
  pub leading_passes : (xs : List X) (d : X) (i : ℕ) → i < prefix_len p xs → p (get_or xs i d) ≡ true
  leading_passes [] d i l = absurd (omega arith)
  leading_passes (x ∷ xs) d zero l = cond_both (p x) (1 + prefix_len p xs) 0 (λ n. 0 < n → p x ≡ true) (λ e l. e) (λ e l. absurd (omega arith)) l
  leading_passes (x ∷ xs) d (suc i) l =
      cond_both (p x) (1 + prefix_len p xs) 0 (λ n. suc i < n → p (get_or xs i d) ≡ true) (λ e l. leading_passes xs d i (omega arith)) (λ e l. absurd (omega arith)) l

  pub leading_stops : (xs : List X) (d : X) → prefix_len p xs < length xs → p (get_or xs (prefix_len p xs) d) ≡ false
  leading_stops [] d l = absurd (omega arith)
  leading_stops (x ∷ xs) d l =
      let next : 1 + prefix_len p xs ≡ suc (prefix_len p xs) = omega arith in
      cond_both (p x) (1 + prefix_len p xs) 0 (λ n. n < suc (length xs) → p (get_or (x ∷ xs) n d) ≡ false) (λ e l. rw next (leading_stops xs d (omega arith))) (λ e l. e) l

  -- whether the test holds of each
  pub leading_all : (P : X → Type 0) → ((x : X) → Decides (p x) (P x)) → (xs : List X) (d : X) → (ltb (prefix_len p xs) (length xs) ≡ false) ↔ All P xs
  leading_all P each xs d = (
    (λ e. All-from_get_or P xs d (λ i l. (each (get_or xs i d)).0 (leading_passes xs d i (omega (arith, ltb-false (prefix_len p xs) (length xs) e))))),
    (λ h. elim (cases_lt (prefix_len p xs) (length xs)) [
      | inl l ↦ absurd (both_ways _ (leading_stops xs d l) ((each (get_or xs (prefix_len p xs) d)).1 (All-get_or P xs (prefix_len p xs) d l h)))
      | inr g ↦ le-ltb (prefix_len p xs) (length xs) g
    ]),
  )

  pub leading_is : (xs : List X) (d : X) (i : ℕ) → i < length xs → p (get_or xs i d) ≡ false → ((j : ℕ) → j < i → p (get_or xs j d) ≡ true) → prefix_len p xs ≡ i
  leading_is xs d i l fails passes =
      elim (cases_order (prefix_len p xs) i) [
        | inl e ↦ e
        | inr (inl a) ↦ absurd (both_ways _ (leading_stops xs d (omega arith)) (passes (prefix_len p xs) a))
        | inr (inr b) ↦ absurd (both_ways _ fails (leading_passes xs d i b))
      ]

pub decides_holds : {X : Type 0} (p : ℕ → X → Bool) (P : ℕ → X → Type 0) → ((i : ℕ) (x : X) → Decides (p i x) (P i x)) →
    (xs : List X) (d : X) → Decides (holds p xs) ((i : ℕ) → i < length xs → P i (get_or xs i d))
decides_holds p P each [] d = ((λ e i l. absurd (omega arith)), (λ h. refl))
decides_holds p P each (x ∷ xs) d =
    Decides-like (holds p (x ∷ xs)) at (λ h. (h 0 (omega arith), λ i l. h (suc i) (omega arith)))
    (Decides-and (p 0 x) (holds (λ j. p (suc j)) xs) (each 0 x) (decides_holds (λ j. p (suc j)) (λ j. P (suc j)) (λ j. each (suc j)) xs d))
  where
    at : P 0 x × ((i : ℕ) → i < length xs → P (suc i) (get_or xs i d)) → (i : ℕ) → i < suc (length xs) → P i (get_or (x ∷ xs) i d)
    at h zero l = h.0
    at h (suc i) l = h.1 i (omega arith)
