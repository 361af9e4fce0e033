-- Weighted sums: order, products, sums, a constant, and two sums in either order. Assumes nothing.
use Rattle.std.proofs.Common.{◌≡◌, ℕ, suc, ◌+◌, ◌<◌, List, [], ◌∷◌, map, length, get_or, ℤ, pos, ◌+ℤ◌, ◌≤ℤ◌, sym, refl, ap, ◌∙◌, arith}
use lib.IntN.{zero-*ℤ}
use borrow.Author.Differences.{same_in, same_out, sum_is_lem, le_out, at_most_in}
use Rattle.plans.specs.Totals.{◌·◌, weight_sum, total}
use Rattle.plans.proofs.Ints.{scale_add, scale_sum, scale_zero, scale_swap, scale_le}

module _ {X : Type 0} where
  pub total_le : (u : ℕ → X → ℕ) (f g : ℕ → X → ℤ) (xs : List X) (d : X) → ((j : ℕ) → j < length xs → f j (get_or xs j d) ≤ℤ g j (get_or xs j d)) → total u f xs ≤ℤ total u g xs
  total_le u f g [] d h = omega (arith, at_most_in)
  total_le u f g (x ∷ xs) d h =
      let a = scale_le (u 0 x) (f 0 x) (g 0 x) (h 0 (omega arith)) in
      let r = total_le (λ j. u (suc j)) (λ j. f (suc j)) (λ j. g (suc j)) xs d (λ j l. h (suc j) (omega arith)) in
      omega (arith, at_most_in, le_out, sum_is_lem)

  pub total_eq : (u : ℕ → X → ℕ) (f g : ℕ → X → ℤ) (xs : List X) → ((j : ℕ) (x : X) → f j x ≡ g j x) → total u f xs ≡ total u g xs
  total_eq u f g xs h = ap (λ f. total u f xs) (λ i j x. h j x i)

  pub total_scale : (u : ℕ → X → ℕ) (k : ℕ) (f : ℕ → X → ℤ) (xs : List X) → k · total u f xs ≡ total u (λ j x. k · f j x) xs
  total_scale u k f [] = scale_zero k
  total_scale u k f (x ∷ xs) =
      let a = scale_add k (u 0 x · f 0 x) (total (λ j. u (suc j)) (λ j. f (suc j)) xs) in
      let e = scale_swap k (u 0 x) (f 0 x) in
      let r = total_scale (λ j. u (suc j)) k (λ j. f (suc j)) xs in
      omega (arith, same_in, same_out, sum_is_lem)

  pub total_add : (u : ℕ → X → ℕ) (f g : ℕ → X → ℤ) (xs : List X) → total u (λ j x. f j x +ℤ g j x) xs ≡ total u f xs +ℤ total u g xs
  total_add u f g [] = refl
  total_add u f g (x ∷ xs) =
      let a = scale_add (u 0 x) (f 0 x) (g 0 x) in
      let r = total_add (λ j. u (suc j)) (λ j. f (suc j)) (λ j. g (suc j)) xs in
      omega (arith, same_in, same_out, sum_is_lem)

  pub total_same : (u : ℕ → X → ℕ) (z : ℤ) (xs : List X) → total u (λ j x. z) xs ≡ weight_sum u xs · z
  total_same u z [] = sym (zero-*ℤ z)
  total_same u z (x ∷ xs) = ap (λ y. u 0 x · z +ℤ y) (total_same (λ j. u (suc j)) z xs) ∙ sym (scale_sum (u 0 x) (weight_sum (λ j. u (suc j)) xs) z)

  pub total_none : (u : ℕ → X → ℕ) (xs : List X) → total u (λ j x. pos 0) xs ≡ pos 0
  total_none u xs = total_same u (pos 0) xs ∙ scale_zero (weight_sum u xs)

module _ {X Y : Type 0} where
  pub total_map : (g : X → Y) (u : ℕ → Y → ℕ) (f : ℕ → Y → ℤ) (xs : List X) → total u f (map g xs) ≡ total (λ j x. u j (g x)) (λ j x. f j (g x)) xs
  total_map g u f [] = refl
  total_map g u f (x ∷ xs) = ap (λ z. u 0 (g x) · f 0 (g x) +ℤ z) (total_map g (λ j. u (suc j)) (λ j. f (suc j)) xs)

  pub weight_map : (g : X → Y) (u : ℕ → Y → ℕ) (xs : List X) → weight_sum u (map g xs) ≡ weight_sum (λ j x. u j (g x)) xs
  weight_map g u [] = refl
  weight_map g u (x ∷ xs) = ap (λ n. u 0 (g x) + n) (weight_map g (λ j. u (suc j)) xs)

  pub total_swap : (u : ℕ → X → ℕ) (v : ℕ → Y → ℕ) (f : ℕ → X → ℕ → Y → ℤ) (xs : List X) (ys : List Y) →
      total u (λ i x. total v (f i x) ys) xs ≡ total v (λ j y. total u (λ i x. f i x j y) xs) ys
  total_swap u v f [] ys = sym (total_none v ys)
  total_swap u v f (x ∷ xs) ys =
      let a = total_scale v (u 0 x) (f 0 x) ys in
      let r = total_swap (λ i. u (suc i)) v (λ i. f (suc i)) xs ys in
      let s = total_add v (λ j y. u 0 x · f 0 x j y) (λ j y. total (λ i. u (suc i)) (λ i z. f (suc i) z j y) xs) ys in
      omega (arith, same_in, same_out, sum_is_lem)
