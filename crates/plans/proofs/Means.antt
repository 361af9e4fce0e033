-- The two means are the least above and the greatest below, and lawful. Assumes nothing.
use Rattle.std.proofs.Common.{◌≡◌, ℕ, ◌/◌, ◌<◌, List, [], ◌∷◌, map, ℤ, pos, negsuc, ◌+ℤ◌, neg_ℤ, ◌≤ℤ◌, ◌<ℤ◌, All, refl, ap, ◌∙◌, arith}
use native.Mathlib.Nat.{mul-div-le, lt-mul-div-succ, zero-div}
use borrow.Author.Differences.{ints, same_in, same_out, sum_is_lem, neg_is, product_is, le_out, lt_out, at_most_in, below_in}
use Rattle.std.proofs.lemmas.List.Elements.{All-head, All-tail}
use Rattle.plans.specs.Totals.{◌·◌}
use Rattle.plans.specs.Blends.{Weighed, Lawful, AtMost, running, more_by, all_weights, added, floor_div, ceiling_div}
use Rattle.plans.specs.Claims.{sum_of, MeansLawful, MeanUpLeast, MeanDownGreatest}
use Rattle.plans.proofs.Ints.{scale_add, scale_neg, scale_sum, scale_zero, scale_le, cancel_lt}

-- ---- the two divisions
floor_below : (z : ℤ) (d : ℕ) → 0 < d → d · floor_div z d ≤ℤ z
floor_below (pos n) d h = let a = mul-div-le n d in omega (arith, at_most_in, product_is)
floor_below (negsuc n) d h = let a = lt-mul-div-succ n h in omega (arith, at_most_in, product_is)

floor_near : (z : ℤ) (d : ℕ) → 0 < d → z <ℤ d · (floor_div z d +ℤ pos 1)
floor_near (pos n) d h = let a = lt-mul-div-succ n h in omega (arith, below_in, sum_is_lem, product_is)
floor_near (negsuc n) d h = let a = mul-div-le n d in let e = scale_add d (negsuc (n / d)) (pos 1) in omega (arith, below_in, same_out, sum_is_lem, product_is)

floor_greatest : (z : ℤ) (d : ℕ) (q : ℤ) → 0 < d → d · q ≤ℤ z → q ≤ℤ floor_div z d
floor_greatest z d q h l =
    let n = floor_near z d h in
    let c = cancel_lt d q (floor_div z d +ℤ pos 1) (omega (arith, below_in, le_out, lt_out)) in
    omega (arith, ints)

ceiling_above : (z : ℤ) (d : ℕ) → 0 < d → z ≤ℤ d · ceiling_div z d
ceiling_above z d h =
    let a = floor_below (neg_ℤ z) d h in
    let e = scale_neg d (floor_div (neg_ℤ z) d) in
    omega (arith, at_most_in, le_out, same_out, neg_is)

ceiling_least : (z : ℤ) (d : ℕ) (q : ℤ) → 0 < d → z ≤ℤ d · q → ceiling_div z d ≤ℤ q
ceiling_least z d q h l =
    let e = scale_neg d q in
    let g = floor_greatest (neg_ℤ z) d (neg_ℤ q) h (omega (arith, at_most_in, le_out, same_out, neg_is)) in
    omega (arith, at_most_in, le_out, neg_is)

-- ---- the running sum
running_sum : (z : ℤ) (xs : List Weighed) → running more_by z xs ≡ z +ℤ sum_of xs
running_sum z [] = omega (arith, same_in, sum_is_lem)
running_sum z (x ∷ xs) = running_sum (z +ℤ x.weight · x.amount) xs ∙ omega (arith, same_in, sum_is_lem)

from_zero : (xs : List Weighed) → running more_by (pos 0) xs ≡ sum_of xs
from_zero xs = running_sum (pos 0) xs ∙ omega (arith, same_in, sum_is_lem)

sum_le : (xs ys : List Weighed) → AtMost xs ys → sum_of xs ≤ℤ sum_of ys
sum_le [] [] h = omega (arith, at_most_in)
sum_le [] (y ∷ ys) h = absurd h
sum_le (x ∷ xs) [] h = absurd h
sum_le (x ∷ xs) (y ∷ ys) h =
    let e = ap (λ (n : ℕ). n · x.amount) h.0 in
    let a = scale_le y.weight x.amount y.amount h.1 in
    let r = sum_le xs ys h.2 in
    omega (arith, at_most_in, le_out, same_out, sum_is_lem)

sum_added : (c : ℤ) (xs : List Weighed) → sum_of (map (added c) xs) ≡ sum_of xs +ℤ all_weights xs · c
sum_added c [] = omega (arith, same_in, sum_is_lem, product_is)
sum_added c (x ∷ xs) =
    let a = scale_add x.weight x.amount c in
    let b = scale_sum x.weight (all_weights xs) c in
    let r = sum_added c xs in
    omega (arith, same_in, same_out, sum_is_lem)

sum_none : (xs : List Weighed) → All (λ x. x.amount ≡ pos 0) xs → sum_of xs ≡ pos 0
sum_none [] h = refl
sum_none (x ∷ xs) h =
    let a = ap (λ z. x.weight · z) (All-head (λ (x : Weighed). x.amount ≡ pos 0) x xs h) ∙ scale_zero x.weight in
    let r = sum_none xs (All-tail (λ (x : Weighed). x.amount ≡ pos 0) x xs h) in
    omega (arith, same_in, same_out, sum_is_lem)

-- ---- the laws, of a division that keeps order, shifts and 0
module _ (f : ℤ → ℕ → ℤ)
    (larger : (y z : ℤ) (d : ℕ) → 0 < d → y ≤ℤ z → f y d ≤ℤ f z d)
    (shifted : (z c : ℤ) (d : ℕ) → 0 < d → f (z +ℤ d · c) d ≡ f z d +ℤ c)
    (none : (d : ℕ) → f (pos 0) d ≡ pos 0) where
  lawful_by : Lawful (λ xs d. f (running more_by (pos 0) xs) d)
  lawful_by = record {
    larger = λ xs ys d h l. rw (from_zero xs, from_zero ys) (larger (sum_of xs) (sum_of ys) d h (sum_le xs ys l));
    shifted = λ c xs d h e. rw (from_zero xs, from_zero (map (added c) xs)) (ap (λ z. f z d) (sum_added c xs ∙ ap (λ (n : ℕ). sum_of xs +ℤ n · c) e) ∙ shifted (sum_of xs) c d h);
    none = λ xs d h a. ap (λ z. f z d) (from_zero xs ∙ sum_none xs a) ∙ none d;
  }

floor_larger : (y z : ℤ) (d : ℕ) → 0 < d → y ≤ℤ z → floor_div y d ≤ℤ floor_div z d
floor_larger y z d h l = let b = floor_below y d h in floor_greatest z d (floor_div y d) h (omega (arith, at_most_in, le_out))

floor_shifted : (z c : ℤ) (d : ℕ) → 0 < d → floor_div (z +ℤ d · c) d ≡ floor_div z d +ℤ c
floor_shifted z c d h =
    let y = z +ℤ d · c in
    let b = floor_below z d h in
    let a = scale_add d (floor_div z d) c in
    let low = floor_greatest y d (floor_div z d +ℤ c) h (omega (arith, at_most_in, le_out, same_out, sum_is_lem)) in
    let b2 = floor_below y d h in
    let a2 = scale_add d (floor_div y d) (neg_ℤ c) in
    let n = scale_neg d c in
    let high = floor_greatest z d (floor_div y d +ℤ neg_ℤ c) h (omega (arith, at_most_in, le_out, same_out, sum_is_lem, neg_is)) in
    omega (arith, same_in, le_out, sum_is_lem, neg_is)

ceiling_larger : (y z : ℤ) (d : ℕ) → 0 < d → y ≤ℤ z → ceiling_div y d ≤ℤ ceiling_div z d
ceiling_larger y z d h l = let m = floor_larger (neg_ℤ z) (neg_ℤ y) d h (omega (arith, ints)) in omega (arith, ints)

ceiling_shifted : (z c : ℤ) (d : ℕ) → 0 < d → ceiling_div (z +ℤ d · c) d ≡ ceiling_div z d +ℤ c
ceiling_shifted z c d h =
    let n = scale_neg d c in
    let e : neg_ℤ (z +ℤ d · c) ≡ neg_ℤ z +ℤ d · neg_ℤ c = omega (arith, same_in, same_out, sum_is_lem, neg_is) in
    let s = ap (λ y. floor_div y d) e ∙ floor_shifted (neg_ℤ z) (neg_ℤ c) d h in
    omega (arith, same_in, same_out, sum_is_lem, neg_is)

pub means_lawful : MeansLawful
means_lawful =
    (lawful_by ceiling_div ceiling_larger ceiling_shifted (λ d. ap (λ (n : ℕ). neg_ℤ (pos n)) (zero-div d)), lawful_by floor_div floor_larger floor_shifted (λ d. ap pos (zero-div d)))

pub mean_up_least : MeanUpLeast
mean_up_least xs d h = rw (from_zero xs) (ceiling_above (sum_of xs) d h, λ q l. ceiling_least (sum_of xs) d q h l)

pub mean_down_greatest : MeanDownGreatest
mean_down_greatest xs d h = rw (from_zero xs) (floor_below (sum_of xs) d h, λ q l. floor_greatest (sum_of xs) d q h l)
