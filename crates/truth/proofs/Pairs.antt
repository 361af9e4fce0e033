-- The pairs of rows that settle tries to mix: the first that passes, and what their shares come to. Assumes nothing.
use Rattle.std.proofs.Common.{◌≡◌, ℕ, zero, suc, ◌+◌, ◌-◌, ◌<◌, ◌≤◌, Bool, true, false, cond, eqb, ◌⊎◌, List, [], ◌∷◌, ◌++◌, map, length, get_or, take, set, replicate, All, sum, filter, refl, ap, ◌∙◌, subst, inl, inr, arith}
use Rattle.std.specs.List.{range_with_len}
use Rattle.std.proofs.lemmas.List.Elements.{All-nil, All-cons, All-head, All-tail, All-from_get_or}
use Rattle.std.proofs.lemmas.List.FromFn.{fill_by_all}
use Rattle.std.proofs.lemmas.List.{length-set, length-replicate, get_or-set_same, get_or-set_other, get_or-replicate}
use Rattle.std.proofs.lemmas.List.Sums.{sum_by-set, sum_by-le}
use Rattle.std.proofs.lemmas.Bool.{cond_both, cases_eq}
use Rattle.std.proofs.lemmas.Bool.Decides.{nat_tests}
use Rattle.truth.specs.Dockets.{gathered, paired, pairings}
use Rattle.truth.specs.Claims.{Pair, Of, Before, shares_of}

-- ---- the first that passes
module _ {Y : Type 0} (f : Y → Bool) where
  abbrev pub NoneIn : List Y → Type 0
  NoneIn ys = All (λ y. f y ≡ false) ys

  -- y is the first that passes
  abbrev pub First : List Y → Y → Type 0
  First [] y = ⊥
  First (x ∷ xs) y = ((f x ≡ true) × (y ≡ x)) ⊎ ((f x ≡ false) × First xs y)

  pub first_cases : (xs : List Y) (P : List Y → Type 0) → (NoneIn xs → P []) → ((y : Y) → First xs y → P (y ∷ [])) → P (take 1 (filter f xs))
  first_cases [] P none some = none (All-nil (λ (y : Y). f y ≡ false))
  first_cases (x ∷ xs) P none some =
      cond_both (f x) (x ∷ filter f xs) (filter f xs) (λ ys. P (take 1 ys))
      (λ e. some x (inl (e, refl))) (λ e. first_cases xs P (λ h. none (All-cons (λ (y : Y). f y ≡ false) x xs e h)) (λ y h. some y (inr (e, h))))

  pub first_passes : (xs : List Y) (y : Y) → First xs y → f y ≡ true
  first_passes [] y h = absurd h
  first_passes (x ∷ xs) y (inl (e, q)) = ap f q ∙ e
  first_passes (x ∷ xs) y (inr (e, h)) = first_passes xs y h

  first_append : (xs ys : List Y) (y : Y) → First (xs ++ ys) y → First xs y ⊎ (NoneIn xs × First ys y)
  first_append [] ys y h = inr (All-nil (λ (y : Y). f y ≡ false), h)
  first_append (x ∷ xs) ys y (inl h) = inl (inl h)
  first_append (x ∷ xs) ys y (inr (e, h)) = elim (first_append xs ys y h) [ inl a ↦ inl (inr (e, a)) | inr (b, c) ↦ inr (All-cons (λ (y : Y). f y ≡ false) x xs e b, c) ]

  none_append : (xs ys : List Y) → NoneIn (xs ++ ys) → NoneIn xs × NoneIn ys
  none_append [] ys h = (All-nil (λ (y : Y). f y ≡ false), h)
  none_append (x ∷ xs) ys h =
      let r = none_append xs ys (All-tail (λ (y : Y). f y ≡ false) x (xs ++ ys) h) in
      (All-cons (λ (y : Y). f y ≡ false) x xs (All-head (λ (y : Y). f y ≡ false) x (xs ++ ys) h) r.0, r.1)

  -- in lists that are gathered over numbers from c on
  module _ (g : ℕ → List Y) where
    first_gathered : (m c : ℕ) (y : Y) → First (gathered g (range_with_len c m)) y →
        (k : ℕ) × (c ≤ k) × (k < c + m) × First (g k) y × ((j : ℕ) → c ≤ j → j < k → NoneIn (g j))
    first_gathered zero c y h = absurd h
    first_gathered (suc m) c y h =
        elim (first_append (g c) (gathered g (range_with_len (c + 1) m)) y h) [
          | inl a ↦ (c, omega arith, omega arith, a, (λ j l r. absurd (omega arith)))
          | inr (b, r) ↦ (let (k, lo, hi, here, none) = first_gathered m (c + 1) y r in
              (k, omega arith, omega arith, here, (λ j l u. elim (cases_eq c j) [ inl e ↦ subst (λ i. NoneIn (g i)) e b | inr n ↦ none j (omega arith) u ])))
        ]

    none_gathered : (m c : ℕ) → NoneIn (gathered g (range_with_len c m)) → (k : ℕ) → c ≤ k → k < c + m → NoneIn (g k)
    none_gathered zero c h k l u = absurd (omega arith)
    none_gathered (suc m) c h k l u =
        let r = none_append (g c) (gathered g (range_with_len (c + 1) m)) h in
        elim (cases_eq c k) [ inl e ↦ subst (λ i. NoneIn (g i)) e r.0 | inr n ↦ none_gathered m (c + 1) r.1 k (omega arith) (omega arith) ]

-- ---- by rising first row, then second row, then share
map_gathered : {X Y : Type 0} (h : X → Y) (xs : List X) → map h xs ≡ gathered (λ x. h x ∷ []) xs
map_gathered h [] = refl
map_gathered h (x ∷ xs) = ap (λ ys. h x ∷ ys) (map_gathered h xs)

module _ (n : ℕ) where
  abbrev by_share : ℕ → ℕ → ℕ → List (List ℕ)
  by_share r s a = paired n r s a ∷ []

  abbrev by_second : ℕ → ℕ → List (List ℕ)
  by_second r s = gathered (by_share r s) (range_with_len 0 1001)

  abbrev by_first : ℕ → List (List ℕ)
  by_first r = gathered (by_second r) (range_with_len (suc r) (n - suc r))

  pairings_are : pairings n ≡ gathered by_first (range_with_len 0 n)
  unfolding pairings
  pairings_are i = gathered (λ r. gathered (λ s. map_gathered (paired n r s) (range_with_len 0 1001) i) (range_with_len (suc r) (n - suc r))) (range_with_len 0 n)

  module _ (f : List ℕ → Bool) where
    none_share : (r s a : ℕ) → a ≤ 1000 → NoneIn f (by_second r s) → f (paired n r s a) ≡ false
    none_share r s a l none = All-head (λ ss. f ss ≡ false) (paired n r s a) [] (none_gathered f (by_share r s) 1001 0 none a (omega arith) (omega arith))

    none_second : (r s a : ℕ) → r < s → s < n → a ≤ 1000 → NoneIn f (by_first r) → f (paired n r s a) ≡ false
    none_second r s a h l w none = none_share r s a w (none_gathered f (by_second r) (n - suc r) (suc r) none s (omega arith) (omega arith))

    pub none_pair : NoneIn f (pairings n) → (q : Pair) → Of n q → f (shares_of n q) ≡ false
    none_pair none q o =
        none_second q.first q.second q.share o.rising o.within o.small
        (none_gathered f by_first n 0 (rw pairings_are at none) q.first (omega arith) (omega (arith, o.rising, o.within)))

    pub first_pair : (ss : List ℕ) → First f (pairings n) ss → (p : Pair) × Of n p × (ss ≡ shares_of n p) × ((q : Pair) → Of n q → Before q p → f (shares_of n q) ≡ false)
    first_pair ss h =
        let (r, r0, rn, hr, nr) = first_gathered f by_first n 0 ss (rw pairings_are at h) in
        let (s, s0, sn, hs, ns) = first_gathered f (by_second r) (n - suc r) (suc r) ss hr in
        let (a, a0, an, ha, na) = first_gathered f (by_share r s) 1001 0 ss hs in (
          record { first = r; second = s; share = a },
          record { rising = omega arith; within = omega arith; small = omega arith },
          (elim ha [ inl (e, is) ↦ is | inr (e, z) ↦ absurd z ]),
          (λ q o b.
              elim b [
                | inl x ↦ none_second q.first q.second q.share o.rising o.within o.small (nr q.first (omega arith) x)
                | inr (e, inl x) ↦ ap (λ (r : ℕ). f (paired n r q.second q.share)) e ∙ none_share r q.second q.share o.small (ns q.second (omega (arith, e, o.rising)) x)
                | inr (e, inr (g, x)) ↦ (λ i. f (paired n (e i) (g i) q.share)) ∙ All-head (λ ss. f ss ≡ false) (paired n r s q.share) [] (na q.share (omega arith) x)
              ]),
        )

-- ---- a share for each row, 1000 in all
paired_is : (n r s a : ℕ) → r < s → s < n → set (set (replicate n 0) s (1000 - a)) r a ≡ paired n r s a
paired_is n r s a h l =
    fill_by_all (λ j. cond (eqb j r) a (cond (eqb j s) (1000 - a) 0)) (set (set (replicate n 0) s (1000 - a)) r a) n 0 (simp (length-set, length-replicate))
    (λ k u. grind (arith, nat_tests, get_or-set_same, get_or-set_other, get_or-replicate, length-set, length-replicate))

pub pair_whole : (n : ℕ) (p : Pair) → Of n p → (length (shares_of n p) ≡ n) × (sum (shares_of n p) ≡ 1000)
pair_whole n p o =
    let r = p.first in
    let s = p.second in
    let a = p.share in
    let none : List ℕ = replicate n 0 in
    let one = set none s (1000 - a) in
    let zero-at : (i : ℕ) → i < n → get_or none i 0 ≡ 0 = λ i l. get_or-replicate n i 0 0 l in
    let l0 : length none ≡ n = length-replicate n 0 in
    let l1 = length-set none s (1000 - a) ∙ l0 in
    let s0 = sum_by-le (λ x. x) 0 none (All-from_get_or (λ x. x ≤ 0) none 0 (λ i l. omega (arith, zero-at i (omega arith)))) in
    let s1 = sum_by-set (λ x. x) none s (1000 - a) 0 (omega (arith, o.within)) in
    let s2 = sum_by-set (λ x. x) one r a 0 (omega (arith, o.rising, o.within)) in
    let other : r ≡ s → ⊥ = λ e. omega (arith, o.rising) in
    let g0 = zero-at s o.within in
    let g1 = get_or-set_other none s r (1000 - a) 0 other ∙ zero-at r (omega (arith, o.rising, o.within)) in
    rw (← paired_is n r s a o.rising o.within) (length-set one r a ∙ l1, omega (arith, o.small))
