-- Mixtures of two rows. Assumes nothing.
use Rattle.std.proofs.Common.{◌≡◌, ℕ, zero, suc, ◌+◌, ◌-◌, ◌<◌, ◌≤◌, Bool, true, false, cond, eqb, List, [], ◌∷◌, ◌++◌, map, length, get_or, take, set, replicate, ℤ, pos, ◌+ℤ◌, Some, None, sum, Option, sym, refl, ap, ◌∙◌, subst, inl, inr, arith, add-one, length-take}
use borrow.Author.Differences.{same_in, same_out, sum_is_lem}
use lib.IntN.{zero-*ℤ}
use denote.Param.Members.{Mut, Called}
use Rattle.std.specs.List.{find, range_with_len}
use Rattle.std.specs.Bool.{IsTrue}
use Rattle.std.specs.Option.{MatchOption, IfSome, IsSomeAnd, option_map}
use Rattle.std.specs.declared.ops.Range.{Range}
use Rattle.std.specs.Iterator.Runs.{Run, ItemsCountUp, SomeRun, AllItemsGive, IsFirstToGive, CallKeepsClosure}
use Rattle.std.proofs.iter.Yields.{nat_range_steps}
use Rattle.std.specs.Range.{range_inclusive_start, range_inclusive_end, range_inclusive_exhausted}
use Rattle.std.specs.declared.ops.RangeInclusive.{RangeInclusive}
use Rattle.std.proofs.iter.runs.Sources.{range_runs, nat_range_inclusive_steps, inclusive_listed}
use Rattle.std.proofs.lemmas.List.{take_all, length-set, length-replicate, length-take-le, get_or_past, get_or-take, get_or-set_same, get_or-set_other, get_or-replicate}
use Rattle.std.proofs.lemmas.Bool.{cases_lt}
use Rattle.std.proofs.lemmas.Bool.Decides.{nat_tests}
use Rattle.std.proofs.lemmas.List.FromFn.{fill_by_all, length-map-range_with_len, get_or-map-range_with_len}
use Rattle.plans.specs.Totals.{◌·◌, total}
use Rattle.truth.specs.Dockets.{Priced, no_priced, part_sum, gathered, paired, pairings}
use Rattle.truth.proofs.Pairs.{pair_whole}
use Rattle.holdings.proofs.Rows.{total_zero}
use Rattle.holdings.specs.Pairs.{shares_from, partner_shares}

-- an array of 0s in which two places are set
pub pair_is : (m n r s a : ℕ) → r < s → s < n → n ≤ m → take m (take (n - 0) (set (set (replicate m 0) s (1000 - a)) r a)) ≡ paired n r s a
pair_is m n r s a rising inside few =
    let both = set (set (replicate m 0) s (1000 - a)) r a in
    let l : length both ≡ m = simp (length-set, length-replicate) in
    let z : n - 0 ≡ n = omega arith in
    ap (λ j. take m (take j both)) z
    ∙ take_all m (take n both) (omega (arith, length-take n both))
    ∙ fill_by_all (λ j. cond (eqb j r) a (cond (eqb j s) (1000 - a) 0)) (take n both) n 0 (length-take-le n both (omega arith))
    (λ k h. get_or-take n both k 0 h ∙ grind (arith, nat_tests, get_or-set_same, get_or-set_other, get_or-replicate, length-set, length-replicate))

pub sum_paired : (n r s a : ℕ) → r < s → s < n → a ≤ 1000 → sum (paired n r s a) ≡ 1000
sum_paired n r s a rising inside small = (pair_whole n (record { first = r; second = s; share = a }) (record { rising = rising; within = inside; small = small })).1

-- a sum in which only one or two of the weights are not 0
module _ {X : Type 0} where
  total_one : (u : ℕ → ℕ) (f : ℕ → X → ℤ) (xs : List X) (s : ℕ) (d : X) → s < length xs → ((j : ℕ) → ¬ (j ≡ s) → u j ≡ 0) →
      total (λ j x. u j) f xs ≡ u s · f s (get_or xs s d)
  total_one u f [] s d l z = absurd (omega arith)
  total_one u f (x ∷ xs) zero d l z =
      let r = total_zero (λ j. u (suc j)) (λ j. f (suc j)) xs (λ j. z (suc j) (λ e. omega arith)) in
      omega (arith, same_in, same_out, sum_is_lem)
  total_one u f (x ∷ xs) (suc s) d l z =
      let a : u 0 · f 0 x ≡ pos 0 = ap (λ n. n · f 0 x) (z 0 (λ e. omega arith)) ∙ zero-*ℤ (f 0 x) in
      let r = total_one (λ j. u (suc j)) (λ j. f (suc j)) xs s d (omega arith) (λ j n. z (suc j) (λ e. n (omega arith))) in
      omega (arith, same_in, same_out, sum_is_lem)

  total_two : (u : ℕ → ℕ) (f : ℕ → X → ℤ) (xs : List X) (r s : ℕ) (d : X) → r < s → s < length xs → ((j : ℕ) → ¬ (j ≡ r) → ¬ (j ≡ s) → u j ≡ 0) →
      total (λ j x. u j) f xs ≡ u r · f r (get_or xs r d) +ℤ u s · f s (get_or xs s d)
  total_two u f [] r s d h l z = absurd (omega arith)
  total_two u f (x ∷ xs) r zero d h l z = absurd (omega arith)
  total_two u f (x ∷ xs) zero (suc s) d h l z =
      let o = total_one (λ j. u (suc j)) (λ j. f (suc j)) xs s d (omega arith) (λ j n. z (suc j) (λ e. omega arith) (λ e. n (omega arith))) in
      omega (arith, same_in, same_out, sum_is_lem)
  total_two u f (x ∷ xs) (suc r) (suc s) d h l z =
      let a : u 0 · f 0 x ≡ pos 0 = ap (λ n. n · f 0 x) (z 0 (λ e. omega arith) (λ e. omega arith)) ∙ zero-*ℤ (f 0 x) in
      let o = total_two (λ j. u (suc j)) (λ j. f (suc j)) xs r s d (omega arith) (omega arith) (λ j m n. z (suc j) (λ e. m (omega arith)) (λ e. n (omega arith))) in
      omega (arith, same_in, same_out, sum_is_lem)

-- the part of a pair is that of its two rows
module _ (n r s a : ℕ) (rising : r < s) (inside : s < n) where
  share_at : (j : ℕ) → j < n → get_or (paired n r s a) j 0 ≡ cond (eqb j r) a (cond (eqb j s) (1000 - a) 0)
  share_at j h = get_or-map-range_with_len (λ k. cond (eqb k r) a (cond (eqb k s) (1000 - a) 0)) 0 n j j 0 h (omega arith)

  share_none : (j : ℕ) → ¬ (j ≡ r) → ¬ (j ≡ s) → get_or (paired n r s a) j 0 ≡ 0
  share_none j p q =
      elim (cases_lt j n) [
        | inl h ↦ share_at j h ∙ grind (arith, nat_tests)
        | inr h ↦ get_or_past (paired n r s a) j 0 (omega (arith, length-map-range_with_len (λ k. cond (eqb k r) a (cond (eqb k s) (1000 - a) 0)) 0 n))
      ]

  pub part_sum_paired : (rs : List Priced) (i : ℕ) → length rs ≡ n →
      part_sum (paired n r s a) rs i ≡ a · get_or (get_or rs r no_priced).point i (pos 0) +ℤ (1000 - a) · get_or (get_or rs s no_priced).point i (pos 0)
  part_sum_paired rs i l =
      let x = get_or (get_or rs r no_priced).point i (pos 0) in
      let y = get_or (get_or rs s no_priced).point i (pos 0) in
      let p : get_or (paired n r s a) r 0 ≡ a = share_at r (omega arith) ∙ grind (arith, nat_tests) in
      let q : get_or (paired n r s a) s 0 ≡ 1000 - a = share_at s inside ∙ grind (arith, nat_tests) in
      total_two (λ j. get_or (paired n r s a) j 0) (λ j (v : Priced). get_or v.point i (pos 0)) rs r s no_priced rising (omega arith) share_none
      ∙ ap (λ k. k · x +ℤ get_or (paired n r s a) s 0 · y) p
      ∙ ap (λ k. a · x +ℤ k · y) q

pub partner_shares_are : (n r : ℕ) → gathered (λ s. shares_from n r s 0) (range_with_len (r + 1) (n - (r + 1))) ≡ partner_shares n r
unfolding partner_shares
partner_shares_are n r = ap (λ k. gathered (λ s. shares_from n r s 0) (range_with_len k (n - k))) (add-one r)

pub pairings_are : (n m : ℕ) → m ≡ n → gathered (partner_shares n) (range_with_len 0 (n - 0)) ≡ pairings m
unfolding pairings partner_shares shares_from
pairings_are n m e = let z : n - 0 ≡ n = omega arith in ap (λ k. gathered (partner_shares n) (range_with_len 0 k)) z ∙ ap pairings (sym e)

-- the first that passes
abbrev or_else : {X : Type 0} → Option X → Option X → Option X
or_else None y = y
or_else (Some x) y = Some x

first_append : {X : Type 0} (p : X → Bool) (xs ys : List X) → find p (xs ++ ys) ≡ or_else (find p xs) (find p ys)
first_append p [] ys = refl
first_append p (x ∷ xs) ys = elim (p x) as (λ b. cond b (Some x) (find p (xs ++ ys)) ≡ or_else (cond b (Some x) (find p xs)) (find p ys)) [ true ↦ refl | false ↦ first_append p xs ys ]

module _ {Y : Type 0} (p : Y → Bool) (f : ℕ → List Y) where
  none_gathered : (n a : ℕ) → ((k : ℕ) → k < n → None ≡ find p (f (a + k))) → None ≡ find p (gathered f (range_with_len a n))
  none_gathered zero a none = refl
  none_gathered (suc n) a none =
      let z : a + 0 ≡ a = omega arith in
      let here : None ≡ find p (f a) = none 0 (omega arith) ∙ ap (λ k. find p (f k)) z in
      none_gathered n (a + 1) (λ k l. let e : a + suc k ≡ a + 1 + k = omega arith in none (suc k) (omega arith) ∙ ap (λ j. find p (f j)) e)
      ∙ ap (λ o. or_else o (find p (gathered f (range_with_len (a + 1) n)))) here
      ∙ sym (first_append p (f a) (gathered f (range_with_len (a + 1) n)))

  first_gathered : (n a i : ℕ) (y : Y) → i < n → Some y ≡ find p (f (a + i)) → ((k : ℕ) → k < i → None ≡ find p (f (a + k))) →
      Some y ≡ find p (gathered f (range_with_len a n))
  first_gathered zero a i y l hit none = absurd (omega arith)
  first_gathered (suc n) a zero y l hit none =
      let z : a + 0 ≡ a = omega arith in
      ap (λ o. or_else o (find p (gathered f (range_with_len (a + 1) n)))) (hit ∙ ap (λ k. find p (f k)) z)
      ∙ sym (first_append p (f a) (gathered f (range_with_len (a + 1) n)))
  first_gathered (suc n) a (suc i) y l hit none =
      let z : a + 0 ≡ a = omega arith in
      let here : None ≡ find p (f a) = none 0 (omega arith) ∙ ap (λ k. find p (f k)) z in
      let next : a + suc i ≡ a + 1 + i = omega arith in
      first_gathered n (a + 1) i y (omega arith) (hit ∙ ap (λ j. find p (f j)) next)
      (λ k m. let e : a + suc k ≡ a + 1 + k = omega arith in none (suc k) (omega arith) ∙ ap (λ j. find p (f j)) e)
      ∙ ap (λ o. or_else o (find p (gathered f (range_with_len (a + 1) n)))) here
      ∙ sym (first_append p (f a) (gathered f (range_with_len (a + 1) n)))

  read : (o : Option ℕ) (x : ℕ) → option_map (λ y. y) o ≡ Some x → o ≡ Some x
  read None x e = cc
  read (Some y) x e = e

  -- what `find_map` gives over numbers that count up from a to b, where each call gives the first of its list
  module _ {F B : Type 0} (view : B → Y) {g : Mut F (ℕ × Unit {0}) (Option B)} {s : F} where
    found_counted : {S : Type 0} {steps : S → Option ℕ → S → Type 0} {start : S} (a b : ℕ) → ((q : Run steps) → q.from ≡ start → ItemsCountUp q a b) → (r : Option B) →
        SomeRun steps start (λ q. MatchOption r (IsTrue q.whole × AllItemsGive q g s None) (λ y. (i : ℕ) × (i < q.len) × (q.len ≡ i + 1) × IsFirstToGive q g s (Some y) None i)) →
        CallKeepsClosure g s → ((x : ℕ) (o : Option B) → Called g s (x, tt) o s → option_map view o ≡ find p (f x)) →
        option_map view r ≡ find p (gathered f (range_with_len a (b - a)))
    found_counted a b counts None runs keeps gives =
        let (q, start, m) = runs in
        let up = counts q start in
        let e : q.len ≡ b - a = up.1 m.0 in
        none_gathered (b - a) a (λ k l.
        let at : q.at k ≡ Some (a + k) = read (q.at k) _ (up.3 k (omega arith)) in
        gives (a + k) None (subst (λ o. IfSome o (λ x. Called g s (x, tt) None s)) at (m.1 keeps k)))
    found_counted a b counts (Some y) runs keeps gives =
        let (q, start, m) = runs in
        let up = counts q start in
        let (i, l, _, first) = m in
        let h = first keeps in
        let e : q.len ≤ b - a = up.0 in
        let at : (k : ℕ) → k < q.len → q.at k ≡ Some (a + k) = λ k below. read (q.at k) _ (up.3 k below) in
        first_gathered (b - a) a i (view y) (omega arith)
        (gives (a + i) (Some y) (subst (λ o. IsSomeAnd o (λ x. Called g s (x, tt) (Some y) s)) (at i l) h.0))
        (λ k below. gives (a + k) None (subst (λ o. IsSomeAnd o (λ x. Called g s (x, tt) None s)) (at k (omega arith)) (h.1 k below)))

    -- over `a..b`
    pub found_over : {a b : ℕ} (r : Option B) →
        SomeRun nat_range_steps (record { start = a; end = b }) (λ q. MatchOption r (IsTrue q.whole × AllItemsGive q g s None) (λ y. (i : ℕ) × (i < q.len) × (q.len ≡ i + 1) × IsFirstToGive q g s (Some y) None i)) →
        CallKeepsClosure g s → ((x : ℕ) (o : Option B) → Called g s (x, tt) o s → option_map view o ≡ find p (f x)) →
        option_map view r ≡ find p (gathered f (range_with_len a (b - a)))
    found_over {a = a} {b = b} = found_counted a b (λ q e. subst (λ (r : Range ℕ). ItemsCountUp q r.start r.end) e (range_runs q q.seen))

    -- over `a..=b`
    pub found_through : {a b : ℕ} {x : RangeInclusive ℕ} → range_inclusive_start x ≡ a → range_inclusive_end x ≡ b → range_inclusive_exhausted x ≡ false → (r : Option B) →
        SomeRun nat_range_inclusive_steps x (λ q. MatchOption r (IsTrue q.whole × AllItemsGive q g s None) (λ y. (i : ℕ) × (i < q.len) × (q.len ≡ i + 1) × IsFirstToGive q g s (Some y) None i)) →
        CallKeepsClosure g s → ((x : ℕ) (o : Option B) → Called g s (x, tt) o s → option_map view o ≡ find p (f x)) →
        option_map view r ≡ find p (gathered f (range_with_len a (b + 1 - a)))
    found_through {a = a} {b = b} low high fresh = found_counted a (b + 1) (λ q e.
        let (c, d, ec, ed, up) = inclusive_listed q q.seen in
        subst (λ k. ItemsCountUp q k (b + 1)) (ec ∙ ap range_inclusive_start e ∙ low)
        (subst (λ k. ItemsCountUp q c k) (ed ∙ ap (λ y. range_inclusive_end y + 1) e ∙ ap (λ k. k + 1) high) (up (ap range_inclusive_exhausted e ∙ fresh)).0))

-- lists of one
gathered_each : {X Y : Type 0} (f : X → Y) (xs : List X) → gathered (λ x. f x ∷ []) xs ≡ map f xs
gathered_each f [] = refl
gathered_each f (x ∷ xs) = ap (λ ys. f x ∷ ys) (gathered_each f xs)

pub shares_from_are : (n r s : ℕ) → gathered (λ a. paired n r s a ∷ []) (range_with_len 0 (1000 + 1 - 0)) ≡ shares_from n r s 0
unfolding shares_from
shares_from_are n r s = gathered_each (paired n r s) (range_with_len 0 1001)
