-- The check names the first fault.
use Rattle.std.proofs.Common.{◌≡◌, ℕ, zero, suc, ◌+◌, ◌-◌, ◌*◌, ◌<◌, ◌≤◌, Bool, true, false, cond, not, ◌&&◌, ◌||◌, eqb, ltb, leb, List, [], ◌∷◌, ◌++◌, map, length, get_or, Some, None, Ok, sym, refl, ap, ◌∙◌, add-zero, add_assoc, zero-add, add-one, arith}
use Rattle.std.specs.List.{range_with_len, flat_map}
use Rattle.std.proofs.lemmas.List.Elements.{All-nil, All-cons, All-head, All-append, All-map, All-from_get_or}
use Rattle.std.proofs.lemmas.Bool.{cond_both, cond-false, lt-ltb, le-ltb, leb-true, and_parts, not-false, eq-eqb, ne_eqb}
use Rattle.std.proofs.lemmas.Bool.Decides.{nat_tests}
use Rattle.mdp.specs.Limits.{max_choices, max_branches}
use Rattle.mdp.specs.Table.{total_weight}
use Rattle.file_check.specs.declared.faults.FileCause.TheVariants.{Field, Sum}
use Rattle.file_check.specs.Check.{Checked, then_do, bad, max_file, within, word, header_of, header_at, pair_fits, pairs_at, branch_size, field_at, reward_fits, rewards_at, branch_at, branches_at, choice_after, choice_at, choices_at, block_end, blocks_at, check_result}
use Rattle.file_check.specs.Decode.{branches_in, choice_in}
use Rattle.file_check.specs.Places.{pair_place, choice_place, start_of}
use Rattle.file_check.specs.Order.{Point, size, states, first, divisor, columns, zero_byte, pair_table, pair, count, weight, next, reward, sum, branch_points, choice_points, state_points, points, block_start, pair_right, holds_of, cut, field_offset, wrong, fault_of, fault_at, Right, FirstFault}
use Rattle.file_check.proofs.Steps.{pair_parts}
use Rattle.file_check.proofs.Points.{Fine, Gives, fine, all_fine, stop, test, both, ending, right_from, names_first}

-- the number of columns
abbrev width : List ℕ → ℕ
width xs = get_or xs 6 0

-- where the block of state s ends
abbrev end_of : List ℕ → ℕ → ℕ
end_of xs s = block_end xs (pair_place s)

-- where branch b of the choice at a stands
abbrev branch_start : List ℕ → ℕ → ℕ → ℕ
branch_start xs a b = a + 1 + b * branch_size (width xs)

-- the choices of state s from choice k on stand from p on
abbrev Stand : List ℕ → ℕ → ℕ → ℕ → Type 0
Stand xs s k p = (j : ℕ) → choice_place xs s (k + j) ≡ start_of xs (width xs) (end_of xs s) p j

nested : {X : Type 0} (b c : Bool) (x y : X) → cond b (cond c x y) y ≡ cond (b && c) x y
nested true c x y = refl
nested false c x y = refl

module _ (xs : List ℕ) where
  header_answer : Gives xs (states ∷ first ∷ divisor ∷ columns ∷ zero_byte ∷ []) (header_at xs) (header_of xs)
  header_answer = test _ _ _ refl refl (λ _. test _ _ _ refl refl (λ _. test _ _ _ refl refl (λ _. test _ _ _ refl refl (λ _. test _ _ _ refl refl (λ _. fine)))))

  pair_before : (s : ℕ) → s + 1 < word xs 0 → pair_right xs s ≡ pair_fits xs (pair_place s) (block_start xs s)
  pair_before s h = grind (arith, nat_tests)

  pair_last : (s : ℕ) → s + 1 ≡ word xs 0 → pair_right xs s ≡ (pair_fits xs (pair_place s) (block_start xs s) && eqb (block_start xs s + word xs (pair_place s + 2)) (length xs))
  pair_last s e = grind (arith, nat_tests)

  pairs_answer : (s n : ℕ) → s + n ≡ word xs 0 → 1 ≤ n → Gives xs (map pair (range_with_len s n)) (pairs_at xs (pair_place s) (block_start xs s) n) tt
  pairs_answer s zero e h = absurd (omega arith)
  pairs_answer s (suc zero) e h =
      let z : pair_place s + 4 - 4 ≡ pair_place s = omega arith in
      rw (z, nested (pair_fits xs (pair_place s) (block_start xs s))) (test (pair s) _ _ (ap not (pair_last s e)) refl (λ _. fine))
  pairs_answer s (suc (suc n)) e h =
      let z : pair_place s + 4 ≡ pair_place (s + 1) = omega arith in
      test (pair s) _ _ (ap not (pair_before s (omega arith))) refl (λ t.
      let o : block_start xs s + word xs (pair_place s + 2) ≡ block_start xs (s + 1) = rw (← (pair_parts xs _ _ (sym t)).stands, add-one s) refl in
      rw (z, o) (pairs_answer (s + 1) (suc n) (omega arith) (omega arith)))

  -- a field of two bytes, w, at p in a block that ends at e; t says that it is cut
  field : {A : Type 0} {ps : List Point} {v : A} (q : Point) (t : Bool) (e p w : ℕ) (fits : ℕ → Bool) (rest : ℕ → Checked A)
      → wrong xs q ≡ (t || not (fits w)) → fault_at xs q ≡ fault_of Field (cond t e p) → Gives xs ps (rest w) v
      → Gives xs (q ∷ ps) (then_do (cond t (bad Field e) (Ok w)) (λ n. cond (fits n) (rest n) (bad Field p))) v
  field q true e p w fits rest i g h = stop q i g
  field q false e p w fits rest i g h = test q (fits w) _ i g (λ _. h)

  -- a branch that its choice lacks
  branch_right : (s k b : ℕ) → ((f : ℕ → Bool) → holds_of (choice_place xs s k) (λ a. ltb b (get_or xs a 0) && f a) ≡ false) → Right xs (branch_points (width xs) s k b)
  branch_right s k b h =
      let rewards = map (reward s k b) (range_with_len 0 (width xs)) in
      All-cons (Fine xs) (weight s k b) (next s k b ∷ rewards) (h _)
      (All-cons (Fine xs) (next s k b) rewards (h _)
      (All-map (Fine xs) (reward s k b) _ (All-from_get_or (λ i. Fine xs (reward s k b i)) (range_with_len 0 (width xs)) 0 (λ _ _. h _))))

  module _ (s k a : ℕ) (place : choice_place xs s k ≡ Some a) where
    module _ (b : ℕ) (lt : b < get_or xs a 0) where
      told : (f : ℕ → Bool) → holds_of (choice_place xs s k) (λ x. ltb b (get_or xs x 0) && f x) ≡ f a
      told f = rw (place, lt-ltb b (get_or xs a 0) lt) refl

      field_answer : {A : Type 0} {ps : List Point} {v : A} (q : Point) (d p : ℕ) (fits : ℕ → Bool) (rest : ℕ → Checked A)
          → fault_at xs q ≡ fault_of Field (field_offset xs s k b d) → wrong xs q ≡ (cut xs s p || not (fits (word xs p))) → branch_start xs a b + d ≡ p → Gives xs ps (rest (word xs p)) v
          → Gives xs (q ∷ ps) (then_do (field_at xs (end_of xs s) p) (λ n. cond (fits n) (rest n) (bad Field p))) v
      field_answer q d p fits rest g i e h = field q (cut xs s p) _ p _ fits rest i (g ∙ rw (place, e) refl) h

      rewards_answer : (i n p : ℕ) → branch_start xs a b + 4 + 2 * i ≡ p → Gives xs (map (reward s k b) (range_with_len i n)) (rewards_at xs (end_of xs s) p n) tt
      rewards_answer i zero p e = fine
      rewards_answer i (suc n) p e = field_answer (reward s k b i) (4 + 2 * i) p reward_fits _ refl (told _ ∙ rw e refl) (omega arith) (rewards_answer (i + 1) n (p + 2) (omega arith))

      branch_answer : Gives xs (branch_points (width xs) s k b) (branch_at xs (header_of xs) (end_of xs s) (branch_start xs a b)) (word xs (branch_start xs a b))
      branch_answer =
          field_answer (weight s k b) 0 _ (within 1 (word xs 4)) _ refl (told _) (add-zero _)
          (field_answer (next s k b) 2 _ (λ n. ltb n (word xs 0)) _ refl (told _) refl
          (ending (rewards_answer 0 (width xs) (branch_start xs a b + 4) (omega arith))))

    -- the choice has n branches from b on, at most m
    branches_answer : (b m n w : ℕ) → b + n ≡ get_or xs a 0 → n ≤ m
        → Gives xs (flat_map (branch_points (width xs) s k) (range_with_len b m)) (branches_at xs (header_of xs) (end_of xs s) (branch_start xs a b) n w) (w + total_weight (branches_in xs (width xs) (branch_start xs a b) n))
    branches_answer b m zero w e h =
        rw (add-zero w) (all_fine _ (right_from xs (branch_points (width xs) s k) b m (λ j l. branch_right s k j (λ f. rw (place, le-ltb j (get_or xs a 0) (omega arith)) refl))))
    branches_answer b zero (suc n) w e h = absurd (omega arith)
    branches_answer b (suc m) (suc n) w e h =
        let z : branch_start xs a b + branch_size (width xs) ≡ branch_start xs a (b + 1) = omega arith in
        let v = word xs (branch_start xs a b) in
        both _ (branch_answer b (omega arith)) (λ _. rw (z, ← add_assoc w v) (branches_answer (b + 1) m n (w + v) (omega arith) (omega arith)))

    choice_answer : eqb k max_choices ≡ false → Gives xs (choice_points (width xs) s k) (choice_at xs (header_of xs) (end_of xs s) a) (choice_after xs (width xs) a)
    choice_answer few =
        let n = get_or xs a 0 in
        let total = total_weight (choice_in xs (width xs) a) in
        let z : branch_start xs a 0 ≡ a + 1 = omega arith in
        test (count s k) (within 1 max_branches n) (fault_of Field a) (rw (place, few) refl) (rw place refl) (λ t.
        both _ (rw (z, zero-add total) at (branches_answer 0 max_branches n 0 (zero-add n) (leb-true _ _ (and_parts (leb 1 n) _ t).1))) (λ _.
        test (sum s k) (eqb total (word xs 4)) (fault_of Sum a) (rw place refl) (rw place refl) (λ _. fine)))

  -- a choice that its block lacks
  choice_right : (s k : ℕ) → choice_place xs s k ≡ None → Right xs (choice_points (width xs) s k)
  choice_right s k place =
      let f = branch_points (width xs) s k in
      let branches = flat_map f (range_with_len 0 max_branches) in
      All-cons (Fine xs) (count s k) (branches ++ (sum s k ∷ [])) (rw place refl)
      (All-append (Fine xs) branches (sum s k ∷ []) (right_from xs f 0 max_branches (λ j _. branch_right s k j (λ _. rw place refl)))
      (All-cons (Fine xs) (sum s k) [] (rw place refl) (All-nil (Fine xs))))

  past : (c e p j : ℕ) → ltb p e ≡ false → start_of xs c e p j ≡ None
  past c e p zero h = cond-false _ _ _ h
  past c e p (suc j) h = cond-false _ _ _ h

  -- x is answered if the block has choice k
  in_block : (s k n p : ℕ) (x : Checked (Unit {0})) → Stand xs s k p
      → (choice_place xs s k ≡ Some p → ltb p (end_of xs s) ≡ true → Gives xs (flat_map (choice_points (width xs) s) (range_with_len k n)) x tt)
      → Gives xs (flat_map (choice_points (width xs) s) (range_with_len k n)) (cond (ltb p (end_of xs s)) x (Ok tt)) tt
  in_block s k n p x place h =
      let f = choice_points (width xs) s in
      cond_both (ltb p (end_of xs s)) x (Ok tt) (λ r. Gives xs (flat_map f (range_with_len k n)) r tt)
      (λ t. h (rw (add-zero k, t) at (place 0)) t)
      (λ t. all_fine _ (right_from xs f k n (λ j l. choice_right s j (let z : k + (j - k) ≡ j = omega arith in rw z at (place (j - k) ∙ past _ _ p (j - k) t)))))

  choices_answer : (s k n p : ℕ) → k + n ≡ max_choices → Stand xs s k p → Gives xs (flat_map (choice_points (width xs) s) (range_with_len k (suc n))) (choices_at xs (header_of xs) (end_of xs s) p n) tt
  choices_answer s k zero p e place = in_block s k 1 p _ place (λ h _. stop (count s k) (rw (h, eq-eqb k max_choices (omega arith)) refl) (rw h refl))
  choices_answer s k (suc n) p e place =
      in_block s k (suc (suc n)) p _ place (λ h t.
      both _ (choice_answer s k p h (ne_eqb k max_choices (λ z. omega arith))) (λ _.
      choices_answer s (k + 1) n _ (omega arith) (λ j. let z : k + suc j ≡ k + 1 + j = omega arith in rw (z, t) at (place (suc j)))))

  blocks_answer : (s n : ℕ) → Gives xs (flat_map (state_points (width xs)) (range_with_len s n)) (blocks_at xs (header_of xs) (pair_place s) n) tt
  blocks_answer s zero = fine
  blocks_answer s (suc n) =
      let z : pair_place s + 4 ≡ pair_place (s + 1) = omega arith in
      both _ (choices_answer s 0 max_choices _ refl (λ j. ap (choice_place xs s) (zero-add j))) (λ _. rw z (blocks_answer (s + 1) n))

  check_answer : Gives xs (points xs) (check_result xs) tt
  check_answer =
      test size (within 8 max_file (length xs)) _ refl refl (λ _.
      both _ header_answer (λ r.
      test pair_table (leb (8 + 4 * word xs 0) (length xs)) _ (grind (arith, nat_tests)) refl (λ _.
      both _ (pairs_answer 0 (word xs 0) (zero-add _) (leb-true _ _ (and_parts (leb 1 (word xs 0)) _ (not-false _ (All-head (Fine xs) states (first ∷ divisor ∷ columns ∷ zero_byte ∷ []) r))).0)) (λ _.
      blocks_answer 0 (word xs 0)))))

pub first_fault : (xs : List ℕ) → FirstFault xs (check_result xs)
first_fault xs = names_first xs (check_result xs) (check_answer xs)
