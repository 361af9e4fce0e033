-- What the questions answer of the table that a file holds, by where its choices stand.
use Rattle.std.proofs.Common.{◌≡◌, ℕ, zero, suc, ◌+◌, ◌*◌, ◌<◌, ◌≤◌, true, false, cond, ltb, List, [], ◌∷◌, map, length, get_or, ℤ, pos, Some, None, Option, All, unwrap_or, sym, refl, ap, ◌∙◌, ⊎_elim, mul-le-mul_right, suc-mul, zero-mul, zero-add, arith}
use Rattle.std.proofs.lemmas.List.{length-map}
use Rattle.std.proofs.lemmas.List.FromFn.{length-range_with_len, get_or-map-range_with_len}
use Rattle.std.proofs.lemmas.List.Elements.{All-head, All-tail}
use Rattle.std.proofs.lemmas.Bool.{cases_lt, cond-true, cond-false, lt-ltb, le-ltb}
use Rattle.std.specs.Option.{option_map, IfSome}
use Rattle.std.specs.List.{range_with_len, slice_get}
use Rattle.std.proofs.lemmas.Option.{slice_get_past, slice_get_within, get_or_from_slice_get, slice_get-map}
use Rattle.mdp.specs.Limits.{max_choices}
use Rattle.mdp.specs.Table.{Branch, State, Table}
use Rattle.mdp.specs.Questions.{bind, state_of, choice_count, choice_of, branch_count, branch_of, reward_of, reward_or_zero, whole_branch}
use Rattle.file_check.specs.Check.{word, branch_size, choice_after, block_end}
use Rattle.file_check.specs.Decode.{steps, reward_in, branch_in, choice_in, choices_in, states_in, decode}
use Rattle.file_check.specs.Places.{pair_place, starts_in, choice_starts}
use Rattle.file_check.proofs.Sound.{length_steps}
use Rattle.file_check.specs.Accepts.{accepted, Bytes}
use Rattle.file_check.proofs.Inside.{choices_inside}
use Rattle.file_model.specs.Index.{starts_of, whole}

pub get_steps : {X : Type 0} (f : ℕ → X) (d p n s : ℕ) → s < n → slice_get (steps f d p n) s ≡ Some (f (p + s * d))
get_steps f d p zero s h = absurd (omega arith)
get_steps f d p (suc n) zero h = let e : p ≡ p + 0 * d = omega (arith, zero-mul d) in ap (λ a. Some (f a)) e
get_steps f d p (suc n) (suc s) h =
    let e : p + d + s * d ≡ p + suc s * d = omega (arith, suc-mul s d) in
    get_steps f d (p + d) n s (omega arith) ∙ ap (λ a. Some (f a)) e

pub get_steps_past : {X : Type 0} (f : ℕ → X) (d p n s : ℕ) → n ≤ s → slice_get (steps f d p n) s ≡ None
get_steps_past f d p n s h = let e = length_steps f d p n in slice_get_past (steps f d p n) s (omega arith)

-- a whole branch is the branch with its rewards in all columns
pub whole_is : (t : Table) (s k b : ℕ) (x : Option Branch) → branch_of t s k b ≡ x → whole_branch t s k b ≡ option_map whole x
whole_is t s k b None e = rw e refl
whole_is t s k b (Some x) e = rw e refl

All-slice_get : (P : ℕ → Type 0) (ys : List ℕ) (k : ℕ) → All P ys → IfSome (slice_get ys k) P
All-slice_get P [] k all = tt
All-slice_get P (y ∷ ys) zero all = All-head P y ys all
All-slice_get P (y ∷ ys) (suc k) all = All-slice_get P ys k (All-tail P y ys all)

module _ (xs : List ℕ) where
  -- the choices of a block are read where they stand
  choices_map : (c e p n : ℕ) → choices_in xs c e p n ≡ map (choice_in xs c) (starts_in xs c e p n)
  unfolding starts_in
  choices_map c e p zero = refl
  choices_map c e p (suc n) =
      elim (ltb p e) as (λ t. cond t (choice_in xs c p ∷ choices_in xs c e (choice_after xs c p) n) [] ≡ map (choice_in xs c) (cond t (p ∷ starts_in xs c e (choice_after xs c p) n) []))
      [ true ↦ ap (λ r. choice_in xs c p ∷ r) (choices_map c e (choice_after xs c p) n) | false ↦ refl ]

  abbrev state_at : List ℕ → State
  state_at starts = map (choice_in xs (get_or xs 6 0)) starts

  states_map : (s n : ℕ) → states_in xs (get_or xs 6 0) (pair_place s) n ≡ map state_at (map (choice_starts xs) (range_with_len s n))
  states_map s zero = refl
  states_map s (suc n) =
      let next : pair_place s + 4 ≡ pair_place (s + 1) = omega arith in
      rw (next, states_map (s + 1) n, choices_map (get_or xs 6 0) (block_end xs (pair_place s)) (word xs (pair_place s)) max_choices) refl

  state_is : (s : ℕ) → state_of (decode xs) s ≡ option_map state_at (slice_get (starts_of xs) s)
  state_is s = ap (λ t. slice_get t s) (states_map 0 (word xs 0)) ∙ slice_get-map state_at (starts_of xs) s

  pub states_count : word xs 0 ≡ length (decode xs).states
  states_count = sym (length_steps _ 4 8 (word xs 0))

  pub choices_are : (s : ℕ) {starts : Option (List ℕ)} → starts ≡ slice_get (starts_of xs) s → option_map length starts ≡ choice_count (decode xs) s
  choices_are s {starts = None} e = rw (state_is s, ← e) refl
  choices_are s {starts = Some ys} e = rw (state_is s, ← e) (ap Some (sym (length-map ys (choice_in xs (get_or xs 6 0)))))

  pub choice_none : (s k : ℕ) → None ≡ slice_get (starts_of xs) s → choice_of (decode xs) s k ≡ None
  choice_none s k e = rw (state_is s, ← e) refl

  module _ (s k : ℕ) {starts : List ℕ} (e : Some starts ≡ slice_get (starts_of xs) s) where
    pub choice_some : choice_of (decode xs) s k ≡ option_map (choice_in xs (get_or xs 6 0)) (slice_get starts k)
    choice_some = rw (state_is s, ← e) (slice_get-map (choice_in xs (get_or xs 6 0)) starts k)

    there : s < word xs 0
    there =
        let long = length-map (range_with_len 0 (word xs 0)) (choice_starts xs) ∙ length-range_with_len 0 (word xs 0) in
        let within = slice_get_within (starts_of xs) s starts (sym e) in
        omega arith

    -- and it ends within the file, where all of its state do
    pub starts_inside : All (λ a. choice_after xs (get_or xs 6 0) a ≤ length xs) (choice_starts xs s) → IfSome (slice_get starts k) (λ a. choice_after xs (get_or xs 6 0) a ≤ length xs)
    starts_inside all =
        let same : choice_starts xs s ≡ starts = sym (get_or-map-range_with_len (choice_starts xs) 0 (word xs 0) s s [] there (zero-add s)) ∙ get_or_from_slice_get (starts_of xs) s starts [] (sym e) in
        let here = rw same at all in
        All-slice_get (λ a. choice_after xs (get_or xs 6 0) a ≤ length xs) starts k here

    pub choice_inside : accepted xs ≡ true → Bytes xs → IfSome (slice_get starts k) (λ a. choice_after xs (get_or xs 6 0) a ≤ length xs)
    choice_inside sound typed = starts_inside (choices_inside xs sound typed s there)

  pub branches_are : (s k : ℕ) (place : Option ℕ) → choice_of (decode xs) s k ≡ option_map (choice_in xs (get_or xs 6 0)) place → option_map (λ a. get_or xs a 0) place ≡ branch_count (decode xs) s k
  branches_are s k None e = rw e refl
  branches_are s k (Some a) e = rw e (ap Some (sym (length_steps _ _ (a + 1) (get_or xs a 0))))

  module _ (s k a : ℕ) (here : choice_of (decode xs) s k ≡ Some (choice_in xs (get_or xs 6 0) a)) where
    pub branch_some : (b : ℕ) → b < get_or xs a 0 → branch_of (decode xs) s k b ≡ Some (branch_in xs (get_or xs 6 0) (a + 1 + b * branch_size (get_or xs 6 0)))
    branch_some b l = ap (λ o. bind o (λ bs. slice_get bs b)) here ∙ get_steps (branch_in xs (get_or xs 6 0)) (branch_size (get_or xs 6 0)) (a + 1) (get_or xs a 0) b l

    pub branch_past : (b : ℕ) → get_or xs a 0 ≤ b → branch_of (decode xs) s k b ≡ None
    branch_past b l = ap (λ o. bind o (λ bs. slice_get bs b)) here ∙ get_steps_past (branch_in xs (get_or xs 6 0)) (branch_size (get_or xs 6 0)) (a + 1) (get_or xs a 0) b l

  -- a branch of a choice that ends within the file does so too
  pub branch_inside : (a b : ℕ) → b < get_or xs a 0 → choice_after xs (get_or xs 6 0) a ≤ length xs → a + 1 + b * branch_size (get_or xs 6 0) + branch_size (get_or xs 6 0) ≤ length xs
  branch_inside a b l h =
      let z = branch_size (get_or xs 6 0) in
      let m : suc b * z ≤ get_or xs a 0 * z = mul-le-mul_right z l in
      omega (arith, suc-mul b z)

  -- the rewards of a branch are read where the branch stands
  module _ (s k b a : ℕ) (here : branch_of (decode xs) s k b ≡ Some (branch_in xs (get_or xs 6 0) a)) where
    pub reward_some : (i : ℕ) → i < get_or xs 6 0 → reward_of (decode xs) s k b i ≡ Some (reward_in xs (a + 4 + i * 2))
    reward_some i l = ap (λ o. bind o (λ x. slice_get x.rewards i)) here ∙ get_steps (reward_in xs) 2 (a + 4) (get_or xs 6 0) i l

    pub reward_past : (i : ℕ) → get_or xs 6 0 ≤ i → reward_of (decode xs) s k b i ≡ None
    reward_past i l = ap (λ o. bind o (λ x. slice_get x.rewards i)) here ∙ get_steps_past (reward_in xs) 2 (a + 4) (get_or xs 6 0) i l

    reward_in_column : (i : ℕ) → reward_or_zero (decode xs) s k b i ≡ cond (ltb i (get_or xs 6 0)) (reward_in xs (a + 4 + i * 2)) (pos 0)
    reward_in_column i =
        ⊎_elim (λ l. ap (λ o. unwrap_or o (pos 0)) (reward_some i l) ∙ sym (cond-true _ _ _ (lt-ltb _ _ l)))
        (λ l. ap (λ o. unwrap_or o (pos 0)) (reward_past i l) ∙ sym (cond-false _ _ _ (le-ltb _ _ l))) (cases_lt i (get_or xs 6 0))

    abbrev reward_at : ℕ → ℤ
    reward_at i = cond (ltb i (get_or xs 6 0)) (reward_in xs (a + 4 + i * 2)) (pos 0)

    -- a whole branch is read where the branch stands
    pub whole_there : (w n : ℕ) (rs : List ℤ) → w ≡ word xs a → n ≡ word xs (a + 2) → rs ≡ reward_at 0 ∷ reward_at 1 ∷ reward_at 2 ∷ reward_at 3 ∷ [] →
        Some (record { weight = w; next = n; rewards = rs }) ≡ whole_branch (decode xs) s k b
    whole_there w n rs ew en er =
        rw (ew, en, er) (rw (← reward_in_column 0, ← reward_in_column 1, ← reward_in_column 2, ← reward_in_column 3) (sym (rw here refl)))
