-- One turn of the walks over a block's choices and over the states.
use Rattle.std.proofs.Common.{◌≡◌, ℕ, zero, suc, ◌+◌, ◌-◌, ◌<◌, ◌≤◌, List, [], ◌∷◌, ◌++◌, length, sym, refl, ap, ◌∙◌, zero-add, arith, length-append, map, if◌then◌else◌, nat_lt}
use Rattle.std.specs.List.{range_with_len}
use Rattle.std.proofs.lemmas.List.{append_assoc, length-map, map_push}
use Rattle.std.proofs.lemmas.List.FromFn.{length-map-range_with_len, map-range_with_len_more}
use Rattle.std.proofs.lemmas.Bool.{cond-true, cond-false, lt-ltb, le-ltb}
use Rattle.few.specs.declared.Few.{Few}
use Rattle.few.specs.Views.{listed}
use Rattle.mdp.specs.Limits.{max_states, max_choices}
use Rattle.file_check.specs.Check.{choice_after}
use Rattle.file_check.specs.Places.{starts_in, choice_starts}
use Rattle.file_check.proofs.Steps.{less}

module _ (xs : List ℕ) (c e p : ℕ) where
  pub starts_none : (n : ℕ) → e ≤ p → starts_in xs c e p n ≡ []
  unfolding starts_in
  starts_none zero b = refl
  starts_none (suc n) b = cond-false _ _ _ (le-ltb _ _ b)

  pub starts_all : (n : ℕ) → n ≡ 0 → starts_in xs c e p n ≡ []
  unfolding starts_in
  starts_all n z = rw z refl

  -- one more start
  starts_more : (n i : ℕ) → i < n → p < e → starts_in xs c e p (n - i) ≡ p ∷ starts_in xs c e (choice_after xs c p) (n - (i + 1))
  unfolding starts_in
  starts_more n i h b = rw (less n i h) (cond-true _ _ _ (lt-ltb _ _ b))

  -- one more start is written down
  pub starts_pushed : (n q : ℕ) (ys zs all : List ℕ) → length ys < n → p < e → zs ≡ ys ++ (p ∷ []) → q ≡ choice_after xs c p
      → all ≡ ys ++ starts_in xs c e p (n - length ys) → all ≡ zs ++ starts_in xs c e q (n - length zs)
  starts_pushed n q ys zs all h b z k a =
      rw (z, length-append ys (p ∷ []), k) (a ∙ (ap (λ t. ys ++ t) (starts_more n (length ys) h b) ∙ sym (append_assoc ys (p ∷ []) _)))

module _ (xs : List ℕ) (index : List (Few ℕ max_choices)) (s : ℕ) (h : s < max_states) (a : map listed index ≡ map (choice_starts xs) (range_with_len 0 s)) where
  -- there is room for one more state
  pub index_room : length index < max_states
  index_room =
      let long : length index ≡ s = sym (length-map index listed) ∙ (ap length a ∙ length-map-range_with_len (choice_starts xs) 0 s) in
      omega arith

  pub index_pushed : (more : List (Few ℕ max_choices)) (starts : Few ℕ max_choices) → more ≡ (if nat_lt (length index) max_states then index ++ (starts ∷ []) else index)
      → listed starts ≡ choice_starts xs s → map listed more ≡ map (choice_starts xs) (range_with_len 0 (s + 1))
  index_pushed more starts m e =
      let all : more ≡ index ++ (starts ∷ []) = m ∙ cond-true _ _ _ (lt-ltb _ _ index_room) in
      rw (all, map_push listed index starts, e, a) (sym (map-range_with_len_more (choice_starts xs) 0 s s (zero-add s)))
