-- What an accepted file lets a reader rely on: each block and each choice ends within the file.
use Rattle.std.proofs.Common.{◌≡◌, ℕ, zero, suc, ◌+◌, ◌*◌, ◌<◌, ◌≤◌, Bool, true, false, cond, ltb, List, [], ◌∷◌, length, get_or, Ok, All, sym, refl, arith}
use Rattle.std.proofs.lemmas.Bool.{ltb-true}
use Rattle.std.proofs.lemmas.List.Elements.{All-nil, All-cons}
use Rattle.mdp.specs.Limits.{max_choices}
use Rattle.file_check.specs.declared.check.Header.{Header}
use Rattle.file_check.specs.Check.{then_do, word, header_of, choice_after, choice_at, choices_at, block_end, blocks_at, pairs_at, pair_fits}
use Rattle.file_check.specs.Places.{pair_place, starts_in, choice_starts}
use Rattle.file_check.specs.Accepts.{accepted, Bytes}
use Rattle.file_check.proofs.Steps.{pair_parts}
use Rattle.file_check.proofs.Pieces.{then_inv, cond_inv}
use Rattle.file_check.proofs.Sound.{choice_sound}
use Rattle.file_check.proofs.Accepted.{accepted_passed}

module _ (xs : List ℕ) (b : Bytes xs) (l : Header) where
  abbrev EndsBy : ℕ → ℕ → Type 0
  EndsBy e a = choice_after xs l.columns a ≤ e

  abbrev Ends : ℕ → List ℕ → Type 0
  Ends e starts = All (EndsBy e) starts

  module _ (e z : ℕ) (le : e ≤ length xs) (ez : e ≤ z) where
    turn : (p n : ℕ) → ((p : ℕ) → choices_at xs l e p n ≡ Ok tt → Ends z (starts_in xs l.columns e p n))
        → (t : Bool) → ltb p e ≡ t → cond t (then_do (choice_at xs l e p) (λ q. choices_at xs l e q n)) (Ok tt) ≡ Ok tt
        → Ends z (cond t (p ∷ starts_in xs l.columns e (choice_after xs l.columns p) n) [])
    turn p n ih false f m = All-nil (EndsBy z)
    turn p n ih true f m =
        let g = then_inv (choice_at xs l e p) _ tt m in
        let c = choice_sound xs b l e le p g.0 (ltb-true _ _ f) g.1 in
        All-cons (EndsBy z) p _ (omega (arith, c.after, c.inside)) (ih (choice_after xs l.columns p) (rw c.after at g.2))

    starts_end : (n p : ℕ) → choices_at xs l e p n ≡ Ok tt → Ends z (starts_in xs l.columns e p n)
    unfolding starts_in
    starts_end zero p m = All-nil (EndsBy z)
    starts_end (suc n) p m = turn p n (starts_end n) (ltb p e) refl m

  record StateEnds (p : ℕ) : Type 0 where
    pub block : block_end xs p ≤ length xs
    pub choices : Ends (length xs) (starts_in xs l.columns (block_end xs p) (word xs p) max_choices)

  states_end : (n p o s : ℕ) → s < n → pairs_at xs p o n ≡ Ok tt → blocks_at xs l p n ≡ Ok tt → StateEnds (p + 4 * s)
  states_end zero p o s h m r = absurd (omega arith)
  states_end (suc n) p o zero h m r =
      let w = pair_parts xs p o (sym (cond_inv (pair_fits xs p o) _ _ tt m).0) in
      let here : p + 4 * 0 ≡ p = omega arith in
      let f = then_inv (choices_at xs l (block_end xs p) (word xs p) max_choices) _ tt r in
      let le : block_end xs p ≤ length xs = omega arith in
      rw here (record { block = le; choices = starts_end (block_end xs p) (length xs) le le max_choices (word xs p) f.1 })
  states_end (suc n) p o (suc s) h m r =
      let c = cond_inv (pair_fits xs p o) _ _ tt m in
      let f = then_inv (choices_at xs l (block_end xs p) (word xs p) max_choices) _ tt r in
      let there : p + 4 * suc s ≡ p + 4 + 4 * s = omega arith in
      rw there (states_end n (p + 4) (o + word xs (p + 2)) s (omega arith) c.1 f.2)

module _ (xs : List ℕ) (e : accepted xs ≡ true) (b : Bytes xs) (s : ℕ) (h : s < word xs 0) where
  state_ends : StateEnds xs b (header_of xs) (pair_place s)
  state_ends = let p = accepted_passed xs b e in states_end xs b (header_of xs) (word xs 0) 8 (8 + 4 * word xs 0) s h p.pairs p.blocks

  pub block_inside : block_end xs (pair_place s) ≤ length xs
  block_inside = state_ends.block

  pub choices_inside : All (λ a. choice_after xs (get_or xs 6 0) a ≤ length xs) (choice_starts xs s)
  choices_inside = state_ends.choices
