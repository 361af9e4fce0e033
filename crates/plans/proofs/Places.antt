-- What the facts of a table give at its places, and what the rows of a sweep are there. Assumes nothing.
use Rattle.std.proofs.Common.{◌≡◌, ℕ, zero, suc, ◌-◌, ◌<◌, ◌≤◌, ltb, List, [], ◌∷◌, length, get_or, ℤ, pos, ap, ◌∙◌, arith}
use Rattle.std.proofs.lemmas.List.FromFn.{get_or-map-range_with_len}
use Rattle.std.proofs.lemmas.List.Elements.{All-get_or}
use Rattle.std.proofs.lemmas.List.{get_or-replicate}
use Rattle.std.proofs.lemmas.Bool.{cond-true, cond-false, lt-ltb, le-ltb}
use Rattle.mdp.specs.Table.{Table, Facts, StateFacts, ChoiceFacts, BranchFacts}
use Rattle.plans.specs.declared.Objective.{Objective}
use Rattle.plans.specs.declared.Row.{Row}
use Rattle.plans.specs.Blends.{Mean}
use Rattle.plans.specs.Plans.{no_branch, no_objective, choices_at, choice_at, earns, earns_by, horizon}
use Rattle.plans.specs.Sweep.{no_row, zero_row, ceiling_at, part_at, weighed, grains, choice_ceiling, choice_part, taken, row_at, rows}
use Rattle.plans.proofs.Bests.{best_first}

module _ (t : Table) (facts : Facts t) (s : ℕ) (h : s < length t.states) where
  pub state_facts : StateFacts (length t.states) t.divisor t.columns (choices_at t s)
  state_facts = All-get_or (StateFacts (length t.states) t.divisor t.columns) t.states s [] h facts.each

  module _ (k : ℕ) (g : k < length (choices_at t s)) where
    pub choice_facts : ChoiceFacts (length t.states) t.divisor t.columns (choice_at t s k)
    choice_facts = All-get_or (ChoiceFacts (length t.states) t.divisor t.columns) (choices_at t s) k [] g state_facts.choices

    pub branch_facts : (j : ℕ) → j < length (choice_at t s k) → BranchFacts (length t.states) t.divisor t.columns (get_or (choice_at t s k) j no_branch)
    branch_facts j l = All-get_or (BranchFacts (length t.states) t.divisor t.columns) (choice_at t s k) j no_branch l choice_facts.branches

module _ (up down : Mean) (t : Table) (os : List Objective) (ws : List ℕ) where
  -- the choice that the sweep takes in a state, with n steps to go after it
  abbrev pub pick : ℕ → ℕ → ℕ
  pick n s = taken up down t os ws (horizon os - suc n) (rows up down t os ws n) s

  pub pick_in : Facts t → (n s : ℕ) → s < length t.states → pick n s < length (choices_at t s)
  pick_in facts n s h = (best_first (choice_ceiling up down t os ws (horizon os - suc n) (rows up down t os ws n) s) (length (choices_at t s)) (state_facts t facts s h).some).0

  module _ (s : ℕ) (h : s < length t.states) where
    row_none : get_or (rows up down t os ws 0) s no_row ≡ zero_row
    unfolding rows
    row_none = get_or-replicate (length t.states) s zero_row no_row h

    row_step : (n : ℕ) → get_or (rows up down t os ws (suc n)) s no_row ≡ row_at up down t os ws (horizon os - suc n) (rows up down t os ws n) s
    unfolding rows
    row_step n = get_or-map-range_with_len (row_at up down t os ws (horizon os - suc n) (rows up down t os ws n)) 0 (length t.states) s s no_row h (omega arith)

    pub ceiling_none : ceiling_at (rows up down t os ws 0) s ≡ pos 0
    ceiling_none = ap (λ (r : Row). r.ceiling) row_none

    pub ceiling_step : (n : ℕ) →
        ceiling_at (rows up down t os ws (suc n)) s
        ≡ up (weighed (grains (earns_by ws os) (horizon os - suc n) (ceiling_at (rows up down t os ws n))) (choice_at t s (pick n s))) t.divisor
    ceiling_step n = ap (λ (r : Row). r.ceiling) (row_step n)

    module _ (i : ℕ) (four : i < 4) where
      part_of : (f : ℕ → ℤ) → get_or (f 0 ∷ f 1 ∷ f 2 ∷ f 3 ∷ []) i (pos 0) ≡ f i
      part_of f = get_or-map-range_with_len f 0 4 i i (pos 0) four (omega arith)

      pub part_none : part_at (rows up down t os ws 0) i s ≡ pos 0
      part_none = ap (λ (r : Row). get_or r.parts i (pos 0)) row_none ∙ part_of (λ j. pos 0)

      part_taken : (n : ℕ) → part_at (rows up down t os ws (suc n)) i s ≡ choice_part up down t os ws (horizon os - suc n) (rows up down t os ws n) s (pick n s) i
      part_taken n =
          ap (λ (r : Row). get_or r.parts i (pos 0)) (row_step n) ∙ part_of (choice_part up down t os ws (horizon os - suc n) (rows up down t os ws n) s (pick n s))

      pub part_step : i < length os → (n : ℕ) →
          part_at (rows up down t os ws (suc n)) i s
          ≡ down (weighed (grains (earns (get_or os i no_objective)) (horizon os - suc n) (part_at (rows up down t os ws n) i)) (choice_at t s (pick n s))) t.divisor
      part_step g n = part_taken n ∙ cond-true (ltb i (length os)) _ _ (lt-ltb i (length os) g)

      pub part_past : length os ≤ i → (n : ℕ) → part_at (rows up down t os ws n) i s ≡ pos 0
      part_past g zero = part_none
      part_past g (suc n) = part_taken n ∙ cond-false (ltb i (length os)) _ _ (le-ltb i (length os) g)
