-- The loop over the steps: two halves of rows, and what is beyond. Assumes nothing.
use Rattle.std.proofs.Common.{◌≡◌, ℕ, suc, ◌-◌, ◌*◌, ◌<◌, ◌≤◌, List, ◌++◌, map, length, get_or, take, drop, replicate, sym, ap, ◌∙◌, subst, arith}
use Rattle.std.specs.List.{range_with_len}
use Rattle.std.proofs.lemmas.List.{get_or_append_left, length-replicate}
use Rattle.mdp.specs.Table.{Table, Facts}
use Rattle.plans.specs.declared.Objective.{Objective}
use Rattle.plans.specs.declared.Row.{Row}
use Rattle.plans.specs.Blends.{Mean, Lawful}
use Rattle.plans.specs.Plans.{horizon}
use Rattle.plans.specs.Sweep.{no_row, zero_row, row_at, rows}
use Rattle.plans.proofs.Limits.{rows_ceiling_within, rows_part_within, rows_length, horizon_few}
use Rattle.sweep.specs.Limits.{max_worth}
use Rattle.sweep.specs.Steps.{Small}
use Rattle.sweep.specs.Swept.{Asked, stepped}
use Rattle.sweep.proofs.Halves.{cleared, first_half, past_halves, halves_length}

module _ (up down : Mean) (t : Table) (os : List Objective) (ws : List ℕ) where
  pub start_beyond : (n : ℕ) (old now : List Row) → n ≡ length t.states → now ≡ replicate (2 * n) zero_row ++ drop (2 * n) old → drop (2 * length t.states) now ≡ drop (2 * length t.states) old
  start_beyond n old now e f =
      let s = length t.states in
      let zeros = replicate s zero_row in
      past_halves s zeros zeros (drop (2 * s) old) now (length-replicate s zero_row) (length-replicate s zero_row) (cleared n s zero_row old now e f)

  -- at the start all are 0
  pub start_halves : (n : ℕ) (old now : List Row) → n ≡ length t.states → now ≡ replicate (2 * n) zero_row ++ drop (2 * n) old → (k : ℕ) → k ≡ 0 → now ≡ rows up down t os ws k ++ (rows up down t os ws (k - 1) ++ drop (2 * length t.states) now)
  unfolding rows
  start_halves n old now e f k z =
      let s = length t.states in
      let zeros = replicate s zero_row in
      let all : now ≡ zeros ++ (zeros ++ drop (2 * s) old) = cleared n s zero_row old now e f in
      all ∙ ap (λ (r : List Row). zeros ++ (zeros ++ r)) (sym (start_beyond n old now e f)) ∙ ap (λ k. rows up down t os ws k ++ (rows up down t os ws (k - 1) ++ drop (2 * s) now)) (sym z)

  -- a turn
  module _ (n : ℕ) (rest now : List Row) (h : now ≡ rows up down t os ws n ++ (rows up down t os ws (n - 1) ++ rest)) where
    front : take (length t.states) now ≡ rows up down t os ws n
    front = first_half (length t.states) (rows up down t os ws n) (rows up down t os ws (n - 1)) rest now (rows_length up down t os ws n) (rows_length up down t os ws (n - 1)) h

    pub beyond : drop (2 * length t.states) now ≡ rest
    beyond = past_halves (length t.states) (rows up down t os ws n) (rows up down t os ws (n - 1)) rest now (rows_length up down t os ws n) (rows_length up down t os ws (n - 1)) h

    pub turn_room : 2 * length t.states ≤ length now
    turn_room = halves_length (length t.states) (rows up down t os ws n) (rows up down t os ws (n - 1)) rest now (rows_length up down t os ws n) (rows_length up down t os ws (n - 1)) h

    pub turn_small : Facts t → Lawful up → Lawful down → Asked os ws → n ≤ horizon os → Small max_worth (take (length t.states) now)
    turn_small f lu ld a l =
        let few = horizon_few os a.near in
        subst (Small max_worth) (sym front) (record {
          ceilings = λ s. omega (arith, rows_ceiling_within t f up down lu ld os ws a.few a.light n s);
          parts = λ i s. omega (arith, rows_part_within t f up down lu ld os ws a.few a.light n i s);
        })

    pub turn_halves : (step : ℕ) → step ≡ horizon os - suc n → (k : ℕ) → k ≡ suc n → stepped up down t os ws step now ≡ rows up down t os ws k ++ (rows up down t os ws (k - 1) ++ rest)
    unfolding rows
    turn_halves step e k f =
        let s = length t.states in
        let made : List Row → List Row = λ next. map (row_at up down t os ws step next) (range_with_len 0 s) in
        let less : k - 1 ≡ n = omega arith in
        ap (λ (next : List Row). made next ++ (next ++ drop (2 * s) now)) front ∙ ap (λ (r : List Row). made (rows up down t os ws n) ++ (rows up down t os ws n ++ r)) beyond ∙ ap (λ step. map (row_at up down t os ws step (rows up down t os ws n)) (range_with_len 0 s) ++ (rows up down t os ws n ++ rest)) e ∙ ap (λ k. rows up down t os ws k ++ (rows up down t os ws n ++ rest)) (sym f) ∙ ap (λ j. rows up down t os ws k ++ (rows up down t os ws j ++ rest)) (sym less)

    pub first_row : t.first < length t.states → (i : ℕ) → i ≡ t.first → get_or now i no_row ≡ get_or (rows up down t os ws n) t.first no_row
    first_row l i e =
        let in' : t.first < length (rows up down t os ws n) = omega (arith, rows_length up down t os ws n) in
        ap (λ i. get_or now i no_row) e ∙ ap (λ (now : List Row). get_or now t.first no_row) h ∙ get_or_append_left (rows up down t os ws n) (rows up down t os ws (n - 1) ++ rest) no_row t.first in'
