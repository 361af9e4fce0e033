-- The worked figures come, by computation.
use Rattle.std.proofs.Common.{◌≤◌, [], ◌∷◌, ℤ, pos, neg_ℤ, nat_abs, refl, arith}
use Rattle.std.proofs.lemmas.List.Elements.{All-from_recursion}
use Rattle.mdp.specs.Table.{Branch, State, BranchFacts, ChoiceFacts, StateFacts, Facts}
use Rattle.truth.specs.Dockets.{priced, mixed}
use Rattle.plans.specs.Sweep.{rows}
use Rattle.tables.specs.CounterBox.{counter_box}
use Rattle.tables.proofs.CounterBox.{counter_box_facts}
use Rattle.figures.specs.Figures.{two_states, coin, figures, Comes, Worked}

-- the facts of the two states: each choice is one branch
abbrev leads : ℤ → ℤ → Branch
leads a b = record { weight = 1; next = 1; rewards = a ∷ b ∷ [] }

leads_facts : (a b : ℤ) → nat_abs a ≤ 1000 → nat_abs b ≤ 1000 → ChoiceFacts 2 1 2 (leads a b ∷ [])
leads_facts a b p q =
    let small = All-from_recursion (λ r. nat_abs r ≤ 1000) (a ∷ b ∷ []) (p, (q, tt)) in
    let each = All-from_recursion (BranchFacts 2 1 2) (leads a b ∷ []) (search (refl, arith, small), tt) in
    search (refl, arith, each)

two_states_facts : Facts two_states
two_states_facts =
    let start : State = (leads (pos 4) (pos 0) ∷ []) ∷ (leads (pos 0) (pos 4) ∷ []) ∷ [] in
    let done : State = (leads (pos 0) (pos 0) ∷ []) ∷ [] in
    let from_start = All-from_recursion (ChoiceFacts 2 1 2) start (leads_facts (pos 4) (pos 0) (omega arith) (omega arith), (leads_facts (pos 0) (pos 4) (omega arith) (omega arith), tt)) in
    let from_done = All-from_recursion (ChoiceFacts 2 1 2) done (leads_facts (pos 0) (pos 0) (omega arith) (omega arith), tt) in
    let each = All-from_recursion (StateFacts 2 1 2) (start ∷ done ∷ []) (search (refl, arith, from_start), (search (refl, arith, from_done), tt)) in
    search (refl, arith, each)

-- the facts of the coin: one state, one choice with two branches
coin_facts : (r : ℤ) → nat_abs r ≤ 1000 → Facts (coin r)
coin_facts r h =
    let one : Branch = record { weight = 1; next = 0; rewards = r ∷ [] } in
    let two : Branch = record { weight = 2; next = 0; rewards = pos 0 ∷ [] } in
    let small_one = All-from_recursion (λ r. nat_abs r ≤ 1000) (r ∷ []) (h, tt) in
    let small_two = All-from_recursion (λ r. nat_abs r ≤ 1000) (pos 0 ∷ []) (omega arith, tt) in
    let sides = All-from_recursion (BranchFacts 1 3 1) (one ∷ two ∷ []) (search (refl, arith, small_one), (search (refl, arith, small_two), tt)) in
    let toss = All-from_recursion (ChoiceFacts 1 3 1) ((one ∷ two ∷ []) ∷ []) (search (refl, arith, sides), tt) in
    let each = All-from_recursion (StateFacts 1 3 1) (((one ∷ two ∷ []) ∷ []) ∷ []) (search (refl, arith, toss), tt) in
    search (refl, arith, each)

won : Facts (coin (pos 1))
won = coin_facts (pos 1) (omega arith)

lost : Facts (coin (neg_ℤ (pos 1)))
lost = coin_facts (neg_ℤ (pos 1)) (omega arith)

boxed : Facts (counter_box 1 99)
boxed = counter_box_facts 1 99 (omega arith) (omega arith) (omega arith) (omega arith)

pub worked : Worked
unfolding priced mixed rows counter_box
worked = record {
  come = All-from_recursion Comes figures (search (refl, arith, two_states_facts, won, lost, boxed));
  file = record { facts = two_states_facts; file = refl; short = omega arith };
}
