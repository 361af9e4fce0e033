-- The goal's table has the facts, and what is asked of it.
use Rattle.std.proofs.Common.{◌≡◌, ℕ, ◌+◌, ◌-◌, ◌<◌, ◌≤◌, Bool, true, false, cond, not, ◌&&◌, ◌||◌, leb, List, ◌++◌, length, ℤ, pos, nat_abs, is_some, Some, None, All, Option, sym, refl, ◌∙◌, subst, arith, length-append}
use lib.ListN.{length-map}
use Rattle.std.specs.Option.{option_map, ForSome}
use Rattle.std.proofs.lemmas.Bool.{cond_both, and_parts, leb-true, leb-false}
use Rattle.std.proofs.lemmas.Bool.Decides.{nat_tests}
use Rattle.std.proofs.lemmas.List.Elements.{All-append}
use Rattle.mdp.specs.Limits.{max_columns, max_reward}
use Rattle.mdp.specs.Table.{Branch, State, Table, StateFacts, Facts}
use Rattle.mdp.specs.Questions.{branch_of, choice_count, branch_count, weight_of, next_of, reward_of, whole_branch}
use Rattle.tables.specs.Whole.{whole_extended}
use Rattle.tables.specs.Layer.{each_branch}
use Rattle.tables.specs.Goal.{max_marks, is_marked, state_number, state_below, goal_next, goal_reward, goal_branch, goal_half, goal_table, GoalFits, goal_view, view_below}
use Rattle.tables.specs.Claims.{goal_fits, GoalDecided, GoalTested, GoalKept}
use Rattle.tables.proofs.Places.{nth_map, nth_left, nth_right}
use Rattle.tables.proofs.Follows.{Follows, follows_choices, follows_branches, extended_weight, extended_next, extended_reward, extended_last, extended_whole, mapped_mapped}
use Rattle.tables.proofs.Kept.{extended_facts, states_kept, extended_table_facts}

number_below : (n : ℕ) (met : Bool) (s : ℕ) → s < n → state_number n met s < n + n
number_below n true s h = omega arith
number_below n false s h = omega arith

pub small_reward : (b : Bool) → nat_abs (cond b (pos 1) (pos 0)) ≤ max_reward
small_reward true = omega arith
small_reward false = omega arith

module _ (marks : List Bool) (t : Table) where
  abbrev S : ℕ
  S = length t.states

  length_half : (met : Bool) → length (goal_half marks met t.states) ≡ S
  length_half met = length-map t.states (each_branch (goal_branch marks S met))

  length_halves : length (goal_half marks false t.states ++ goal_half marks true t.states) ≡ S + S
  length_halves = let e = length_half false in let d = length_half true in length-append (goal_half marks false t.states) (goal_half marks true t.states) ∙ omega arith

  half_kept : (met : Bool) → Facts t → All (StateFacts (S + S) t.divisor (t.columns + 1)) (goal_half marks met t.states)
  half_kept met f =
      states_kept S t.divisor t.columns (S + S) (t.columns + 1) (goal_branch marks S met) (λ x. refl)
      (λ x h. extended_facts S t.divisor t.columns (goal_next marks S met x.next) (S + S) (goal_reward marks met x.next) x h
      (number_below S (met || is_marked marks x.next) x.next h.next_in) (small_reward (not met && is_marked marks x.next)))
      t.states f.each

  goal_table_facts : S ≤ max_marks → t.columns < max_columns → Facts t → Facts (goal_table marks t)
  unfolding goal_table
  goal_table_facts few l f =
      let ss = goal_half marks false t.states ++ goal_half marks true t.states in
      let e = length_halves in
      let P : ℕ → State → Type 0 = λ n. StateFacts n t.divisor (t.columns + 1) in
      extended_table_facts t ss f l (omega arith) (omega arith)
      (subst (λ n. All (P n) ss) (sym e) (All-append (P (S + S)) (goal_half marks false t.states) (goal_half marks true t.states) (half_kept false f) (half_kept true f)))

  follows_at : (s : ℕ) (b : Bool) → leb S s ≡ b → Follows (goal_table marks t) s t (cond b (s - S) s) (goal_branch marks S b)
  unfolding goal_table
  follows_at s true e =
      let h = leb-true S s e in
      let k = length_half false in
      record { state = nth_right (goal_half marks false t.states) (goal_half marks true t.states) s (s - S) (omega arith) ∙ nth_map (each_branch (goal_branch marks S true)) t.states (s - S) }
  follows_at s false e =
      let h = leb-false S s e in
      let k = length_half false in
      record { state = nth_left (goal_half marks false t.states) (goal_half marks true t.states) s (omega arith) ∙ nth_map (each_branch (goal_branch marks S false)) t.states s }

  goal_follows : (s : ℕ) → Follows (goal_table marks t) s t (state_below S s) (goal_branch marks S (leb S s))
  goal_follows s = follows_at s (leb S s) refl

pub goal_shown : (marks : List Bool) (t : Table) → goal_view (Some marks) t ≡ goal_table marks t
unfolding goal_view
goal_shown marks t = refl

pub goal_idle : (t : Table) → goal_view None t ≡ t
unfolding goal_view
goal_idle t = refl

pub goal_facts : (o : Option (List Bool)) (t : Table) → ForSome o (λ _. GoalFits t) → Facts t → Facts (goal_view o t)
unfolding goal_view
goal_facts None t h f = f
goal_facts (Some marks) t h f = let k = h marks refl in goal_table_facts marks t k.0 k.1 f

-- a table that the layer fits has room for both halves and for the column
pub goal_few : (t : Table) → GoalFits t → length t.states ≤ max_marks
goal_few t h = h.0

pub goal_free : (t : Table) → GoalFits t → t.columns < max_columns
goal_free t h = h.1

-- a table that passes the test fits
goal_fitting : (t : Table) → goal_fits t ≡ true → GoalFits t
goal_fitting t e = (grind (arith, nat_tests), grind (arith, nat_tests))

pub goal_decided : GoalDecided
goal_decided t = (goal_fitting t, λ h. let few = h.0 in let free = h.1 in grind (arith, nat_tests))

pub goal_tested : GoalTested
unfolding goal_view
goal_tested on marks t = elim (on && goal_fits t) as (λ b. goal_view (cond b (Some marks) None) t ≡ cond b (goal_table marks t) t) [ true ↦ refl | false ↦ refl ]

-- facts of any table are kept where the layer's table is taken only if it fits
pub goal_kept : GoalKept
goal_kept on marks t f =
    cond_both (on && goal_fits t) (goal_table marks t) t Facts
    (λ e. let k = goal_fitting t (and_parts on (goal_fits t) e).1 in goal_table_facts marks t k.0 k.1 f)
    (λ e. f)

module _ (t : Table) where
  abbrev n : ℕ
  n = length t.states

  pub goal_first : (o : Option (List Bool)) → (goal_view o t).first ≡ t.first
  unfolding goal_view goal_table
  goal_first None = refl
  goal_first (Some marks) = refl

  pub goal_divisor : (o : Option (List Bool)) → (goal_view o t).divisor ≡ t.divisor
  unfolding goal_view goal_table
  goal_divisor None = refl
  goal_divisor (Some marks) = refl

  pub goal_choices : (o : Option (List Bool)) (s : ℕ) → choice_count (goal_view o t) s ≡ choice_count t (view_below o n s)
  unfolding goal_view
  goal_choices None s = refl
  goal_choices (Some marks) s = follows_choices (goal_follows marks t s)

  pub goal_branches : (o : Option (List Bool)) (s c : ℕ) → branch_count (goal_view o t) s c ≡ branch_count t (view_below o n s) c
  unfolding goal_view
  goal_branches None s c = refl
  goal_branches (Some marks) s c = follows_branches (goal_follows marks t s) c

  pub goal_weight : (o : Option (List Bool)) (s c b : ℕ) → Facts t → weight_of (goal_view o t) s c b ≡ weight_of t (view_below o n s) c b
  unfolding goal_view
  goal_weight None s c b f = refl
  goal_weight (Some marks) s c b f = extended_weight (λ x. goal_next marks n (leb n s) x.next) (λ x. goal_reward marks (leb n s) x.next) (goal_follows marks t s) f c b

  pub goal_states : (o : Option (List Bool)) → length (goal_view o t).states ≡ cond (is_some o) (n + n) n
  unfolding goal_view goal_table
  goal_states None = refl
  goal_states (Some marks) = length_halves marks t

  pub goal_columns : (o : Option (List Bool)) → (goal_view o t).columns ≡ cond (is_some o) (t.columns + 1) t.columns
  unfolding goal_view goal_table
  goal_columns None = refl
  goal_columns (Some marks) = refl

  module _ (marks : List Bool) where
    module _ (f : Facts t) (s c b : ℕ) where
      abbrev to : Branch → ℕ
      to x = goal_next marks n (leb n s) x.next

      abbrev earns : Branch → ℤ
      earns x = goal_reward marks (leb n s) x.next

      pub goal_nexts : next_of (goal_table marks t) s c b ≡ option_map (goal_next marks n (leb n s)) (next_of t (state_below n s) c b)
      goal_nexts = extended_next to earns (goal_follows marks t s) f c b (goal_next marks n (leb n s)) (λ x. refl)

      pub goal_old_reward : (i : ℕ) → (i ≡ t.columns → ⊥) → reward_of (goal_table marks t) s c b i ≡ reward_of t (state_below n s) c b i
      goal_old_reward i d = extended_reward to earns (goal_follows marks t s) f c b i d

      pub goal_new_reward : (i : ℕ) → i ≡ t.columns → reward_of (goal_table marks t) s c b i ≡ option_map (goal_reward marks (leb n s)) (next_of t (state_below n s) c b)
      goal_new_reward i d = extended_last to earns (goal_follows marks t s) f c b i d ∙ mapped_mapped (goal_reward marks (leb n s)) (λ (x : Branch). x.next) (branch_of t (state_below n s) c b)

      pub goal_whole : t.columns < max_columns → whole_branch (goal_table marks t) s c b
          ≡ option_map (λ w. whole_extended w t.columns (goal_next marks n (leb n s) w.next) (goal_reward marks (leb n s) w.next)) (whole_branch t (state_below n s) c b)
      goal_whole l = extended_whole to earns (goal_follows marks t s) f c b l (goal_next marks n (leb n s)) (λ w. goal_reward marks (leb n s) w.next) (λ x. refl) (λ x k. refl)

-- what the layer answers to a question that it passes on
pub ruleset goal_passed_on = (goal_first, goal_divisor, goal_choices, goal_branches, goal_weight, goal_states, goal_columns)
