-- The mirror's table has the facts, and what is asked of it.
use Rattle.std.proofs.Common.{◌≡◌, ℕ, zero, suc, ◌+◌, ◌<◌, ◌≤◌, List, [], ◌∷◌, map, length, get_or, ℤ, pos, neg_ℤ, nat_abs, true, false, cond, ◌&&◌, is_some, IfSome, Some, None, All, Option, sym, refl, ap, ◌∙◌, arith}
use lib.ListN.{length-map}
use Rattle.std.specs.Option.{option_map, ForSome}
use Rattle.std.specs.List.{slice_get}
use Rattle.std.proofs.lemmas.Option.{slice_get-get_or}
use Rattle.std.proofs.lemmas.Bool.{cond_both, and_parts}
use Rattle.std.proofs.lemmas.Bool.Decides.{nat_tests}
use Rattle.std.proofs.lemmas.List.Elements.{All-head, All-tail}
use Rattle.mdp.specs.declared.WholeBranch.{WholeBranch}
use Rattle.mdp.specs.Limits.{max_columns, max_reward}
use Rattle.mdp.specs.Table.{Branch, Table, BranchFacts, Facts}
use Rattle.mdp.specs.Questions.{bind, branch_of, choice_count, branch_count, weight_of, next_of, reward_of, whole_branch}
use Rattle.tables.specs.Whole.{whole_extended}
use Rattle.tables.specs.Layer.{each_branch}
use Rattle.tables.specs.Mirror.{mirror_branch, mirror_table, MirrorFits, mirror_view}
use Rattle.tables.specs.Claims.{mirror_fits, MirrorDecided, MirrorTested, MirrorKept}
use Rattle.tables.proofs.Places.{nth_map}
use Rattle.tables.proofs.Asked.{InTable, branch_found, all_rewards_at, whole_rewards_small}
use Rattle.tables.proofs.Follows.{Follows, follows_choices, follows_branches, extended_weight, extended_next, extended_reward, extended_last, extended_whole, mapped_id}
use Rattle.tables.proofs.Kept.{abs_neg, extended_facts, states_kept, extended_table_facts}

small_getD : (rs : List ℤ) (j : ℕ) → All (λ r. nat_abs r ≤ max_reward) rs → nat_abs (get_or rs j (pos 0)) ≤ max_reward
small_getD [] j a = omega arith
small_getD (r ∷ rs) zero a = All-head (λ v. nat_abs v ≤ max_reward) r rs a
small_getD (r ∷ rs) (suc j) a = small_getD rs j (All-tail (λ v. nat_abs v ≤ max_reward) r rs a)

mirror_table_facts : (j : ℕ) (t : Table) → t.columns < max_columns → Facts t → Facts (mirror_table j t)
unfolding mirror_table
mirror_table_facts j t l f =
    let n = length t.states in
    let few = f.few in
    let e = length-map t.states (each_branch (mirror_branch j)) in
    let ss = map (each_branch (mirror_branch j)) t.states in
    let keeps : (x : Branch) → BranchFacts n t.divisor t.columns x → BranchFacts (length ss) t.divisor (t.columns + 1) (mirror_branch j x) = λ x h.
    let v = get_or x.rewards j (pos 0) in
    let in' = h.next_in in
    let k = abs_neg v in
    let small = small_getD x.rewards j h.rewards_small in
    extended_facts n t.divisor t.columns x.next (length ss) (neg_ℤ v) x h (omega arith) (omega arith) in
    extended_table_facts t ss f l (omega arith) (omega arith)
    (states_kept n t.divisor t.columns (length ss) (t.columns + 1) (mirror_branch j) (λ x. refl) keeps t.states f.each)

pub mirror_shown : (j : ℕ) (t : Table) → mirror_view (Some j) t ≡ mirror_table j t
unfolding mirror_view
mirror_shown j t = refl

pub mirror_idle : (t : Table) → mirror_view None t ≡ t
unfolding mirror_view
mirror_idle t = refl

-- what holds of the table below, and of the mirror's where it fits, holds of the view
mirror_fitted : (P : Table → Type 0) (t : Table) (o : Option ℕ) → ((j : ℕ) → o ≡ Some j → MirrorFits j t → P (mirror_table j t)) → P t → ForSome o (λ j. MirrorFits j t) → P (mirror_view o t)
unfolding mirror_view
mirror_fitted P t None shown idle h = idle
mirror_fitted P t (Some j) shown idle h = shown j refl (h j refl)

pub mirror_facts : (o : Option ℕ) (t : Table) → ForSome o (λ j. MirrorFits j t) → Facts t → Facts (mirror_view o t)
mirror_facts o t h f = mirror_fitted Facts t o (λ j e k. mirror_table_facts j t k.1 f) f h

-- a table that passes the test fits
mirror_fitting : (j : ℕ) (t : Table) → mirror_fits j t ≡ true → MirrorFits j t
mirror_fitting j t e = (grind (arith, nat_tests), grind (arith, nat_tests))

pub mirror_decided : MirrorDecided
mirror_decided j t = (mirror_fitting j t, λ h. let there = h.0 in let free = h.1 in grind (arith, nat_tests))

pub mirror_tested : MirrorTested
unfolding mirror_view
mirror_tested on j t = elim (on && mirror_fits j t) as (λ b. mirror_view (cond b (Some j) None) t ≡ cond b (mirror_table j t) t) [ true ↦ refl | false ↦ refl ]

-- facts of any table are kept where the layer's table is taken only if it fits
pub mirror_kept : MirrorKept
mirror_kept on j t f =
    cond_both (on && mirror_fits j t) (mirror_table j t) t Facts
    (λ e. mirror_table_facts j t (mirror_fitting j t (and_parts on (mirror_fits j t) e).1).1 f)
    (λ e. f)

module _ (t : Table) where
  -- what holds of the table below and of the mirror's, holds of the view
  mirror_either : (P : Table → Type 0) → ((j : ℕ) → P (mirror_table j t)) → P t → (o : Option ℕ) → P (mirror_view o t)
  unfolding mirror_view
  mirror_either P shown idle None = idle
  mirror_either P shown idle (Some j) = shown j

  pub mirror_first : (o : Option ℕ) → (mirror_view o t).first ≡ t.first
  unfolding mirror_table
  mirror_first = mirror_either (λ u. u.first ≡ t.first) (λ j. refl) refl

  pub mirror_divisor : (o : Option ℕ) → (mirror_view o t).divisor ≡ t.divisor
  unfolding mirror_table
  mirror_divisor = mirror_either (λ u. u.divisor ≡ t.divisor) (λ j. refl) refl

  pub mirror_states : (o : Option ℕ) → length (mirror_view o t).states ≡ length t.states
  unfolding mirror_table
  mirror_states = mirror_either (λ u. length u.states ≡ length t.states) (λ j. length-map t.states (each_branch (mirror_branch j))) refl

  abbrev new_reward : ℕ → Branch → ℤ
  new_reward j x = neg_ℤ (get_or x.rewards j (pos 0))

  mirror_follows : (s j : ℕ) → Follows (mirror_table j t) s t s (mirror_branch j)
  unfolding mirror_table
  mirror_follows s j = record { state = nth_map (each_branch (mirror_branch j)) t.states s }

  pub mirror_choices : (s : ℕ) (o : Option ℕ) → choice_count (mirror_view o t) s ≡ choice_count t s
  mirror_choices s = mirror_either (λ u. choice_count u s ≡ choice_count t s) (λ j. follows_choices (mirror_follows s j)) refl

  pub mirror_branches : (s c : ℕ) (o : Option ℕ) → branch_count (mirror_view o t) s c ≡ branch_count t s c
  mirror_branches s c = mirror_either (λ u. branch_count u s c ≡ branch_count t s c) (λ j. follows_branches (mirror_follows s j) c) refl

  module _ (f : Facts t) (s c b : ℕ) where
    pub mirror_weight : (o : Option ℕ) → weight_of (mirror_view o t) s c b ≡ weight_of t s c b
    mirror_weight = mirror_either (λ u. weight_of u s c b ≡ weight_of t s c b) (λ j. extended_weight (λ x. x.next) (new_reward j) (mirror_follows s j) f c b) refl

    pub mirror_next : (o : Option ℕ) → next_of (mirror_view o t) s c b ≡ next_of t s c b
    mirror_next =
        mirror_either (λ u. next_of u s c b ≡ next_of t s c b)
        (λ j. extended_next (λ x. x.next) (new_reward j) (mirror_follows s j) f c b (λ n. n) (λ x. refl) ∙ mapped_id (next_of t s c b)) refl

  pub mirror_columns : (o : Option ℕ) → (mirror_view o t).columns ≡ cond (is_some o) (t.columns + 1) t.columns
  unfolding mirror_view mirror_table
  mirror_columns None = refl
  mirror_columns (Some j) = refl

  module _ (j : ℕ) (fits : MirrorFits j t) (f : Facts t) (s c b : ℕ) where
    negated : (o : Option Branch) → IfSome o (InTable t) → option_map (new_reward j) o ≡ option_map neg_ℤ (bind o (λ x. slice_get x.rewards j))
    negated None h = refl
    negated (Some x) h =
        let a = h.rewards_all in
        let there = fits.0 in
        ap (option_map neg_ℤ) (sym (slice_get-get_or x.rewards j (pos 0) (omega arith)))

    pub mirror_last : (i : ℕ) → i ≡ t.columns → reward_of (mirror_table j t) s c b i ≡ option_map neg_ℤ (reward_of t s c b j)
    mirror_last i d = extended_last (λ x. x.next) (new_reward j) (mirror_follows s j) f c b i d ∙ negated (branch_of t s c b) (branch_found t s c b f)

    pub mirror_reward : (i : ℕ) → (i ≡ t.columns → ⊥) → reward_of (mirror_table j t) s c b i ≡ reward_of t s c b i
    mirror_reward i d = extended_reward (λ x. x.next) (new_reward j) (mirror_follows s j) f c b i d

    pub mirror_whole : whole_branch (mirror_table j t) s c b ≡ option_map (λ w. whole_extended w t.columns w.next (neg_ℤ (get_or w.rewards j (pos 0)))) (whole_branch t s c b)
    mirror_whole =
        let there = fits.0 in
        let free = fits.1 in
        extended_whole (λ x. x.next) (new_reward j) (mirror_follows s j) f c b free (λ m. m) (λ w. neg_ℤ (get_or w.rewards j (pos 0))) (λ x. refl) (λ x k. ap neg_ℤ (sym (all_rewards_at x.rewards j (omega arith))))

    pub mirror_small : (w : WholeBranch) → Some w ≡ whole_branch t s c b → nat_abs (get_or w.rewards j (pos 0)) ≤ max_reward
    mirror_small w k = small_getD w.rewards j (whole_rewards_small t s c b w f k)

-- what the layer answers to a question that it passes on
pub ruleset mirror_passed_on = (mirror_first, mirror_divisor, mirror_states, mirror_choices, mirror_branches, mirror_weight, mirror_next, mirror_columns)
