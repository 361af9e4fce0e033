-- The counter box's table has the facts, and what is asked of it.
use Rattle.std.proofs.Common.{◌≡◌, ℕ, ◌+◌, ◌-◌, ◌<◌, ◌≤◌, ltb, List, [], ◌∷◌, map, length, pos, neg_ℤ, nat_abs, get_or, Some, None, All, Option, Ordering, Less, Equal, Greater, nat_cmp, sym, refl, ap, ◌∙◌, subst, arith}
use Rattle.std.specs.Cmp.{ranks}
use Rattle.std.specs.Option.{option_map}
use Rattle.std.specs.Ordering.{MatchOrdering}
use Rattle.std.specs.List.{slice_get, range_with_len}
use Rattle.std.proofs.lemmas.Option.{slice_get-get_or, slice_get_past}
use Rattle.std.proofs.lemmas.List.FromFn.{length-map-range_with_len, get_or-map-range_with_len}
use Rattle.std.proofs.lemmas.List.Elements.{All-map, All-from_recursion}
use Rattle.std.proofs.lemmas.Bool.{cond-true, cond-false, cond_both, ltb-true, lt-ltb, le-ltb}
use Rattle.mdp.specs.Limits.{max_reward}
use Rattle.mdp.specs.Table.{State, BranchFacts, ChoiceFacts, StateFacts, Facts}
use Rattle.mdp.specs.Questions.{bind, state_of, choice_count, branch_count, whole_branch}
use Rattle.tables.specs.CounterBox.{max_limit, max_chance, percent, reset_exposure, box_branch, enter, open_state, full_state, box_state, counter_box}
use Rattle.tables.specs.Whole.{whole_of}
use Rattle.tables.proofs.Asked.{whole_branch_is}
use Rattle.tables.proofs.Kept.{abs_neg}

all_any : {X : Type 0} (P : X → Type 0) → ((x : X) → P x) → (xs : List X) → All P xs
all_any P h xs = λ k d l. h (get_or xs k d)

module _ (n g : ℕ) (limit-low : 1 ≤ n) (limit-high : n ≤ max_limit) (chance-low : 1 ≤ g) (chance-high : g ≤ max_chance) where
  branch_facts : (w next opened exposed : ℕ) → 1 ≤ w → w ≤ percent → next < n + 1 → opened ≤ 1 → exposed ≤ max_limit → BranchFacts (n + 1) percent 2 (box_branch w next opened exposed)
  branch_facts w next opened exposed low high l o e =
      let k = abs_neg (pos exposed) in
      record {
        weight_low = low;
        weight_high = high;
        next_in = l;
        rewards_all = refl;
        rewards_small = All-from_recursion (λ r. nat_abs r ≤ max_reward) (pos opened ∷ neg_ℤ (pos exposed) ∷ []) (omega arith, (omega arith, tt));
      }

  single_facts : (exposed : ℕ) → exposed ≤ max_limit → ChoiceFacts (n + 1) percent 2 (box_branch percent 0 0 exposed ∷ [])
  single_facts exposed h = record {
    some = omega arith;
    few = omega arith;
    whole = refl;
    branches = All-from_recursion (BranchFacts (n + 1) percent 2) (box_branch percent 0 0 exposed ∷ []) (branch_facts percent 0 0 exposed (omega arith) (omega arith) (omega arith) (omega arith) h, tt);
  }

  enter_facts : (k : ℕ) → k < n → ChoiceFacts (n + 1) percent 2 (enter g k)
  enter_facts k h = record {
    some = omega arith;
    few = omega arith;
    whole = omega arith;
    branches = All-from_recursion (BranchFacts (n + 1) percent 2) (enter g k) (
      branch_facts g 0 1 k chance-low (omega arith) (omega arith) (omega arith) (omega arith),
      (branch_facts (percent - g) (k + 1) 0 k (omega arith) (omega arith) (omega arith) (omega arith) (omega arith), tt),
    );
  }

  state_facts : (k : ℕ) → StateFacts (n + 1) percent 2 (box_state n g k)
  state_facts k =
      cond_both (ltb k n) (open_state g k) full_state (StateFacts (n + 1) percent 2)
      (λ e. record { some = omega arith; few = omega arith; choices = All-from_recursion (ChoiceFacts (n + 1) percent 2) (open_state g k) (enter_facts k (ltb-true k n e), (single_facts 0 (omega arith), tt)) })
      (λ e. record { some = omega arith; few = omega arith; choices = All-from_recursion (ChoiceFacts (n + 1) percent 2) full_state (single_facts reset_exposure (omega arith), tt) })

  pub counter_box_facts : Facts (counter_box n g)
  unfolding counter_box
  counter_box_facts =
      let ss = map (box_state n g) (range_with_len 0 (n + 1)) in
      let e : length ss ≡ n + 1 = length-map-range_with_len (box_state n g) 0 (n + 1) in
      record {
        some = omega arith;
        few = omega arith;
        first_in = omega arith;
        divisor_low = omega arith;
        divisor_high = omega arith;
        columns_low = omega arith;
        columns_high = omega arith;
        each = subst (λ m. All (StateFacts m percent 2) ss) (sym e) (All-map (StateFacts (n + 1) percent 2) (box_state n g) (range_with_len 0 (n + 1)) (all_any (λ k. StateFacts (n + 1) percent 2 (box_state n g k)) state_facts (range_with_len 0 (n + 1))));
      }

module _ (n g : ℕ) where
  pub box_states : length (counter_box n g).states ≡ n + 1
  unfolding counter_box
  box_states = length-map-range_with_len (box_state n g) 0 (n + 1)

  pub box_first : (counter_box n g).first ≡ 0
  unfolding counter_box
  box_first = refl

  pub box_divisor : (counter_box n g).divisor ≡ percent
  unfolding counter_box
  box_divisor = refl

  pub box_columns : (counter_box n g).columns ≡ 2
  unfolding counter_box
  box_columns = refl

  box_state_in : (s : ℕ) → s ≤ n → state_of (counter_box n g) s ≡ Some (box_state n g s)
  unfolding counter_box
  box_state_in s h =
      let e = box_states in
      slice_get-get_or (counter_box n g).states s [] (omega arith) ∙ ap Some (get_or-map-range_with_len (box_state n g) 0 (n + 1) s s [] (omega arith) (omega arith))

  -- a state by the order of its number and the limit
  abbrev pub ranked : ℕ → Ordering → Option State
  ranked s Less = Some (open_state g s)
  ranked s Equal = Some full_state
  ranked s Greater = None

  ranked_at : (s : ℕ) (o : Ordering) → MatchOrdering o (s < n) (s ≡ n) (n < s) → state_of (counter_box n g) s ≡ ranked s o
  ranked_at s Less h = box_state_in s (omega arith) ∙ ap Some (cond-true (ltb s n) (open_state g s) full_state (lt-ltb s n h))
  ranked_at s Equal h = box_state_in s (omega arith) ∙ ap Some (cond-false (ltb s n) (open_state g s) full_state (le-ltb s n (omega arith)))
  ranked_at s Greater h = let e = box_states in slice_get_past (counter_box n g).states s (omega arith)

  pub whole_at : (s : ℕ) (o : Ordering) → MatchOrdering o (s < n) (s ≡ n) (n < s) →
      (c b : ℕ) → whole_branch (counter_box n g) s c b ≡ option_map whole_of (bind (bind (ranked s o) (λ cs. slice_get cs c)) (λ bs. slice_get bs b))
  whole_at s o h c b = whole_branch_is (counter_box n g) s c b ∙ ap (λ r. option_map whole_of (bind (bind r (λ cs. slice_get cs c)) (λ bs. slice_get bs b))) (ranked_at s o h)

  module _ (s : ℕ) (o : Ordering) (e : o ≡ nat_cmp s n) where
    box_ranked : state_of (counter_box n g) s ≡ ranked s o
    box_ranked = ranked_at s o (subst (λ r. MatchOrdering r (s < n) (s ≡ n) (n < s)) (sym e) (ranks s n))

    pub choices_ranked : choice_count (counter_box n g) s ≡ option_map length (ranked s o)
    choices_ranked = ap (option_map length) box_ranked

    pub branches_ranked : (c : ℕ) → branch_count (counter_box n g) s c ≡ option_map length (bind (ranked s o) (λ cs. slice_get cs c))
    branches_ranked c = ap (λ r. option_map length (bind r (λ cs. slice_get cs c))) box_ranked

    pub whole_ranked : (c b : ℕ) → whole_branch (counter_box n g) s c b ≡ option_map whole_of (bind (bind (ranked s o) (λ cs. slice_get cs c)) (λ bs. slice_get bs b))
    whole_ranked = whole_at s o (subst (λ r. MatchOrdering r (s < n) (s ≡ n) (n < s)) (sym e) (ranks s n))

-- what is asked of the table as a whole
pub ruleset box_whole = (box_states, box_first, box_divisor, box_columns)
