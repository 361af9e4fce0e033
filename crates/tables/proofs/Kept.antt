-- The facts of a table stay where each branch is changed alike and keeps its weight.
use Rattle.std.proofs.Common.{◌≡◌, ℕ, zero, suc, ◌+◌, ◌<◌, ◌≤◌, List, [], ◌∷◌, map, length, ℤ, pos, negsuc, neg_ℤ, nat_abs, All, refl, ◌∙◌, arith, length-append}
use lib.ListN.{length-map}
use Rattle.std.proofs.lemmas.List.Elements.{All-push, All-map, All-weaker}
use Rattle.mdp.specs.Limits.{max_states, max_columns, max_reward}
use Rattle.mdp.specs.Table.{Branch, Choice, State, Table, total_weight, BranchFacts, ChoiceFacts, StateFacts, Facts}
use Rattle.tables.specs.Layer.{extended, extended_table, each_branch}

pub abs_neg : (v : ℤ) → nat_abs (neg_ℤ v) ≡ nat_abs v
abs_neg (pos zero) = refl
abs_neg (pos (suc n)) = refl
abs_neg (negsuc n) = refl

pub extended_facts : (states divisor columns next' states' : ℕ) (v : ℤ) (x : Branch) → BranchFacts states divisor columns x → next' < states' → nat_abs v ≤ max_reward → BranchFacts states' divisor (columns + 1) (extended x next' v)
extended_facts states divisor columns next' states' v x f l k = record {
  weight_low = f.weight_low;
  weight_high = f.weight_high;
  next_in = l;
  rewards_all = let e = f.rewards_all in length-append x.rewards (v ∷ []) ∙ omega arith;
  rewards_small = All-push (λ r. nat_abs r ≤ max_reward) x.rewards v f.rewards_small k;
}

module _ (states divisor columns states' columns' : ℕ) (f : Branch → Branch) (weighs : (x : Branch) → (f x).weight ≡ x.weight)
    (keeps : (x : Branch) → BranchFacts states divisor columns x → BranchFacts states' divisor columns' (f x)) where
  total_kept : (bs : Choice) → total_weight (map f bs) ≡ total_weight bs
  total_kept [] = refl
  total_kept (b ∷ bs) = let e = total_kept bs in let w = weighs b in omega arith

  all_kept : {X Y : Type 0} (P : X → Type 0) (Q : Y → Type 0) (g : X → Y) → ((x : X) → P x → Q (g x)) → (xs : List X) → All P xs → All Q (map g xs)
  all_kept P Q g k xs a = All-map Q g xs (All-weaker P (λ x. Q (g x)) k xs a)

  choice_kept : (bs : Choice) → ChoiceFacts states divisor columns bs → ChoiceFacts states' divisor columns' (map f bs)
  choice_kept bs h =
      let e = length-map bs f in
      let some = h.some in
      let few = h.few in
      record {
        some = omega arith;
        few = omega arith;
        whole = total_kept bs ∙ h.whole;
        branches = all_kept (BranchFacts states divisor columns) (BranchFacts states' divisor columns') f keeps bs h.branches;
      }

  state_kept : (cs : State) → StateFacts states divisor columns cs → StateFacts states' divisor columns' (each_branch f cs)
  state_kept cs h =
      let e = length-map cs (map f) in
      let some = h.some in
      let few = h.few in
      record {
        some = omega arith;
        few = omega arith;
        choices = all_kept (ChoiceFacts states divisor columns) (ChoiceFacts states' divisor columns') (map f) choice_kept cs h.choices;
      }

  pub states_kept : (ss : List State) → All (StateFacts states divisor columns) ss → All (StateFacts states' divisor columns') (map (each_branch f) ss)
  states_kept ss a = all_kept (StateFacts states divisor columns) (StateFacts states' divisor columns') (each_branch f) state_kept ss a

pub extended_table_facts : (t : Table) (ss : List State) → Facts t → t.columns < max_columns → length t.states ≤ length ss → length ss ≤ max_states
    → All (StateFacts (length ss) t.divisor (t.columns + 1)) ss → Facts (extended_table t ss)
extended_table_facts t ss f l more few a =
    let some = f.some in
    let first_in = f.first_in in
    record {
      some = omega arith;
      few = few;
      first_in = omega arith;
      divisor_low = f.divisor_low;
      divisor_high = f.divisor_high;
      columns_low = omega arith;
      columns_high = omega arith;
      each = a;
    }
