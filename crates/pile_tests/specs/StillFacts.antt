-- That table has the facts of a model's table.
use Rattle.std.proofs.Common.{sym, subst, arith}
use Rattle.std.specs.Prelude.{ℕ, ◌≤◌, replicate, pos, All, unsigned_abs, refl}
use Rattle.std.proofs.lemmas.List.{length-replicate}
use Rattle.std.proofs.lemmas.List.Elements.{All-from_recursion, All-replicate}
use Rattle.mdp.specs.Limits.{max_states, max_columns, max_reward}
use Rattle.mdp.specs.Table.{BranchFacts, ChoiceFacts, StateFacts, Facts}
use Rattle.pile_tests.specs.Still.{still_choice, still_state, still_table}

module _ (states columns : ℕ) (states-low : 1 ≤ states) (states-high : states ≤ max_states) (columns_low : 1 ≤ columns) (columns_high : columns ≤ max_columns) where
  choice_facts : ChoiceFacts states 1 columns (still_choice columns)
  choice_facts = record {
    some = omega arith;
    few = omega arith;
    whole = refl;
    branches = All-from_recursion (BranchFacts states 1 columns) (still_choice columns) (
      record {
        weight_low = omega arith;
        weight_high = omega arith;
        next_in = omega arith;
        rewards_all = length-replicate columns (pos 0);
        rewards_small = All-replicate (λ r. unsigned_abs r ≤ max_reward) columns (pos 0) (omega arith);
      },
      tt,
    );
  }

  state_facts : StateFacts states 1 columns (still_state columns)
  state_facts = record { some = omega arith; few = omega arith; choices = All-from_recursion (ChoiceFacts states 1 columns) (still_state columns) (choice_facts, tt) }

  pub still_facts : Facts (still_table states columns)
  still_facts =
      let e = length-replicate states (still_state columns) in
      record {
        some = omega arith;
        few = omega arith;
        first_in = omega arith;
        divisor_low = omega arith;
        divisor_high = omega arith;
        columns_low = columns_low;
        columns_high = columns_high;
        each = subst (λ n. All (StateFacts n 1 columns) (replicate states (still_state columns))) (sym e) (All-replicate (StateFacts states 1 columns) states (still_state columns) state_facts);
      }
