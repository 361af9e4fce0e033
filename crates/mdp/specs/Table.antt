-- A finite Markov decision process as a table, and the facts that a model's table has. Assumes nothing.
use Rattle.std.specs.Prelude.{◌≡◌, ℕ, ◌+◌, ◌<◌, ◌≤◌, List, [], ◌∷◌, length, ℤ, All, unsigned_abs}
use Rattle.mdp.specs.Limits.{max_states, max_divisor, max_columns, max_choices, max_branches, max_reward}

-- taken with the chance weight / divisor; a reward for each column
pub record Branch : Type 0 where
  pub weight : ℕ
  pub next : ℕ
  pub rewards : List ℤ

abbrev pub Choice : Type 0
Choice = List Branch

abbrev pub State : Type 0
State = List Choice

pub record Table : Type 0 where
  pub first : ℕ
  pub divisor : ℕ
  pub columns : ℕ
  pub states : List State

abbrev pub total_weight : Choice → ℕ
total_weight [] = 0
total_weight (b ∷ bs) = b.weight + total_weight bs

pub record BranchFacts (states divisor columns : ℕ) (b : Branch) : Type 0 where
  pub weight_low : 1 ≤ b.weight
  pub weight_high : b.weight ≤ divisor
  pub next_in : b.next < states
  pub rewards_all : length b.rewards ≡ columns
  pub rewards_small : All (λ r. unsigned_abs r ≤ max_reward) b.rewards

pub record ChoiceFacts (states divisor columns : ℕ) (bs : Choice) : Type 0 where
  pub some : 1 ≤ length bs
  pub few : length bs ≤ max_branches
  pub whole : total_weight bs ≡ divisor
  pub branches : All (BranchFacts states divisor columns) bs

pub record StateFacts (states divisor columns : ℕ) (cs : State) : Type 0 where
  pub some : 1 ≤ length cs
  pub few : length cs ≤ max_choices
  pub choices : All (ChoiceFacts states divisor columns) cs

pub record Facts (t : Table) : Type 0 where
  pub some : 1 ≤ length t.states
  pub few : length t.states ≤ max_states
  pub first_in : t.first < length t.states
  pub divisor_low : 1 ≤ t.divisor
  pub divisor_high : t.divisor ≤ max_divisor
  pub columns_low : 1 ≤ t.columns
  pub columns_high : t.columns ≤ max_columns
  pub each : All (StateFacts (length t.states) t.divisor t.columns) t.states
