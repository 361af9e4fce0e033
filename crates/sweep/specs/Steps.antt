-- One step of a sweep, as the code works it out. Assumes nothing.
use Rattle.std.specs.Prelude.{ℕ, ◌<◌, ◌≤◌, List, [], ◌∷◌, get_or, ℤ, pos, ◌+ℤ◌, All, slice_index_or, unsigned_abs}
use Rattle.mdp.specs.Limits.{max_reward}
use Rattle.mdp.specs.Table.{Branch}
use Rattle.mdp.specs.declared.WholeBranch.{WholeBranch}
use Rattle.plans.specs.declared.Row.{Row}
use Rattle.plans.specs.Totals.{◌·◌}
use Rattle.plans.specs.Sweep.{ceiling_at, part_at}

-- what rewards earn by the gains of their columns
abbrev pub earned : List ℕ → List ℤ → ℤ
earned gains rewards =
    get_or gains 0 0 · get_or rewards 0 (pos 0) +ℤ get_or gains 1 0 · get_or rewards 1 (pos 0) +ℤ get_or gains 2 0 · get_or rewards 2 (pos 0) +ℤ get_or gains 3 0 · get_or rewards 3 (pos 0)

abbrev pub plain : WholeBranch → Branch
plain b = record { weight = b.weight; next = b.next; rewards = b.rewards }

-- a branch with the rewards of all four columns, 0 in those that it lacks
abbrev pub padded : Branch → WholeBranch
padded b = record {
  weight = b.weight;
  next = b.next;
  rewards = slice_index_or b.rewards 0 (pos 0) ∷ slice_index_or b.rewards 1 (pos 0) ∷ slice_index_or b.rewards 2 (pos 0) ∷ slice_index_or b.rewards 3 (pos 0) ∷ [];
}

-- a branch that leads to one of some states, with rewards as a model has them
pub record Usual (states : ℕ) (b : WholeBranch) : Type 0 where
  pub next_in : b.next < states
  pub rewards_small : All (λ r. unsigned_abs r ≤ max_reward) b.rewards

-- rows whose numbers are at most n, either way
pub record Small (n : ℕ) (rows : List Row) : Type 0 where
  pub ceilings : (s : ℕ) → unsigned_abs (ceiling_at rows s) ≤ n
  pub parts : (i s : ℕ) → unsigned_abs (part_at rows i s) ≤ n
