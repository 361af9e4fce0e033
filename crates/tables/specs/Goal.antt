-- The table of a model that remembers whether a marked state was met, and pays for the first. Assumes nothing.
use Rattle.std.specs.Prelude.{ℕ, ◌+◌, ◌-◌, ◌<◌, ◌≤◌, Bool, true, false, cond, not, ◌&&◌, ◌||◌, List, ◌++◌, map, length, ℤ, pos, Some, None, Option, ◌==◌, nat_le, slice_index_or}
use Rattle.std.specs.List.{find, range_with_len}
use Rattle.mdp.specs.Limits.{max_columns}
use Rattle.mdp.specs.Table.{Branch, State, Table}
use Rattle.tables.specs.Layer.{extended, extended_table, each_branch}

abbrev pub max_marks : ℕ
max_marks = 256

-- a state past the marks has none
abbrev pub is_marked : List Bool → ℕ → Bool
is_marked marks s = slice_index_or marks s false

-- the number of state s where n states have a half each for before and after the mark
abbrev pub state_number : ℕ → Bool → ℕ → ℕ
state_number n met s = s + cond met n 0

-- the state that number s stands for; it is past the mark where s is n or more
abbrev pub state_below : ℕ → ℕ → ℕ
state_below n s = cond (nat_le n s) (s - n) s

-- where a branch to a next state goes
abbrev pub goal_next : List Bool → ℕ → Bool → ℕ → ℕ
goal_next marks n met next = state_number n (met || is_marked marks next) next

-- what it earns: 1 where it meets the first mark
abbrev pub goal_reward : List Bool → Bool → ℕ → ℤ
goal_reward marks met next = cond (not met && is_marked marks next) (pos 1) (pos 0)

abbrev pub goal_branch : List Bool → ℕ → Bool → Branch → Branch
goal_branch marks n met b = extended b (goal_next marks n met b.next) (goal_reward marks met b.next)

-- the states of one half
abbrev pub goal_half : List Bool → Bool → List State → List State
goal_half marks met states = map (each_branch (goal_branch marks (length states) met)) states

unfoldable pub goal_table : List Bool → Table → Table
goal_table marks t = extended_table t (goal_half marks false t.states ++ goal_half marks true t.states)

-- a mark on the first state, or on a state that is not there
abbrev pub is_wrong : List Bool → ℕ → ℕ → ℕ → Bool
is_wrong marks first states s = is_marked marks s && (s == first || nat_le states s)

-- the lowest of the n numbers from k on that passes a test
unfoldable pub lowest : (ℕ → Bool) → ℕ → ℕ → Option ℕ
lowest p k n = find p (range_with_len k n)

-- the states have marks and numbers for both halves, and the column has a place
abbrev pub GoalFits : Table → Type 0
GoalFits t = (length t.states ≤ max_marks) × (t.columns < max_columns)

-- the table of the layer: with marks its own, without that below
unfoldable pub goal_view : Option (List Bool) → Table → Table
goal_view None t = t
goal_view (Some marks) t = goal_table marks t

-- the state below that number s stands for in the view
abbrev pub view_below : Option (List Bool) → ℕ → ℕ → ℕ
view_below None n s = s
view_below (Some marks) n s = state_below n s
