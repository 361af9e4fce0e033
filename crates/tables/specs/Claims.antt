-- Which tables a layer fits, by a test, and what it makes of any table where it is put on by that test. Assumes nothing.
use Rattle.std.specs.Prelude.{◌≡◌, ℕ, Bool, true, cond, ◌&&◌, ◌↔◌, List, length, Some, None, nat_le, nat_lt}
use Rattle.mdp.specs.Limits.{max_columns}
use Rattle.mdp.specs.Table.{Table, Facts}
use Rattle.tables.specs.Goal.{max_marks, goal_table, GoalFits, goal_view}
use Rattle.tables.specs.Mirror.{mirror_table, MirrorFits, mirror_view}

-- one more column has a place
abbrev pub column_free : Table → Bool
column_free t = nat_lt t.columns max_columns

-- the states have marks and numbers for both halves, and the column has a place
abbrev pub goal_fits : Table → Bool
goal_fits t = nat_le (length t.states) max_marks && column_free t

-- the column is there, and its negative has a place
abbrev pub mirror_fits : ℕ → Table → Bool
mirror_fits j t = column_free t && nat_lt j t.columns

-- the test says exactly which tables the layer fits
abbrev pub GoalDecided : Type 0
GoalDecided = (t : Table) → (goal_fits t ≡ true) ↔ GoalFits t

abbrev pub MirrorDecided : Type 0
MirrorDecided = (j : ℕ) (t : Table) → (mirror_fits j t ≡ true) ↔ MirrorFits j t

-- a layer that is put on by the test has its own table where it fits, and else that below
abbrev pub GoalTested : Type 0
GoalTested = (on : Bool) (marks : List Bool) (t : Table) → goal_view (cond (on && goal_fits t) (Some marks) None) t ≡ cond (on && goal_fits t) (goal_table marks t) t

abbrev pub MirrorTested : Type 0
MirrorTested = (on : Bool) (j : ℕ) (t : Table) → mirror_view (cond (on && mirror_fits j t) (Some j) None) t ≡ cond (on && mirror_fits j t) (mirror_table j t) t

-- and keeps the facts of the table below, whatever that is
abbrev pub GoalKept : Type 0
GoalKept = (on : Bool) (marks : List Bool) (t : Table) → Facts t → Facts (cond (on && goal_fits t) (goal_table marks t) t)

abbrev pub MirrorKept : Type 0
MirrorKept = (on : Bool) (j : ℕ) (t : Table) → Facts t → Facts (cond (on && mirror_fits j t) (mirror_table j t) t)
