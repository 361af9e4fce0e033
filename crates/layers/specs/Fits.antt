-- Whether a layer fits the model below. Assumes nothing.
use Rattle.std.specs.Prelude.{ℕ, Bool, cond, List, length, Some, None, Ok, Err, Option, Result, nat_le, nat_lt}
use Rattle.fault.specs.declared.Fault.{Fault}
use Rattle.mdp.specs.Limits.{max_columns}
use Rattle.mdp.specs.Table.{Table}
use Rattle.tables.specs.Goal.{max_marks, is_wrong, lowest}
use Rattle.layers.specs.declared.faults.GoalCause.{GoalCause}
use Rattle.layers.specs.declared.faults.GoalCause.TheVariants as goal
use Rattle.layers.specs.declared.faults.MirrorCause.{MirrorCause}
use Rattle.layers.specs.declared.faults.MirrorCause.TheVariants as mirror

abbrev pub refused : {C : Type 0} → C → ℕ → Result (Unit {0}) (Fault C)
refused c p = Err (record { cause = c; place = p })

-- no wrong mark, or the lowest
abbrev pub marks_fit : Option ℕ → Result (Unit {0}) (Fault GoalCause)
marks_fit None = Ok tt
marks_fit (Some s) = refused goal.Mark s

abbrev pub goal_fit : Table → List Bool → Result (Unit {0}) (Fault GoalCause)
goal_fit t marks =
    cond (nat_lt max_marks (length t.states)) (refused goal.Room (length t.states))
    (cond (nat_le max_columns t.columns) (refused goal.Room max_columns)
    (marks_fit (lowest (is_wrong marks t.first (length t.states)) 0 max_marks)))

abbrev pub mirror_fit : Table → ℕ → Result (Unit {0}) (Fault MirrorCause)
mirror_fit t j =
    cond (nat_le max_columns t.columns) (refused mirror.Room max_columns)
    (cond (nat_le t.columns j) (refused mirror.Column j) (Ok tt))
