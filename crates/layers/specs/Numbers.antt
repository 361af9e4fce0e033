-- The numbers of the causes. Assumes nothing.
use Rattle.std.specs.Prelude.{ℕ}
use Rattle.layers.specs.declared.faults.GoalCause.{GoalCause}
use Rattle.layers.specs.declared.faults.GoalCause.TheVariants as goal
use Rattle.layers.specs.declared.faults.MirrorCause.{MirrorCause}
use Rattle.layers.specs.declared.faults.MirrorCause.TheVariants as mirror

abbrev pub goal_number : GoalCause → ℕ
goal_number goal.Room = 6
goal_number goal.Mark = 7

abbrev pub mirror_number : MirrorCause → ℕ
mirror_number mirror.Room = 6
mirror_number mirror.Column = 7
