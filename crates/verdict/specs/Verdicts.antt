-- Verdicts and events. Assumes nothing.
use Rattle.std.specs.Prelude.{Bool, true, false, Some, None, int_lt}
use Rattle.few.specs.Views.{listed}
use Rattle.truth.specs.Dockets as dockets
use Rattle.verdict.specs.declared.verdict.Verdict.{Verdict}
use Rattle.verdict.specs.declared.verdict.Verdict.TheVariants.{Open, Achieved, Refuted}
use Rattle.verdict.specs.declared.verdict.Event.{Event}
use Rattle.verdict.specs.declared.verdict.Event.TheVariants.{Priced, Mixed}

abbrev pub verdict_of : Verdict → dockets.Verdict
verdict_of Open = dockets.Open
verdict_of (Achieved ss) = dockets.Achieved (listed ss)
verdict_of (Refuted ws c s) = dockets.Refuted (listed ws) c s

-- whether an event decides
abbrev pub came_out : Event → Bool
came_out (Priced ws c s) = int_lt c s
came_out (Mixed (Some ss)) = true
came_out (Mixed None) = false

-- and the verdict that it then makes; where it does not, no verdict is read
abbrev pub verdict_by : Event → dockets.Verdict
verdict_by (Priced ws c s) = dockets.Refuted (listed ws) c s
verdict_by (Mixed (Some ss)) = dockets.Achieved (listed ss)
verdict_by (Mixed None) = dockets.Open
