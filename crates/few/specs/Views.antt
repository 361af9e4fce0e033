-- A few items as a list. Assumes nothing.
use Rattle.std.specs.Prelude.{ℕ, List, take}
use Rattle.few.specs.declared.Few.{Few}

abbrev pub listed : {T : Type 0} {n : ℕ} → Few T n → List T
listed f = take f.count f.each
