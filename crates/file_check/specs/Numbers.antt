-- The numbers of the causes. Assumes nothing.
use Rattle.std.specs.Prelude.{ℕ}
use Rattle.file_check.specs.declared.faults.FileCause.{FileCause}
use Rattle.file_check.specs.declared.faults.FileCause.TheVariants.{Size, Header, Pair, Field, Sum}

abbrev pub cause_number : FileCause → ℕ
cause_number Size = 1
cause_number Header = 2
cause_number Pair = 3
cause_number Field = 4
cause_number Sum = 5
