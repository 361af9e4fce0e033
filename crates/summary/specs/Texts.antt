-- What a summary is, and how it is written. Assumes nothing.
use Rattle.std.specs.Prelude.{ℕ, List, ◌++◌, length, codes, decimal}
use Rattle.mdp.specs.Table.{Table}
use Rattle.summary.specs.declared.Summary.{Summary}

abbrev pub summary_of : Table → Summary
summary_of t = record { states = length t.states; first = t.first; divisor = t.divisor; columns = t.columns }

abbrev pub summary_text : Summary → List ℕ
summary_text s =
    codes "states " ++ (decimal s.states
    ++ (codes ", first " ++ (decimal s.first
    ++ (codes ", divisor " ++ (decimal s.divisor
    ++ (codes ", columns " ++ decimal s.columns))))))
