-- How a fault is written. Assumes nothing.
use Rattle.std.specs.Prelude.{ℕ, List, ◌∷◌, ◌++◌, decimal}

-- the layer's word, the cause's number and the place, parted by single spaces
abbrev pub fault_text : List ℕ → ℕ → ℕ → List ℕ
fault_text layer number place = layer ++ (32 ∷ (decimal number ++ (32 ∷ decimal place)))
