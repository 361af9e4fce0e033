-- The bytes of a question. Assumes nothing.
use Rattle.std.specs.Prelude.{◌≡◌, ℕ, ◌+◌, ◌^◌, ◌<◌, List, [], ◌∷◌, ◌++◌, length, take, drop, pos, neg_ℤ, ◌≤ℤ◌, ◌<ℤ◌, All, slice_index}
use Rattle.std.specs.Int.{w16, w64, to_le_bytes, from_le_bytes, cast_signed, cast_unsigned}
use Rattle.std.specs.List.{flat_map}
use Rattle.plans.specs.declared.Objective.{Objective}

-- the bytes of an objective, and of a question
abbrev pub objective_size : ℕ
objective_size = 11

abbrev pub question_size : ℕ
question_size = 22

-- column, bound and target, this in two's complement; of each the low byte first
abbrev pub objective_bytes : Objective → List ℕ
objective_bytes o = o.column ∷ (to_le_bytes w16 o.bound ++ to_le_bytes w64 (cast_unsigned w64 o.target))

abbrev pub question_bytes : List Objective → List ℕ
question_bytes os = flat_map objective_bytes os

-- the objective whose bytes stand at an offset
abbrev pub objective_at : List ℕ → ℕ → Objective
objective_at bs at = record {
  column = slice_index bs at;
  bound = from_le_bytes w16 (take 2 (drop (at + 1) bs));
  target = cast_signed w64 (from_le_bytes w64 (take 8 (drop (at + 3) bs)));
}

-- what a question of 22 bytes asks
abbrev pub asked : List ℕ → List Objective
asked bs = objective_at bs 0 ∷ objective_at bs objective_size ∷ []

-- an objective that can be written so
pub record Writable (o : Objective) : Type 0 where
  pub column : o.column < 256
  pub bound : o.bound < 65536
  pub low : neg_ℤ (pos (2 ^ 63)) ≤ℤ o.target
  pub high : o.target <ℤ pos (2 ^ 63)

-- the 22 bytes of a question are those of what it asks, and no others are
pub record QuestionLayout : Type 0 where
  pub sound : (bs : List ℕ) → length bs ≡ question_size → All (λ b. b < 256) bs → question_bytes (asked bs) ≡ bs
  pub complete : (o p : Objective) → Writable o → Writable p → asked (question_bytes (o ∷ p ∷ [])) ≡ o ∷ p ∷ []
