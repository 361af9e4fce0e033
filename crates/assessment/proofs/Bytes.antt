-- The bytes of a question. Assumes nothing.
use Rattle.std.proofs.Common.{◌≡◌, ℕ, ◌+◌, ◌^◌, ◌<◌, ◌≤◌, List, [], ◌∷◌, ◌++◌, length, get_or, take, drop, ℤ, pos, negsuc, neg_ℤ, ◌≤ℤ◌, ◌<ℤ◌, All, refl, ap, ◌∙◌, ⊎_elim, arith, length-drop, take-add, w16, w64, SFits, to_z, of_z}
use mir.Facts.{Fits-of_z}
use Rattle.std.specs.Int.{to_le_bytes, from_le_bytes}
use Rattle.std.proofs.lemmas.Bool.{cases_lt}
use Rattle.std.proofs.lemmas.List.Elements.{All-tail, All-take, All-drop, All-get_or}
use Rattle.std.proofs.lemmas.List.{get_or-drop, get_or_past, drop-drop, length-take-le, take-append-drop, take_all, append-nil}
use Rattle.std.proofs.lemmas.Nat.{le_bytes_2, le_bytes_8, from_le_bytes-to_le_bytes_2, from_le_bytes-to_le_bytes_8}
use Rattle.std.proofs.lemmas.Int.{ints, to_z-of_z, of_z-to_z}
use Rattle.plans.specs.declared.Objective.{Objective}
use Rattle.assessment.specs.Questions.{objective_size, question_size, objective_bytes, question_bytes, objective_at, asked, Writable, QuestionLayout}

pub objective_behind : (xs : List ℕ) → objective_at (drop objective_size xs) 0 ≡ objective_at xs objective_size
objective_behind xs =
    let c = get_or-drop 11 xs 0 0 in
    let b = drop-drop 1 11 xs in
    let t = drop-drop 3 11 xs in
    cc

abbrev Bytes : List ℕ → Type 0
Bytes xs = All (λ b. b < 256) xs

each_small : (xs : List ℕ) → Bytes xs → (i : ℕ) → get_or xs i 0 < 256
each_small xs h i = ⊎_elim (λ l. All-get_or (λ b. b < 256) xs i 0 l h) (λ l. omega (arith, get_or_past xs i 0 l)) (cases_lt i (length xs))

eight_small : (xs : List ℕ) → Bytes xs → from_le_bytes w64 xs < 2 ^ 64
eight_small xs h =
    let e = each_small xs h in
    omega (arith, e 0, e 1, e 2, e 3, e 4, e 5, e 6, e 7)

part : (xs : List ℕ) (k n : ℕ) → k + n ≤ length xs → length (take n (drop k xs)) ≡ n
part xs k n h = length-take-le n (drop k xs) (omega (arith, length-drop k xs))

objective_back : (xs : List ℕ) → objective_size ≤ length xs → Bytes xs → objective_bytes (objective_at xs 0) ≡ take objective_size xs
objective_back [] l h = absurd (omega arith)
objective_back (x ∷ xs) l all =
    let h = All-tail (λ b. b < 256) x xs all in
    let low = take 2 xs in
    let high = take 8 (drop 2 xs) in
    let high_bytes : Bytes high = All-take (λ b. b < 256) 8 (drop 2 xs) (All-drop (λ b. b < 256) 2 xs h) in
    let bound = le_bytes_2 low (from_le_bytes w16 low) (part xs 0 2 (omega arith)) (each_small low (All-take (λ b. b < 256) 2 xs h)) refl in
    let eight = le_bytes_8 high (from_le_bytes w64 high) (part xs 2 8 (omega arith)) (each_small high high_bytes) refl in
    let target = ap (to_le_bytes w64) (of_z-to_z w64 (from_le_bytes w64 high) (eight_small high high_bytes)) ∙ eight in
    let whole : take 10 xs ≡ low ++ high = take-add 2 8 xs in
    cc

sound : (bs : List ℕ) → length bs ≡ question_size → Bytes bs → question_bytes (asked bs) ≡ bs
sound bs e h =
    let behind = length-drop objective_size bs in
    let first = objective_back bs (omega arith) h in
    let second = objective_back (drop objective_size bs) (omega arith) (All-drop (λ b. b < 256) objective_size bs h) in
    let same = ap objective_bytes (objective_behind bs) in
    let last = take_all objective_size (drop objective_size bs) (omega arith) in
    let none = append-nil (objective_bytes (objective_at bs objective_size)) in
    let all = take-append-drop objective_size bs in
    cc

fits : (z : ℤ) → neg_ℤ (pos (2 ^ 63)) ≤ℤ z → z <ℤ pos (2 ^ 63) → SFits w64 z
fits (pos n) l h = record { sfits = omega (arith, ints) }
fits (negsuc n) l h = record { sfits = omega (arith, ints) }

objective_read : (o : Objective) (rest : List ℕ) → Writable o → objective_at (objective_bytes o ++ rest) 0 ≡ o
objective_read o rest w =
    let f = fits o.target w.low w.high in
    let target = ap (to_z w64) (from_le_bytes-to_le_bytes_8 (of_z w64 o.target) (Fits-of_z f).fits) ∙ to_z-of_z w64 o.target f in
    let bound = from_le_bytes-to_le_bytes_2 o.bound w.bound in
    (λ i. record { column = o.column; bound = bound i; target = target i })

complete : (o p : Objective) → Writable o → Writable p → asked (question_bytes (o ∷ p ∷ [])) ≡ o ∷ p ∷ []
complete o p v w =
    let behind = objective_bytes p ++ [] in
    ap (λ x. x ∷ objective_at behind 0 ∷ []) (objective_read o behind v) ∙ ap (λ x. o ∷ x ∷ []) (objective_read p [] w)

pub question_layout : QuestionLayout
question_layout = record { sound = sound; complete = complete }
