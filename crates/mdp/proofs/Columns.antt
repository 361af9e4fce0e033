-- A list of four, item by item.
use Rattle.std.proofs.Common.{rules, ◌≡◌, List, [], ◌∷◌, length, slice_index_or}

pub four_items : {A : Type 0} (ys : List A) (y0 y1 y2 y3 : A) → length ys ≡ 4 → slice_index_or ys 0 y0 ≡ y0 → slice_index_or ys 1 y1 ≡ y1 → slice_index_or ys 2 y2 ≡ y2 → slice_index_or ys 3 y3 ≡ y3 → ys ≡ y0 ∷ y1 ∷ y2 ∷ y3 ∷ []
four_items {A = A} (a ∷ b ∷ c ∷ d ∷ []) y0 y1 y2 y3 long e0 e1 e2 e3 = search (e0, e1, e2, e3, rules)
four_items {A = A} [] y0 y1 y2 y3 long e0 e1 e2 e3 = search (long, rules)
four_items {A = A} (a ∷ []) y0 y1 y2 y3 long e0 e1 e2 e3 = search (long, rules)
four_items {A = A} (a ∷ (b ∷ [])) y0 y1 y2 y3 long e0 e1 e2 e3 = search (long, rules)
four_items {A = A} (a ∷ (b ∷ (c ∷ []))) y0 y1 y2 y3 long e0 e1 e2 e3 = search (long, rules)
four_items {A = A} (a ∷ (b ∷ (c ∷ (d ∷ (_ ∷ _))))) y0 y1 y2 y3 long e0 e1 e2 e3 = search (long, rules)
