-- Bytes after bytes, and bytes that find room. Assumes nothing.
use Rattle.std.proofs.Common.{◌≡◌, ℕ, zero, suc, ◌≤◌, List, [], ◌∷◌, ◌++◌, length, take, refl, ap, ◌∙◌, append_assoc}
use Rattle.std.proofs.lemmas.List.{take_all}
use Rattle.text.specs.Texts.{max_text, followed_by}

-- what lies past the front makes no difference to it
take_front : (n : ℕ) (xs ys : List ℕ) → take n (take n xs ++ ys) ≡ take n (xs ++ ys)
take_front zero xs ys = refl
take_front (suc n) [] ys = refl
take_front (suc n) (x ∷ xs) ys = ap (λ l. x ∷ l) (take_front n xs ys)

pub followed_twice : (xs a b : List ℕ) → followed_by (followed_by xs a) b ≡ followed_by xs (a ++ b)
followed_twice xs a b = take_front max_text (xs ++ a) b ∙ ap (take max_text) (append_assoc xs a b)

-- the same, of texts that are known
pub followed_on : {t u : List ℕ} (xs a b : List ℕ) → t ≡ followed_by xs a → u ≡ followed_by t b → u ≡ followed_by xs (a ++ b)
followed_on xs a b e f = f ∙ ap (λ l. followed_by l b) e ∙ followed_twice xs a b

pub followed_fits : (xs a : List ℕ) → length (xs ++ a) ≤ 64 → followed_by xs a ≡ xs ++ a
followed_fits xs a h = take_all max_text (xs ++ a) h
