-- Lines, piece by piece. Assumes nothing.
use Rattle.std.proofs.Common.{◌≡◌, ℕ, List, [], ◌∷◌, ◌++◌, decimal, sym, refl, ap, ◌∙◌}
use Rattle.std.specs.List.{flat_map}
use Rattle.std.proofs.lemmas.List.{append-nil, take_all}
use Rattle.text.specs.declared.Text.{Text}
use Rattle.text.specs.Texts.{text_of, followed_by}
use Rattle.text.proofs.Lengths.{length_text}
use Rattle.text.proofs.Followed.{followed_twice}
use Rattle.assessment.specs.Listings.{spaced}

pub then_none : (t : Text) → followed_by (text_of t) [] ≡ text_of t
then_none t = rw append-nil (take_all 64 (text_of t) (length_text t))

-- one piece after the other
abbrev pub put : List ℕ → List (List ℕ) → List ℕ
put t [] = t
put t (a ∷ bs) = put (followed_by t a) bs

abbrev pub whole : List ℕ → List (List ℕ) → List ℕ
whole a [] = a
whole a (b ∷ bs) = a ++ whole b bs

pub put_whole : (t a : List ℕ) (bs : List (List ℕ)) → put (followed_by t a) bs ≡ followed_by t (whole a bs)
put_whole t a [] = refl
put_whole t a (b ∷ bs) = put_whole (followed_by t a) b bs ∙ followed_twice t a (whole b bs)

-- a number behind a space
abbrev pub behind : ℕ → List ℕ
behind n = 32 ∷ decimal n

pub spaced_behind : (n : ℕ) (ns : List ℕ) → spaced (n ∷ ns) ≡ decimal n ++ flat_map behind ns
spaced_behind n [] = sym (append-nil (decimal n))
spaced_behind n (m ∷ ns) = ap (λ l. decimal n ++ (32 ∷ l)) (spaced_behind m ns)
