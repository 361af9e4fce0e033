-- What is printed of a docket. Assumes nothing.
use Rattle.std.specs.Prelude.{ℕ, List, [], ◌∷◌, ◌++◌, codes, decimal}
use Rattle.std.specs.Fmt.{signed_decimal}
use Rattle.std.specs.List.{flat_map}
use Rattle.plans.specs.Claims.{Candidate}
use Rattle.truth.specs.Dockets.{Docket, Priced, Verdict, Open, Achieved, Refuted, backed}

-- numbers parted by single spaces
abbrev pub spaced : List ℕ → List ℕ
spaced [] = []
spaced (n ∷ []) = decimal n
spaced (n ∷ m ∷ ns) = decimal n ++ (32 ∷ spaced (m ∷ ns))

-- a line ends with a line feed
abbrev pub line : List ℕ → List ℕ
line text = text ++ 10 ∷ []

-- a row with its share
abbrev pub share_line : Candidate → List ℕ
share_line c = line (spaced (c.share ∷ c.weights))

-- the verdict; then the rows with positive shares, or the weights and both numbers
abbrev pub lines_of : Verdict → List Priced → List ℕ
lines_of Open rs = line (codes "open")
lines_of (Achieved ss) rs = line (codes "achieved") ++ flat_map share_line (backed ss rs)
lines_of (Refuted ws c s) rs = line (codes "refuted") ++ (line (spaced ws) ++ line (signed_decimal c ++ (32 ∷ signed_decimal s)))

abbrev pub listing : Docket → List ℕ
listing d = lines_of d.verdict d.table
