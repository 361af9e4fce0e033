-- What stands where in a list that is made of others.
use Rattle.std.proofs.Common.{◌≡◌, ℕ, zero, suc, ◌+◌, ◌<◌, List, [], ◌∷◌, ◌++◌, map, length, refl, ap, arith}
use Rattle.std.specs.Option.{option_map}
use Rattle.std.specs.List.{slice_get}

pub nth_map : {X Y : Type 0} (f : X → Y) (xs : List X) (i : ℕ) → slice_get (map f xs) i ≡ option_map f (slice_get xs i)
nth_map f [] i = refl
nth_map f (x ∷ xs) zero = refl
nth_map f (x ∷ xs) (suc i) = nth_map f xs i

pub nth_left : {X : Type 0} (xs ys : List X) (i : ℕ) → i < length xs → slice_get (xs ++ ys) i ≡ slice_get xs i
nth_left [] ys i h = absurd (omega arith)
nth_left (x ∷ xs) ys zero h = refl
nth_left (x ∷ xs) ys (suc i) h = nth_left xs ys i (omega arith)

pub nth_right : {X : Type 0} (xs ys : List X) (n i : ℕ) → length xs + i ≡ n → slice_get (xs ++ ys) n ≡ slice_get ys i
nth_right [] ys n i e = let z : n ≡ i = omega arith in ap (slice_get ys) z
nth_right (x ∷ xs) ys zero i e = absurd (omega arith)
nth_right (x ∷ xs) ys (suc n) i e = nth_right xs ys n i (omega arith)
