-- Whether shares bring each target, objective by objective. Assumes nothing.
use Rattle.std.proofs.Common.{◌≡◌, ℕ, suc, ◌+◌, ◌<◌, ◌≤◌, Bool, true, not, ◌&&◌, List, [], ◌∷◌, length, get_or, drop, ℤ, sum, sym, refl, ap, ◌∙◌, arith, w64, SFits, to_z, of_z}
use lib.Signed.{le_z, lt_z}
use mir.Syntax.{w128}
use Rattle.std.proofs.lemmas.List.{at_drop_more, at_drop_all}
use Rattle.std.proofs.lemmas.Int.{ints, to_z-of_z}
use Rattle.plans.specs.declared.Objective.{Objective}
use Rattle.plans.specs.Totals.{◌·◌}
use Rattle.plans.specs.Plans.{no_objective}
use Rattle.truth.specs.Dockets.{Priced, holds, part_sum}

-- a test of each element, by its number
holds_same : {X : Type 0} (p q : ℕ → X → Bool) (xs : List X) → ((j : ℕ) (x : X) → p j x ≡ q j x) → holds p xs ≡ holds q xs
holds_same p q [] same = refl
holds_same p q (x ∷ xs) same = ap (λ b. b && holds (λ j. p (suc j)) xs) (same 0 x) ∙ ap (λ b. q 0 x && b) (holds_same (λ j. p (suc j)) (λ j. q (suc j)) xs (λ j. same (suc j)))

shift : (i j : ℕ) → i + suc j ≡ i + 1 + j
shift i j = omega arith

none : (i : ℕ) → i + 0 ≡ i
none i = omega arith

holds_more : {X : Type 0} (P : ℕ → X → Bool) (xs : List X) (i : ℕ) (d : X) → i < length xs →
    holds (λ j. P (i + j)) (drop i xs) ≡ (P i (get_or xs i d) && holds (λ j. P (i + 1 + j)) (drop (i + 1) xs))
holds_more P xs i d h =
    let rest : holds (λ j. P (i + suc j)) (drop (i + 1) xs) ≡ holds (λ j. P (i + 1 + j)) (drop (i + 1) xs) =
    holds_same (λ j. P (i + suc j)) (λ j. P (i + 1 + j)) (drop (i + 1) xs) (λ j x. ap (λ n. P n x) (shift i j)) in
    at_drop_more (holds (λ j. P (i + j))) xs i d h
    ∙ ap (λ n. P n (get_or xs i d) && holds (λ j. P (i + suc j)) (drop (i + 1) xs)) (none i)
    ∙ ap (λ b. P i (get_or xs i d) && b) rest

-- what the test of one objective tells
le_not_lt : (x y : ℤ) → le_z x y ≡ not (lt_z y x)
le_not_lt x y = grind (arith, ints)

pub tested : (w v : ℕ) (z s a b : ℤ) (t : Bool) → w ≡ v → SFits w64 z → SFits w128 a → SFits w128 b → a ≡ s → b ≡ w · to_z w64 (of_z w64 z) →
    lt_z (to_z w128 (of_z w128 a)) (to_z w128 (of_z w128 b)) ≡ t → le_z (v · z) s ≡ not t
tested w v z s a b t ew f fa fb ea eb h =
    let e : to_z w128 (of_z w128 b) ≡ v · z = to_z-of_z w128 b fb ∙ eb ∙ ap (λ y. w · y) (to_z-of_z w64 z f) ∙ ap (λ n. n · z) ew in
    le_not_lt (v · z) s ∙ ap not (ap (λ y. lt_z y (v · z)) (sym (to_z-of_z w128 a fa ∙ ea)) ∙ ap (lt_z (to_z w128 (of_z w128 a))) (sym e) ∙ h)

module _ (ss : List ℕ) (rs : List Priced) where
  abbrev pub met : ℕ → Objective → Bool
  met i o = le_z (sum ss · o.target) (part_sum ss rs i)

  -- the objectives from i on
  abbrev pub met_from : List Objective → ℕ → Bool
  met_from os i = holds (λ j. met (i + j)) (drop i os)

  pub met_more : (os : List Objective) (i : ℕ) (b : Bool) → i < length os → met i (get_or os i no_objective) ≡ b → met_from os i ≡ (b && met_from os (i + 1))
  met_more os i b h e = holds_more met os i no_objective h ∙ ap (λ v. v && met_from os (i + 1)) e

  pub met_all : (os : List Objective) (i : ℕ) → length os ≤ i → met_from os i ≡ true
  met_all os i h = at_drop_all (holds (λ j. met (i + j))) os i h
