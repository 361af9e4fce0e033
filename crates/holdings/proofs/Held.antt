-- Objectives within the limits. Assumes nothing.
use Rattle.std.proofs.Common.{◌≡◌, ℕ, zero, suc, ◌+◌, ◌^◌, ◌<◌, ◌≤◌, true, List, [], ◌∷◌, ◌++◌, length, get_or, take, ℤ, pos, neg_ℤ, nat_abs, ◌≤ℤ◌, sym, refl, ap, ◌∙◌, subst, arith}
use borrow.Author.Differences.{ints}
use lib.Signed.{le_z}
use Rattle.std.proofs.lemmas.List.{length-take-le}
use Rattle.std.proofs.lemmas.Bool.{and_parts}
use Rattle.plans.specs.declared.Objective.{Objective}
use Rattle.plans.specs.Plans.{no_objective}
use Rattle.truth.specs.Dockets.{each_by, aimed}
use Rattle.truth.specs.Calls.{small_target, small_targets}
use Rattle.truth.proofs.Tests.{leading_passes}
use Rattle.truth.proofs.Targets.{length_each_by}
use Rattle.few.proofs.Lengths.{listed_within}
use Rattle.holdings.specs.declared.objectives.Objectives.{Objectives}
use Rattle.holdings.specs.Views.{held}
use Rattle.holdings.specs.Limits.{Allowed, AllAllowed}

from_small_target : (z : ℤ) → small_target z ≡ true → (neg_ℤ (pos (2 ^ 40)) ≤ℤ z) × (z ≤ℤ pos (2 ^ 40))
from_small_target z h =
    let p = and_parts (le_z (neg_ℤ (pos (2 ^ 40))) z) (le_z z (pos (2 ^ 40))) h in
    let a = p.0 in
    let b = p.1 in
    (grind (arith, ints), grind (arith, ints))

getD_each_by : {X Y : Type 0} (f : ℕ → X → Y) (xs : List X) (k : ℕ) (d : X) (e : Y) → k < length xs → get_or (each_by f xs) k e ≡ f k (get_or xs k d)
getD_each_by f [] k d e h = absurd (omega arith)
getD_each_by f (x ∷ xs) zero d e h = refl
getD_each_by f (x ∷ xs) (suc k) d e h = getD_each_by (λ j. f (suc j)) xs k d e (omega arith)

-- one element more
pub each_by_more : {X Y : Type 0} (f : ℕ → X → Y) (xs : List X) (k : ℕ) (d : X) → k < length xs →
    each_by f (take (k + 1) xs) ≡ each_by f (take k xs) ++ (f k (get_or xs k d) ∷ [])
each_by_more f [] k d h = absurd (omega arith)
each_by_more f (x ∷ xs) zero d h = refl
each_by_more f (x ∷ xs) (suc k) d h =
    let n : suc k + 1 ≡ suc (k + 1) = omega arith in
    rw n (ap (λ ys. f 0 x ∷ ys) (each_by_more (λ j. f (suc j)) xs k d (omega arith)))

-- of the first k
pub length_aimed : (ts : List ℤ) (os : List Objective) (k : ℕ) → k ≤ length os → length (each_by (aimed ts) (take k os)) ≡ k
length_aimed ts os k h = length_each_by (aimed ts) (take k os) ∙ length-take-le k os h

-- new targets within the limits
pub aimed_allowed : (ts : List ℤ) (os : List Objective) → AllAllowed os → small_targets ts ≡ length os → AllAllowed (each_by (aimed ts) os)
aimed_allowed ts os small all k h =
    let l : k < length os = omega (arith, length_each_by (aimed ts) os) in
    let t = from_small_target (get_or ts k (pos 0)) (leading_passes small_target ts (pos 0) k (omega arith)) in
    let o = small k l in
    subst Allowed (sym (getD_each_by (aimed ts) os k no_objective no_objective l)) (o.0, o.1, t.0, t.1)

pub target_near : (s : Objectives) (k : ℕ) → k < length (held s) → nat_abs (get_or (held s) k no_objective).target ≤ 2 ^ 40
target_near s k h = let a = (s.small k h).2 in let b = (s.small k h).3 in omega (arith, ints)

pub held_within : (s : Objectives) → length (held s) ≤ 4
held_within s = listed_within s.each
