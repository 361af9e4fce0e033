-- Weighted amounts of branches, and how large a lawful blend gets. Assumes nothing.
use Rattle.std.proofs.Common.{◌≡◌, ℕ, suc, ◌+◌, ◌<◌, ◌≤◌, List, [], ◌∷◌, map, length, get_or, ℤ, pos, ◌+ℤ◌, neg_ℤ, nat_abs, ◌≤ℤ◌, All, refl, ap, ◌∙◌, arith}
use borrow.Author.Differences.{ints}
use Rattle.std.proofs.lemmas.List.Elements.{All-nil, All-cons, All-head, All-tail}
use Rattle.mdp.specs.Table.{Branch, Choice, total_weight}
use Rattle.plans.specs.Totals.{◌·◌, total}
use Rattle.plans.specs.Blends.{Weighed, AtMost, all_weights, added}
use Rattle.plans.specs.Plans.{no_branch, branch_weight}
use Rattle.plans.specs.Sweep.{weighed}
use Rattle.plans.specs.Claims.{weighed_by, sum_of, BlendWithin}

-- what holds of the amount of each branch, by its number
pub all_weighed : (P : ℤ → Type 0) (f : ℕ → Branch → ℤ) (bs : Choice) → ((j : ℕ) → j < length bs → P (f j (get_or bs j no_branch))) →
    All (λ x. P x.amount) (weighed_by f bs)
all_weighed P f [] h = All-nil (λ (x : Weighed). P x.amount)
all_weighed P f (b ∷ bs) h =
    All-cons (λ (x : Weighed). P x.amount) _ (weighed_by (λ j. f (suc j)) bs) (h 0 (omega arith)) (all_weighed P (λ j. f (suc j)) bs (λ j l. h (suc j) (omega arith)))

pub weighed_le : (f g : ℕ → Branch → ℤ) (bs : Choice) → ((j : ℕ) → j < length bs → f j (get_or bs j no_branch) ≤ℤ g j (get_or bs j no_branch)) →
    AtMost (weighed_by f bs) (weighed_by g bs)
weighed_le f g [] h = tt
weighed_le f g (b ∷ bs) h = (refl, h 0 (omega arith), weighed_le (λ j. f (suc j)) (λ j. g (suc j)) bs (λ j l. h (suc j) (omega arith)))

pub weighed_same : (f : ℕ → Branch → ℤ) (g : Branch → ℤ) (bs : Choice) → ((j : ℕ) → j < length bs → f j (get_or bs j no_branch) ≡ g (get_or bs j no_branch)) →
    weighed_by f bs ≡ weighed g bs
weighed_same f g [] h = refl
weighed_same f g (b ∷ bs) h =
    λ i. record { weight = b.weight; amount = h 0 (omega arith) i } ∷ weighed_same (λ j. f (suc j)) g bs (λ j l. h (suc j) (omega arith)) i

pub all_weights_by : (f : ℕ → Branch → ℤ) (bs : Choice) → all_weights (weighed_by f bs) ≡ total_weight bs
all_weights_by f [] = refl
all_weights_by f (b ∷ bs) = ap (λ n. b.weight + n) (all_weights_by (λ j. f (suc j)) bs)

pub sum_by : (f : ℕ → Branch → ℤ) (bs : Choice) → sum_of (weighed_by f bs) ≡ total branch_weight f bs
sum_by f [] = refl
sum_by f (b ∷ bs) = ap (λ z. b.weight · f 0 b +ℤ z) (sum_by (λ j. f (suc j)) bs)

-- ---- the same weights with amounts that are all c
empty : Weighed → Weighed
empty x = record { weight = x.weight; amount = pos 0 }

level : ℤ → List Weighed → List Weighed
level c xs = map (added c) (map empty xs)

empty_weights : (xs : List Weighed) → all_weights (map empty xs) ≡ all_weights xs
unfolding empty
empty_weights [] = refl
empty_weights (x ∷ xs) = ap (λ n. x.weight + n) (empty_weights xs)

empty_all : (xs : List Weighed) → All (λ x. x.amount ≡ pos 0) (map empty xs)
unfolding empty
empty_all [] = All-nil (λ (x : Weighed). x.amount ≡ pos 0)
empty_all (x ∷ xs) = All-cons (λ (x : Weighed). x.amount ≡ pos 0) (empty x) (map empty xs) refl (empty_all xs)

level_around : (a : ℕ) (xs : List Weighed) → All (λ x. nat_abs x.amount ≤ a) xs → AtMost (level (neg_ℤ (pos a)) xs) xs × AtMost xs (level (pos a) xs)
unfolding level empty
level_around a [] h = (tt, tt)
level_around a (x ∷ xs) h =
    let l : nat_abs x.amount ≤ a = All-head (λ (x : Weighed). nat_abs x.amount ≤ a) x xs h in
    let r = level_around a xs (All-tail (λ (x : Weighed). nat_abs x.amount ≤ a) x xs h) in
    ((refl, omega (arith, ints), r.0), (refl, omega (arith, ints), r.1))

pub blend_within : BlendWithin
unfolding level
blend_within mean xs d a law h e small =
    let r = level_around a xs small in
    let low = law.larger (level (neg_ℤ (pos a)) xs) xs d h r.0 in
    let high = law.larger xs (level (pos a) xs) d h r.1 in
    let at : (c : ℤ) → mean (level c xs) d ≡ mean (map empty xs) d +ℤ c = λ c. law.shifted c (map empty xs) d h (empty_weights xs ∙ e) in
    let z = law.none (map empty xs) d h (empty_all xs) in
    omega (arith, ints, at (neg_ℤ (pos a)), at (pos a))
