-- What a model's answer is, with a default, in the table's lists. Assumes nothing.
use Rattle.std.proofs.Common.{◌≡◌, ℕ, zero, suc, List, [], ◌∷◌, length, get_or, ℤ, pos, Some, None, Option, unwrap_or, sym, refl, ap, ◌∙◌}
use Rattle.std.specs.Option.{option_map}
use Rattle.std.specs.List.{slice_get}
use Rattle.mdp.specs.declared.WholeBranch.{WholeBranch}
use Rattle.mdp.specs.Table.{Table, Branch, Choice, State}
use Rattle.mdp.specs.Questions.{bind, state_of, choice_of, branch_of, choice_count, branch_count, whole_branch}
use Rattle.plans.specs.Plans.{no_branch, choices_at, choice_at}
use Rattle.sweep.specs.Steps.{padded}

nth_or : {X : Type 0} (xs : List X) (i : ℕ) (d : X) → unwrap_or (slice_get xs i) d ≡ get_or xs i d
nth_or [] i d = refl
nth_or (x ∷ xs) zero d = refl
nth_or (x ∷ xs) (suc i) d = nth_or xs i d

bind_or : {X Y : Type 0} (o : Option X) (f : X → Option Y) (x : X) (d : Y) → unwrap_or (f x) d ≡ d → unwrap_or (bind o f) d ≡ unwrap_or (f (unwrap_or o x)) d
bind_or None f x d e = sym e
bind_or (Some y) f x d e = refl

mapped_or : {X Y : Type 0} (o : Option X) (f : X → Y) (x : X) → unwrap_or (option_map f o) (f x) ≡ f (unwrap_or o x)
mapped_or None f x = refl
mapped_or (Some y) f x = refl

choice_or : (t : Table) (s k : ℕ) → unwrap_or (choice_of t s k) [] ≡ choice_at t s k
choice_or t s k =
    bind_or (state_of t s) (λ cs. slice_get cs k) [] [] refl ∙ nth_or (unwrap_or (state_of t s) []) k [] ∙ ap (λ (cs : State). get_or cs k []) (nth_or t.states s [])

branch_or : (t : Table) (s k j : ℕ) → unwrap_or (branch_of t s k j) no_branch ≡ get_or (choice_at t s k) j no_branch
branch_or t s k j =
    bind_or (choice_of t s k) (λ bs. slice_get bs j) [] no_branch refl ∙ nth_or (unwrap_or (choice_of t s k) []) j no_branch ∙ ap (λ (bs : Choice). get_or bs j no_branch) (choice_or t s k)

-- each answer: o is what the model says, and r is that or the default
pub choices_read : (t : Table) (s : ℕ) (o : Option ℕ) (r : ℕ) → o ≡ choice_count t s → r ≡ unwrap_or o 0 → r ≡ length (choices_at t s)
choices_read t s o r e f = f ∙ ap (λ (o : Option ℕ). unwrap_or o 0) e ∙ mapped_or (state_of t s) length [] ∙ ap length (nth_or t.states s [])

pub branches_read : (t : Table) (s k : ℕ) (o : Option ℕ) (r : ℕ) → o ≡ branch_count t s k → r ≡ unwrap_or o 0 → r ≡ length (choice_at t s k)
branches_read t s k o r e f = f ∙ ap (λ (o : Option ℕ). unwrap_or o 0) e ∙ mapped_or (choice_of t s k) length [] ∙ ap length (choice_or t s k)

-- a branch's weight, next state and rewards, asked for together
rewarded : Option Branch → ℕ → ℤ
rewarded o i = unwrap_or (bind o (λ x. slice_get x.rewards i)) (pos 0)

asked : Option Branch → Option WholeBranch
asked o =
    bind (option_map (λ x. x.weight) o) (λ w. option_map (λ n. record { weight = w; next = n; rewards = rewarded o 0 ∷ rewarded o 1 ∷ rewarded o 2 ∷ rewarded o 3 ∷ [] }) (option_map (λ x. x.next) o))

with_rewards : Branch → ℤ → ℤ → ℤ → ℤ → WholeBranch
with_rewards b r₀ r₁ r₂ r₃ = record { weight = b.weight; next = b.next; rewards = r₀ ∷ r₁ ∷ r₂ ∷ r₃ ∷ [] }

asked_or : (o : Option Branch) → unwrap_or (asked o) (padded no_branch) ≡ padded (unwrap_or o no_branch)
unfolding asked rewarded with_rewards
asked_or None = refl
asked_or (Some b) =
    let e : (i : ℕ) → unwrap_or (slice_get b.rewards i) (pos 0) ≡ get_or b.rewards i (pos 0) = λ i. nth_or b.rewards i (pos 0) in
    ap (λ r. with_rewards b r (rewarded (Some b) 1) (rewarded (Some b) 2) (rewarded (Some b) 3)) (e 0) ∙ ap (λ r. with_rewards b (get_or b.rewards 0 (pos 0)) r (rewarded (Some b) 2) (rewarded (Some b) 3)) (e 1) ∙ ap (λ r. with_rewards b (get_or b.rewards 0 (pos 0)) (get_or b.rewards 1 (pos 0)) r (rewarded (Some b) 3)) (e 2) ∙ ap (λ r. with_rewards b (get_or b.rewards 0 (pos 0)) (get_or b.rewards 1 (pos 0)) (get_or b.rewards 2 (pos 0)) r) (e 3)

pub branch_read : (t : Table) (s k j : ℕ) (o : Option WholeBranch) (r : WholeBranch) → o ≡ whole_branch t s k j → r ≡ unwrap_or o (padded no_branch) → r ≡ padded (get_or (choice_at t s k) j no_branch)
unfolding asked rewarded
branch_read t s k j o r e f =
    f ∙ ap (λ (o : Option WholeBranch). unwrap_or o (padded no_branch)) e ∙ asked_or (branch_of t s k j) ∙ ap padded (branch_or t s k j)
