-- What the questions about a layer's state answer, by the answers about the state below that it follows.
use Rattle.std.proofs.Common.{◌≡◌, ℕ, zero, suc, ◌<◌, List, [], ◌∷◌, ◌++◌, map, length, set, ℤ, IfSome, Some, None, Option, sym, refl, ap, ◌∙◌, arith}
use lib.ListN.{length-map}
use Rattle.std.specs.Option.{option_map}
use Rattle.std.specs.List.{slice_get}
use Rattle.mdp.specs.declared.WholeBranch.{WholeBranch}
use Rattle.mdp.specs.Limits.{max_columns}
use Rattle.mdp.specs.Table.{Branch, Table, Facts}
use Rattle.mdp.specs.Questions.{bind, state_of, choice_of, branch_of, choice_count, branch_count, weight_of, next_of, reward_of, whole_branch}
use Rattle.tables.specs.Whole.{all_rewards, whole_of, whole_extended}
use Rattle.tables.specs.Layer.{each_branch, extended}
use Rattle.tables.proofs.Places.{nth_map, nth_right}
use Rattle.tables.proofs.Asked.{InTable, branch_found, whole_branch_is}

-- state s of u is state r of t with each branch changed by f
pub record Follows (u : Table) (s : ℕ) (t : Table) (r : ℕ) (f : Branch → Branch) : Type 0 where
  pub state : state_of u s ≡ option_map (each_branch f) (state_of t r)

nth_mapped : {X Y : Type 0} (f : X → Y) (o : Option (List X)) (i : ℕ) → bind (option_map (map f) o) (λ ys. slice_get ys i) ≡ option_map f (bind o (λ xs. slice_get xs i))
nth_mapped f None i = refl
nth_mapped f (Some xs) i = nth_map f xs i

length_mapped : {X Y : Type 0} (f : X → Y) (o : Option (List X)) → option_map length (option_map (map f) o) ≡ option_map length o
length_mapped f None = refl
length_mapped f (Some xs) = ap Some (length-map xs f)

-- what is asked of a branch that f changes, by what is asked of the branch
mapped_as : {X Y Z W : Type 0} (P : X → Type 0) (q : Y → Z) (f : X → Y) (g : W → Z) (p : X → W) (o : Option X) → IfSome o P → ((x : X) → P x → q (f x) ≡ g (p x)) → option_map q (option_map f o) ≡ option_map g (option_map p o)
mapped_as P q f g p None h e = refl
mapped_as P q f g p (Some x) h e = ap Some (e x h)

bind_as : {X Y Z : Type 0} (P : X → Type 0) (q : Y → Option Z) (f : X → Y) (p : X → Option Z) (o : Option X) → IfSome o P → ((x : X) → P x → q (f x) ≡ p x) → bind (option_map f o) q ≡ bind o p
bind_as P q f p None h e = refl
bind_as P q f p (Some x) h e = e x h

module _ {u : Table} {s : ℕ} {t : Table} {r : ℕ} {f : Branch → Branch} (h : Follows u s t r f) where
  pub follows_choices : choice_count u s ≡ choice_count t r
  follows_choices = ap (option_map length) h.state ∙ length_mapped (map f) (state_of t r)

  pub follows_choice : (c : ℕ) → choice_of u s c ≡ option_map (map f) (choice_of t r c)
  follows_choice c = ap (λ o. bind o (λ cs. slice_get cs c)) h.state ∙ nth_mapped (map f) (state_of t r) c

  pub follows_branches : (c : ℕ) → branch_count u s c ≡ branch_count t r c
  follows_branches c = ap (option_map length) (follows_choice c) ∙ length_mapped f (choice_of t r c)

  pub follows_branch : (c b : ℕ) → branch_of u s c b ≡ option_map f (branch_of t r c b)
  follows_branch c b = ap (λ o. bind o (λ bs. slice_get bs b)) (follows_choice c) ∙ nth_mapped f (choice_of t r c) b

  module _ (k : Facts t) where
    -- a part of a branch that f changes by g
    pub follows_part : {X Y : Type 0} (p : Branch → X) (q : Branch → Y) (g : X → Y) → ((x : Branch) → InTable t x → q (f x) ≡ g (p x)) → (c b : ℕ) → option_map q (branch_of u s c b) ≡ option_map g (option_map p (branch_of t r c b))
    follows_part p q g e c b = ap (option_map q) (follows_branch c b) ∙ mapped_as (InTable t) q f g p (branch_of t r c b) (branch_found t r c b k) e

    pub follows_option : {X : Type 0} (p q : Branch → Option X) → ((x : Branch) → InTable t x → q (f x) ≡ p x) → (c b : ℕ) → bind (branch_of u s c b) q ≡ bind (branch_of t r c b) p
    follows_option p q e c b = ap (λ o. bind o q) (follows_branch c b) ∙ bind_as (InTable t) q f p (branch_of t r c b) (branch_found t r c b k) e

    pub follows_whole : (g : WholeBranch → WholeBranch) → ((x : Branch) → InTable t x → whole_of (f x) ≡ g (whole_of x)) → (c b : ℕ) → whole_branch u s c b ≡ option_map g (whole_branch t r c b)
    follows_whole g e c b = whole_branch_is u s c b ∙ (follows_part whole_of whole_of g e c b ∙ ap (option_map g) (sym (whole_branch_is t r c b)))

-- one more reward
pub all_rewards_more : (rs : List ℤ) (v : ℤ) → length rs < max_columns → all_rewards (rs ++ (v ∷ [])) ≡ set (all_rewards rs) (length rs) v
all_rewards_more [] v h = refl
all_rewards_more (a ∷ []) v h = refl
all_rewards_more (a ∷ b ∷ []) v h = refl
all_rewards_more (a ∷ b ∷ c ∷ []) v h = refl
all_rewards_more (a ∷ b ∷ c ∷ d ∷ rs) v h = absurd (omega arith)

pub whole_more : (x : Branch) (n : ℕ) (v : ℤ) (columns : ℕ) → length x.rewards ≡ columns → columns < max_columns → whole_of (extended x n v) ≡ whole_extended (whole_of x) columns n v
whole_more x n v columns e l =
    let k : length x.rewards < max_columns = omega arith in
    ap (λ rs. record { weight = x.weight; next = n; rewards = rs }) (all_rewards_more x.rewards v k ∙ ap (λ c. set (all_rewards x.rewards) c v) e)

pub reward_kept : (rs : List ℤ) (v : ℤ) (i : ℕ) → (i ≡ length rs → ⊥) → slice_get (rs ++ (v ∷ [])) i ≡ slice_get rs i
reward_kept [] v zero h = absurd (h refl)
reward_kept [] v (suc i) h = refl
reward_kept (r ∷ rs) v zero h = refl
reward_kept (r ∷ rs) v (suc i) h = reward_kept rs v i (λ e. h (ap suc e))

pub reward_more : (rs : List ℤ) (v : ℤ) (i : ℕ) → i ≡ length rs → slice_get (rs ++ (v ∷ [])) i ≡ Some v
reward_more rs v i e = nth_right rs (v ∷ []) i 0 (omega arith)

pub mapped_id : {X : Type 0} (o : Option X) → option_map (λ x. x) o ≡ o
mapped_id None = refl
mapped_id (Some x) = refl

pub mapped_mapped : {X Y Z : Type 0} (g : Y → Z) (f : X → Y) (o : Option X) → option_map (λ x. g (f x)) o ≡ option_map g (option_map f o)
mapped_mapped g f None = refl
mapped_mapped g f (Some x) = refl

bind_some : {X Y : Type 0} (f : X → Y) (o : Option X) → bind o (λ x. Some (f x)) ≡ option_map f o
bind_some f None = refl
bind_some f (Some x) = refl

-- each branch goes on by n, and earns v in one more column
module _ {u : Table} {s : ℕ} {t : Table} {r : ℕ} (n : Branch → ℕ) (v : Branch → ℤ) (h : Follows u s t r (λ x. extended x (n x) (v x))) (k : Facts t) (c b : ℕ) where
  pub extended_weight : weight_of u s c b ≡ weight_of t r c b
  extended_weight = follows_part h k (λ x. x.weight) (λ x. x.weight) (λ w. w) (λ x p. refl) c b ∙ mapped_id (weight_of t r c b)

  pub extended_next : (g : ℕ → ℕ) → ((x : Branch) → n x ≡ g x.next) → next_of u s c b ≡ option_map g (next_of t r c b)
  extended_next g e = follows_part h k (λ x. x.next) (λ x. x.next) g (λ x p. e x) c b

  pub extended_reward : (i : ℕ) → (i ≡ t.columns → ⊥) → reward_of u s c b i ≡ reward_of t r c b i
  extended_reward i d = follows_option h k (λ x. slice_get x.rewards i) (λ x. slice_get x.rewards i) (λ x p. reward_kept x.rewards (v x) i (λ e. d (e ∙ p.rewards_all))) c b

  pub extended_last : (i : ℕ) → i ≡ t.columns → reward_of u s c b i ≡ option_map v (branch_of t r c b)
  extended_last i e = follows_option h k (λ x. Some (v x)) (λ x. slice_get x.rewards i) (λ x p. reward_more x.rewards (v x) i (e ∙ sym p.rewards_all)) c b ∙ bind_some v (branch_of t r c b)

  pub extended_whole : t.columns < max_columns → (g : ℕ → ℕ) (m : WholeBranch → ℤ) → ((x : Branch) → n x ≡ g x.next) → ((x : Branch) → InTable t x → v x ≡ m (whole_of x))
      → whole_branch u s c b ≡ option_map (λ w. whole_extended w t.columns (g w.next) (m w)) (whole_branch t r c b)
  extended_whole l g m e d =
      follows_whole h k (λ w. whole_extended w t.columns (g w.next) (m w))
      (λ x p. whole_more x (n x) (v x) t.columns p.rewards_all l ∙ (ap (λ a. whole_extended (whole_of x) t.columns a (v x)) (e x) ∙ ap (whole_extended (whole_of x) t.columns (g x.next)) (d x p))) c b
