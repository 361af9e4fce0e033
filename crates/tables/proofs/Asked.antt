-- What the answers to questions have by the facts of the table, and what a whole branch is.
use Rattle.std.proofs.Common.{◌≡◌, ℕ, zero, suc, ◌<◌, ◌≤◌, List, [], ◌∷◌, length, take, get_or, ℤ, pos, nat_abs, IfSome, Some, None, All, Option, unwrap_or, sym, refl, ap, ◌∙◌, subst, arith}
use Rattle.std.specs.Option.{option_map}
use Rattle.std.specs.List.{slice_get}
use Rattle.std.proofs.lemmas.Option.{slice_get-get_or, slice_get_past}
use Rattle.std.proofs.lemmas.List.Elements.{All-head, All-tail, All-from_recursion}
use Rattle.mdp.specs.declared.WholeBranch.{WholeBranch}
use Rattle.mdp.specs.Limits.{max_columns, max_reward}
use Rattle.mdp.specs.Table.{Branch, Table, BranchFacts, ChoiceFacts, StateFacts, Facts}
use Rattle.mdp.specs.Questions.{bind, state_of, choice_of, branch_of, weight_of, next_of, reward_of, whole_branch}
use Rattle.tables.specs.Whole.{all_rewards, whole_of}

found_nth : {X : Type 0} (P : X → Type 0) (xs : List X) (i : ℕ) → All P xs → IfSome (slice_get xs i) P
found_nth P [] i a = tt
found_nth P (x ∷ xs) zero a = All-head P x xs a
found_nth P (x ∷ xs) (suc i) a = found_nth P xs i (All-tail P x xs a)

found_bind : {X Y : Type 0} (P : X → Type 0) (Q : Y → Type 0) (o : Option X) (f : X → Option Y) → IfSome o P → ((x : X) → P x → IfSome (f x) Q) → IfSome (bind o f) Q
found_bind P Q None f h k = tt
found_bind P Q (Some x) f h k = k x h

abbrev pub InTable : Table → Branch → Type 0
InTable t b = BranchFacts (length t.states) t.divisor t.columns b

pub branch_found : (t : Table) (s c b : ℕ) → Facts t → IfSome (branch_of t s c b) (InTable t)
branch_found t s c b f =
    let S = length t.states in
    found_bind (ChoiceFacts S t.divisor t.columns) (InTable t) (choice_of t s c) (λ bs. slice_get bs b)
    (found_bind (StateFacts S t.divisor t.columns) (ChoiceFacts S t.divisor t.columns) (state_of t s) (λ cs. slice_get cs c)
    (found_nth (StateFacts S t.divisor t.columns) t.states s f.each)
    (λ cs h. found_nth (ChoiceFacts S t.divisor t.columns) cs c h.choices))
    (λ bs h. found_nth (InTable t) bs b h.branches)

value_getD : (rs : List ℤ) (j : ℕ) → unwrap_or (slice_get rs j) (pos 0) ≡ get_or rs j (pos 0)
value_getD [] j = refl
value_getD (r ∷ rs) zero = refl
value_getD (r ∷ rs) (suc j) = value_getD rs j

abbrev asked : Option Branch → Option WholeBranch
asked o =
    let at : ℕ → ℤ = λ i. unwrap_or (bind o (λ x. slice_get x.rewards i)) (pos 0) in
    bind (option_map (λ x. x.weight) o) (λ w. option_map (λ n. record { weight = w; next = n; rewards = at 0 ∷ at 1 ∷ at 2 ∷ at 3 ∷ [] }) (option_map (λ x. x.next) o))

asked_is : (o : Option Branch) → asked o ≡ option_map whole_of o
asked_is None = refl
asked_is (Some x) = refl

pub whole_branch_is : (t : Table) (s c b : ℕ) → whole_branch t s c b ≡ option_map whole_of (branch_of t s c b)
whole_branch_is t s c b = asked_is (branch_of t s c b)

found_mapped : {X Y : Type 0} (P : X → Type 0) (Q : Y → Type 0) (g : X → Y) (o : Option X) → IfSome o P → ((x : X) → P x → Q (g x)) → IfSome (option_map g o) Q
found_mapped P Q g None h k = tt
found_mapped P Q g (Some x) h k = k x h

pub next_in : (t : Table) (s c b n : ℕ) → Facts t → Some n ≡ next_of t s c b → n < length t.states
next_in t s c b n f e =
    let P : ℕ → Type 0 = λ m. m < length t.states in
    subst (λ o. IfSome o P) (sym e) (found_mapped (InTable t) P (λ x. x.next) (branch_of t s c b) (branch_found t s c b f) (λ x h. h.next_in))

abbrev Small : ℤ → Type 0
Small v = nat_abs v ≤ max_reward

pub reward_small : (t : Table) (s c b i : ℕ) (v : ℤ) → Facts t → Some v ≡ reward_of t s c b i → nat_abs v ≤ max_reward
reward_small t s c b i v f e =
    subst (λ o. IfSome o Small) (sym e) (found_bind (InTable t) Small (branch_of t s c b) (λ x. slice_get x.rewards i) (branch_found t s c b f) (λ x h. found_nth Small x.rewards i h.rewards_small))

value_small : (o : Option ℤ) → IfSome o Small → Small (unwrap_or o (pos 0))
value_small None h = omega arith
value_small (Some v) h = h

pub whole_next_in : (t : Table) (s c b : ℕ) (w : WholeBranch) → Facts t → Some w ≡ whole_branch t s c b → w.next < length t.states
whole_next_in t s c b w f e =
    let P : WholeBranch → Type 0 = λ v. v.next < length t.states in
    subst (λ o. IfSome o P) (sym (e ∙ whole_branch_is t s c b)) (found_mapped (InTable t) P whole_of (branch_of t s c b) (branch_found t s c b f) (λ x h. h.next_in))

pub whole_rewards_small : (t : Table) (s c b : ℕ) (w : WholeBranch) → Facts t → Some w ≡ whole_branch t s c b → All (λ v. nat_abs v ≤ max_reward) w.rewards
whole_rewards_small t s c b w f e =
    let P : WholeBranch → Type 0 = λ v. All Small v.rewards in
    subst (λ o. IfSome o P) (sym (e ∙ whole_branch_is t s c b)) (found_mapped (InTable t) P whole_of (branch_of t s c b) (branch_found t s c b f)
    (λ x h.
    let at = λ (i : ℕ). value_small (slice_get x.rewards i) (found_nth Small x.rewards i h.rewards_small) in
    All-from_recursion Small (all_rewards x.rewards) (at 0, (at 1, (at 2, (at 3, tt))))))

mapped_whole : {X : Type 0} (p : WholeBranch → X) (q : Branch → X) → ((x : Branch) → p (whole_of x) ≡ q x) → (o : Option Branch) → option_map p (option_map whole_of o) ≡ option_map q o
mapped_whole p q e None = refl
mapped_whole p q e (Some x) = ap Some (e x)

pub all_rewards_at : (rs : List ℤ) (j : ℕ) → j < max_columns → get_or (all_rewards rs) j (pos 0) ≡ get_or rs j (pos 0)
all_rewards_at rs zero l = value_getD rs 0
all_rewards_at rs (suc zero) l = value_getD rs 1
all_rewards_at rs (suc (suc zero)) l = value_getD rs 2
all_rewards_at rs (suc (suc (suc zero))) l = value_getD rs 3
all_rewards_at rs (suc (suc (suc (suc j)))) l = absurd (omega arith)

all_rewards_taken : (rs : List ℤ) → length rs ≤ max_columns → take (length rs) (all_rewards rs) ≡ rs
all_rewards_taken [] l = refl
all_rewards_taken (p ∷ []) l = refl
all_rewards_taken (p ∷ q ∷ []) l = refl
all_rewards_taken (p ∷ q ∷ r ∷ []) l = refl
all_rewards_taken (p ∷ q ∷ r ∷ v ∷ []) l = refl
all_rewards_taken (p ∷ q ∷ r ∷ v ∷ w ∷ rs) l = absurd (omega arith)

-- the parts of a branch, by the whole of it
module _ (t : Table) (s c b : ℕ) where
  pub weight_by_whole : option_map (λ w. w.weight) (whole_branch t s c b) ≡ weight_of t s c b
  weight_by_whole = ap (option_map (λ (w : WholeBranch). w.weight)) (whole_branch_is t s c b) ∙ mapped_whole (λ w. w.weight) (λ x. x.weight) (λ x. refl) (branch_of t s c b)

  pub next_by_whole : option_map (λ w. w.next) (whole_branch t s c b) ≡ next_of t s c b
  next_by_whole = ap (option_map (λ (w : WholeBranch). w.next)) (whole_branch_is t s c b) ∙ mapped_whole (λ w. w.next) (λ x. x.next) (λ x. refl) (branch_of t s c b)

  reward_by : (i : ℕ) → i < t.columns → t.columns ≤ max_columns → (o : Option Branch) → IfSome o (InTable t) → option_map (λ w. get_or w.rewards i (pos 0)) (option_map whole_of o) ≡ bind o (λ x. slice_get x.rewards i)
  reward_by i l h None f = refl
  reward_by i l h (Some x) f =
      let e = f.rewards_all in
      ap Some (all_rewards_at x.rewards i (omega arith)) ∙ sym (slice_get-get_or x.rewards i (pos 0) (omega arith))

  pub reward_by_whole : (i : ℕ) → i < t.columns → Facts t → option_map (λ w. get_or w.rewards i (pos 0)) (whole_branch t s c b) ≡ reward_of t s c b i
  reward_by_whole i l f = ap (option_map (λ (w : WholeBranch). get_or w.rewards i (pos 0))) (whole_branch_is t s c b) ∙ reward_by i l f.columns_high (branch_of t s c b) (branch_found t s c b f)

  reward_of_whole : (i : ℕ) (w : WholeBranch) → t.columns ≤ max_columns → (o : Option Branch) → IfSome o (InTable t) → Some w ≡ option_map whole_of o → slice_get (take t.columns w.rewards) i ≡ bind o (λ x. slice_get x.rewards i)
  reward_of_whole i w h None f e = let z : ◌≡◌ {A = ℕ} 0 1 = cc in absurd (omega arith)
  reward_of_whole i w h (Some x) f e =
      let is : w ≡ whole_of x = cc in
      let k = f.rewards_all in
      ap (λ (v : WholeBranch). slice_get (take t.columns v.rewards) i) is
      ∙ (ap (λ n. slice_get (take n (all_rewards x.rewards)) i) (sym k) ∙ ap (λ rs. slice_get rs i) (all_rewards_taken x.rewards (omega arith)))

  -- a reward, or none in a column that the table lacks
  pub reward_among : (i : ℕ) (w : WholeBranch) → Facts t → Some w ≡ whole_branch t s c b → slice_get (take t.columns w.rewards) i ≡ reward_of t s c b i
  reward_among i w f e = reward_of_whole i w f.columns_high (branch_of t s c b) (branch_found t s c b f) (e ∙ whole_branch_is t s c b)

  no_reward : (i : ℕ) → t.columns ≤ i → (o : Option Branch) → IfSome o (InTable t) → bind o (λ x. slice_get x.rewards i) ≡ None
  no_reward i l None f = refl
  no_reward i l (Some x) f = let e = f.rewards_all in slice_get_past x.rewards i (omega arith)

  pub reward_past : (i : ℕ) → t.columns ≤ i → Facts t → reward_of t s c b i ≡ None
  reward_past i l f = no_reward i l (branch_of t s c b) (branch_found t s c b f)
