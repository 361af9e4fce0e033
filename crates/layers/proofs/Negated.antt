-- What the mirror layer answers, by what it has of the model below.
use Rattle.std.proofs.Common.{◌≡◌, ℕ, ◌≤◌, get_or, ℤ, pos, neg_ℤ, nat_abs, Some, None, Option, sym, refl, ap, ◌∙◌, subst}
use Rattle.std.specs.Option.{option_map, ForSome}
use Rattle.mdp.specs.declared.WholeBranch.{WholeBranch}
use Rattle.mdp.specs.Limits.{max_reward}
use Rattle.mdp.specs.Table.{Table, Facts}
use Rattle.mdp.specs.Questions.{reward_of, whole_branch}
use Rattle.tables.specs.Whole.{whole_extended}
use Rattle.tables.specs.Mirror.{mirror_table, MirrorFits, mirror_view}
use Rattle.tables.proofs.Asked.{reward_small}
use Rattle.tables.proofs.Kept.{abs_neg}
use Rattle.tables.proofs.Mirror.{mirror_shown, mirror_idle, mirror_last, mirror_reward, mirror_whole, mirror_small}
use Rattle.layers.proofs.Extended.{passed, small_passed, passed_as, extended_as}

negative_small : (v : ℤ) → nat_abs v ≤ max_reward → nat_abs (neg_ℤ v) ≤ max_reward
negative_small v h = subst (λ n. n ≤ max_reward) (sym (abs_neg v)) h

-- what is asked of the layer where it is off
pub idle_asked : {Y : Type 0} (want : Table → Y) (o : Option ℕ) (t : Table) (q : Y) → o ≡ None → q ≡ want t → q ≡ want (mirror_view o t)
idle_asked want o t q e k = k ∙ (ap want (sym (mirror_idle t)) ∙ ap (λ m. want (mirror_view m t)) (sym e))

-- a branch that is not there below
pub whole_absent : (o : Option ℕ) (t : Table) → ForSome o (λ j. MirrorFits j t) → Facts t → (s c b : ℕ) → None ≡ whole_branch t s c b → None ≡ whole_branch (mirror_view o t) s c b
whole_absent None t fits f s c b k = idle_asked (λ u. whole_branch u s c b) None t None refl k
whole_absent (Some j) t fits f s c b k =
    ap (option_map (λ w. whole_extended w t.columns w.next (neg_ℤ (get_or w.rewards j (pos 0))))) k
    ∙ (sym (mirror_whole t j (fits j refl) f s c b) ∙ ap (λ u. whole_branch u s c b) (sym (mirror_shown j t)))

-- where it is on with this column
module _ (j : ℕ) (o : Option ℕ) (t : Table) (e : o ≡ Some j) (fits : ForSome o (λ j. MirrorFits j t)) (f : Facts t) (s c b : ℕ) where
  on_asked : {Y : Type 0} (want : Table → Y) (q : Y) → q ≡ want (mirror_table j t) → q ≡ want (mirror_view o t)
  on_asked want q h = h ∙ (ap want (sym (mirror_shown j t)) ∙ ap (λ m. want (mirror_view m t)) (sym e))

  module _ (i columns : ℕ) (l : columns ≡ t.columns) where
    pub on_reward : (i ≡ columns → ⊥) → (q : Option ℤ) → q ≡ reward_of t s c b i → q ≡ reward_of (mirror_view o t) s c b i
    on_reward d q k = on_asked (λ u. reward_of u s c b i) q (k ∙ sym (mirror_reward t j (fits j e) f s c b i (λ h. d (h ∙ sym l))))

    pub on_last : i ≡ columns → (q : Option ℤ) → q ≡ reward_of t s c b j → option_map neg_ℤ q ≡ reward_of (mirror_view o t) s c b i
    on_last d q k = on_asked (λ u. reward_of u s c b i) (option_map neg_ℤ q) (ap (option_map neg_ℤ) k ∙ sym (mirror_last t j (fits j e) f s c b i (d ∙ l)))

    pub on_last_some : i ≡ columns → (v x : ℤ) → Some v ≡ reward_of t s c b j → x ≡ neg_ℤ (passed v) → Some (passed x) ≡ reward_of (mirror_view o t) s c b i
    on_last_some d v x k p =
        let small = reward_small t s c b j v f k in
        ap Some (passed_as x (neg_ℤ v) (negative_small v small) (p ∙ ap neg_ℤ (small_passed v small))) ∙ on_last d (Some v) k

  pub whole_small : (w : WholeBranch) → Some w ≡ whole_branch t s c b → nat_abs (get_or w.rewards j (pos 0)) ≤ max_reward
  whole_small = mirror_small t j (fits j e) f s c b

  pub on_whole_some : (w v : WholeBranch) (i : ℕ) (x : ℤ) → Some w ≡ whole_branch t s c b → i ≡ t.columns → v ≡ whole_extended w i w.next (passed x) → x ≡ neg_ℤ (passed (get_or w.rewards j (pos 0)))
      → Some v ≡ whole_branch (mirror_view o t) s c b
  on_whole_some w v i x k l h p =
      let r = get_or w.rewards j (pos 0) in
      let small = whole_small w k in
      on_asked (λ u. whole_branch u s c b) (Some v)
      (ap Some (extended_as v w i w.next w.next x (neg_ℤ r) h (negative_small r small) refl (p ∙ ap neg_ℤ (small_passed r small)) ∙ ap (λ a. whole_extended w a w.next (neg_ℤ r)) l)
      ∙ (ap (option_map (λ w. whole_extended w t.columns w.next (neg_ℤ (get_or w.rewards j (pos 0))))) k ∙ sym (mirror_whole t j (fits j e) f s c b)))
