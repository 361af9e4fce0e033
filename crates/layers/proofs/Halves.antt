-- What the goal layer answers where it is on, by what it has of the model below.
use Rattle.std.proofs.Common.{◌≡◌, ℕ, ◌≤◌, Bool, not, ◌&&◌, leb, List, length, ℤ, Some, None, Option, sym, ap, ◌∙◌, arith}
use Rattle.std.specs.Option.{option_map, ForSome}
use Rattle.mdp.specs.declared.WholeBranch.{WholeBranch}
use Rattle.mdp.specs.Table.{Table, Facts}
use Rattle.mdp.specs.Questions.{next_of, reward_of, whole_branch}
use Rattle.tables.specs.Whole.{whole_extended}
use Rattle.tables.specs.Goal.{max_marks, is_marked, state_below, goal_next, goal_reward, goal_table, GoalFits, goal_view}
use Rattle.tables.proofs.Asked.{next_in, whole_next_in}
use Rattle.tables.proofs.Goal.{small_reward, goal_shown, goal_idle, goal_nexts, goal_old_reward, goal_new_reward, goal_whole}
use Rattle.layers.proofs.Extended.{passed, passed_as, extended_as}

-- what is asked of the layer where it is off
pub idle_asked : {Y : Type 0} (want : Table → Y) (o : Option (List Bool)) (t : Table) (q : Y) → None ≡ o → q ≡ want t → q ≡ want (goal_view o t)
idle_asked want o t q e k = k ∙ (ap want (sym (goal_idle t)) ∙ ap (λ m. want (goal_view m t)) e)

-- where it is on with these marks, over n states
module _ (marks : List Bool) (o : Option (List Bool)) (t : Table) (n : ℕ) (e : Some marks ≡ o) (k : n ≡ length t.states) (fits : ForSome o (λ _. GoalFits t)) (f : Facts t) where
  pub next_low : (r c b m : ℕ) → Some m ≡ next_of t r c b → (n ≤ max_marks) × (m ≤ max_marks)
  next_low r c b m p = let few = (fits marks (sym e)).0 in let h = next_in t r c b m f p in (omega arith, omega arith)

  pub whole_next_low : (r c b : ℕ) (w : WholeBranch) → Some w ≡ whole_branch t r c b → (n ≤ max_marks) × (w.next ≤ max_marks)
  whole_next_low r c b w p = let few = (fits marks (sym e)).0 in let h = whole_next_in t r c b w f p in (omega arith, omega arith)

  -- at the state r below that s stands for
  module _ (s c b r : ℕ) (low : r ≡ state_below n s) where
    abbrev met : Bool
    met = leb n s

    on_asked : {X Y : Type 0} (answer : ℕ → X → Y) (ask : ℕ → X) (want : Table → Y) → want (goal_table marks t) ≡ answer (length t.states) (ask (state_below (length t.states) s)) → (q : X) → q ≡ ask r → answer n q ≡ want (goal_view o t)
    on_asked answer ask want h q p =
        ap (answer n) (p ∙ ap ask low)
        ∙ (ap (λ z. answer z (ask (state_below z s))) k
        ∙ (sym h ∙ (ap want (sym (goal_shown marks t)) ∙ ap (λ m. want (goal_view m t)) e)))

    pub on_next : (q : Option ℕ) → q ≡ next_of t r c b → option_map (goal_next marks n met) q ≡ next_of (goal_view o t) s c b
    on_next = on_asked (λ z. option_map (goal_next marks z (leb z s))) (λ p. next_of t p c b) (λ u. next_of u s c b) (goal_nexts t marks f s c b)

    pub on_next_some : (m m' : ℕ) → Some m ≡ next_of t r c b → m' ≡ goal_next marks n met m → Some m' ≡ next_of (goal_view o t) s c b
    on_next_some m m' p h = ap Some h ∙ on_next (Some m) p

    pub on_reward : (i columns : ℕ) → columns ≡ t.columns → (i ≡ columns → ⊥) → (q : Option ℤ) → q ≡ reward_of t r c b i → q ≡ reward_of (goal_view o t) s c b i
    on_reward i columns l d = on_asked (λ z x. x) (λ p. reward_of t p c b i) (λ u. reward_of u s c b i) (goal_old_reward t marks f s c b i (λ h. d (h ∙ sym l)))

    pub on_last : (i columns : ℕ) → columns ≡ t.columns → i ≡ columns → (q : Option ℕ) → q ≡ next_of t r c b → option_map (goal_reward marks met) q ≡ reward_of (goal_view o t) s c b i
    on_last i columns l d = on_asked (λ z. option_map (goal_reward marks (leb z s))) (λ p. next_of t p c b) (λ u. reward_of u s c b i) (goal_new_reward t marks f s c b i (d ∙ l))

    pub on_last_some : (i columns : ℕ) → columns ≡ t.columns → i ≡ columns → (m : ℕ) (v : ℤ) → Some m ≡ next_of t r c b → v ≡ goal_reward marks met m → Some (passed v) ≡ reward_of (goal_view o t) s c b i
    on_last_some i columns l d m v p h = ap Some (passed_as v (goal_reward marks met m) (small_reward (not met && is_marked marks m)) h) ∙ on_last i columns l d (Some m) p

    pub on_whole : (q : Option WholeBranch) → q ≡ whole_branch t r c b → option_map (λ w. whole_extended w t.columns (goal_next marks n met w.next) (goal_reward marks met w.next)) q ≡ whole_branch (goal_view o t) s c b
    on_whole =
        on_asked (λ z. option_map (λ w. whole_extended w t.columns (goal_next marks z (leb z s) w.next) (goal_reward marks (leb z s) w.next))) (λ p. whole_branch t p c b) (λ u. whole_branch u s c b)
        (goal_whole t marks f s c b (fits marks (sym e)).1)

    pub on_whole_some : (w v : WholeBranch) (i m : ℕ) (x : ℤ) → Some w ≡ whole_branch t r c b → i ≡ t.columns → v ≡ whole_extended w i m (passed x)
        → m ≡ goal_next marks n met w.next → x ≡ goal_reward marks met w.next → Some v ≡ whole_branch (goal_view o t) s c b
    on_whole_some w v i m x p l h y z =
        ap Some (extended_as v w i m (goal_next marks n met w.next) x (goal_reward marks met w.next) h (small_reward (not met && is_marked marks w.next)) y z
        ∙ ap (λ j. whole_extended w j (goal_next marks n met w.next) (goal_reward marks met w.next)) l)
        ∙ on_whole (Some w) p
