-- One turn of each loop of the check, and the exit of a `?`.
use Rattle.std.proofs.Common.{◌≡◌, ℕ, suc, ◌+◌, ◌-◌, ◌<◌, ◌≤◌, true, false, cond, eqb, ltb, List, length, IsErrAnd, Ok, Err, sym, refl, ap, ◌∙◌, add-one, arith}
use Rattle.std.proofs.lemmas.Bool.{and_parts, eqb-true, ltb-true, leb-true}
use Rattle.std.proofs.lemmas.Result.{err_from_is_err_and}
use Rattle.mdp.specs.Limits.{max_choices}
use Rattle.file_check.specs.declared.faults.FileCause.TheVariants.{Pair, Field}
use Rattle.file_check.specs.declared.check.Header.{Header}
use Rattle.file_check.specs.Check.{FileFault, Checked, then_do, bad, word, field_at, reward_fits, rewards_at, branch_at, branches_at, branch_size, choice_at, choices_at, block_end, blocks_at, pairs_at, pair_fits}

pub less : (n i : ℕ) → i < n → n - i ≡ suc (n - (i + 1))
less n i h = let e : n - i ≡ n - (i + 1) + 1 = omega arith in e ∙ add-one _

pub broke : {A : Type 0} (r : Checked A) {y : FileFault} {w : Checked A} → IsErrAnd r (λ x. x ≡ y) → Err y ≡ w → r ≡ w
broke r h e = let p = err_from_is_err_and r h in p.1 ∙ (ap Err p.2 ∙ e)

pub then_ok : {A B : Type 0} {r : Checked A} (f : A → Checked B) {v : A} → Ok v ≡ r → then_do r f ≡ f v
then_ok f e = rw (← e) refl

pub then_err : {A B : Type 0} {r : Checked A} (f : A → Checked B) {y : FileFault} → Err y ≡ r → then_do r f ≡ Err y
then_err f e = rw (← e) refl

module _ (xs : List ℕ) (e p n i : ℕ) (h : i < n) where
  rewards_turn : rewards_at xs e p (n - i) ≡ then_do (field_at xs e p) (λ v. cond (reward_fits v) (rewards_at xs e (p + 2) (n - (i + 1))) (bad Field p))
  rewards_turn = rw (less n i h) refl

  pub rewards_cut : {y : FileFault} → Err y ≡ field_at xs e p → rewards_at xs e p (n - i) ≡ Err y
  rewards_cut k = rewards_turn ∙ then_err _ k

  pub rewards_wrong : {v : ℕ} → Ok v ≡ field_at xs e p → false ≡ reward_fits v → rewards_at xs e p (n - i) ≡ bad Field p
  rewards_wrong k b = rewards_turn ∙ (then_ok _ k ∙ rw (← b) refl)

  pub rewards_more : {v q : ℕ} → Ok v ≡ field_at xs e p → true ≡ reward_fits v → p + 2 ≡ q → rewards_at xs e p (n - i) ≡ rewards_at xs e q (n - (i + 1))
  rewards_more k b s = rewards_turn ∙ (then_ok _ k ∙ rw (← b, s) refl)

module _ (xs : List ℕ) (l : Header) (e p n i sum : ℕ) (h : i < n) where
  branches_turn : branches_at xs l e p (n - i) sum ≡ then_do (branch_at xs l e p) (λ w. branches_at xs l e (p + branch_size l.columns) (n - (i + 1)) (sum + w))
  branches_turn = rw (less n i h) refl

  pub branches_cut : {y : FileFault} → Err y ≡ branch_at xs l e p → branches_at xs l e p (n - i) sum ≡ Err y
  branches_cut k = branches_turn ∙ then_err _ k

  pub branches_more : {v q : ℕ} → Ok v ≡ branch_at xs l e p → p + branch_size l.columns ≡ q → branches_at xs l e p (n - i) sum ≡ branches_at xs l e q (n - (i + 1)) (sum + v)
  branches_more k s = branches_turn ∙ (then_ok _ k ∙ rw s refl)

module _ (xs : List ℕ) (l : Header) (e p n i : ℕ) (h : i < n) where
  choices_turn : choices_at xs l e p (n - i) ≡ cond (ltb p e) (then_do (choice_at xs l e p) (λ q. choices_at xs l e q (n - (i + 1)))) (Ok tt)
  choices_turn = rw (less n i h) refl

  pub choices_done : ltb p e ≡ false → choices_at xs l e p (n - i) ≡ Ok tt
  choices_done b = choices_turn ∙ rw b refl

  pub choices_cut : {y : FileFault} → ltb p e ≡ true → Err y ≡ choice_at xs l e p → choices_at xs l e p (n - i) ≡ Err y
  choices_cut b k = choices_turn ∙ rw b (then_err _ k)

  pub choices_more : {q : ℕ} → ltb p e ≡ true → Ok q ≡ choice_at xs l e p → choices_at xs l e p (n - i) ≡ choices_at xs l e q (n - (i + 1))
  choices_more b k = choices_turn ∙ rw b (then_ok _ k)

module _ (xs : List ℕ) (l : Header) (p n i : ℕ) (h : i < n) where
  blocks_turn : blocks_at xs l p (n - i) ≡ then_do (choices_at xs l (block_end xs p) (word xs p) max_choices) (λ _. blocks_at xs l (p + 4) (n - (i + 1)))
  blocks_turn = rw (less n i h) refl

  module _ {a z : ℕ} (ea : a ≡ word xs p) (ez : z ≡ block_end xs p) where
    pub blocks_cut : {y : FileFault} → Err y ≡ choices_at xs l z a max_choices → blocks_at xs l p (n - i) ≡ Err y
    blocks_cut k = blocks_turn ∙ then_err _ (rw (ea, ez) at k)

    pub blocks_more : {u : Unit {0}} {q : ℕ} → Ok u ≡ choices_at xs l z a max_choices → p + 4 ≡ q → blocks_at xs l p (n - i) ≡ blocks_at xs l q (n - (i + 1))
    blocks_more k s = blocks_turn ∙ (then_ok _ (rw (ea, ez) at k) ∙ ap (λ q. blocks_at xs l q (n - (i + 1))) s)

pub choices_last : (xs : List ℕ) (l : Header) (e p i : ℕ) → max_choices ≤ i → choices_at xs l e p (max_choices - i) ≡ cond (ltb p e) (bad Field p) (Ok tt)
choices_last xs l e p i h = let z : max_choices - i ≡ 0 = omega arith in rw z refl

module _ (xs : List ℕ) (p o n i : ℕ) (h : i < n) where
  pairs_turn : pairs_at xs p o (n - i) ≡ cond (pair_fits xs p o) (pairs_at xs (p + 4) (o + word xs (p + 2)) (n - (i + 1))) (bad Pair p)
  pairs_turn = rw (less n i h) refl

  pub pairs_wrong : false ≡ pair_fits xs p o → pairs_at xs p o (n - i) ≡ bad Pair p
  pairs_wrong b = pairs_turn ∙ rw (← b) refl

  pub pairs_more : {q r : ℕ} → true ≡ pair_fits xs p o → p + 4 ≡ q → o + word xs (p + 2) ≡ r → pairs_at xs p o (n - i) ≡ pairs_at xs q r (n - (i + 1))
  pairs_more b s e = pairs_turn ∙ rw (← b, s, e) refl

pub record Within (xs : List ℕ) (p o : ℕ) : Type 0 where
  pub stands : word xs p ≡ o
  pub some : 0 < word xs (p + 2)
  pub ends : o + word xs (p + 2) ≤ length xs

pub pair_parts : (xs : List ℕ) (p o : ℕ) → true ≡ pair_fits xs p o → Within xs p o
pair_parts xs p o e =
    let a = and_parts (eqb (word xs p) o) _ (sym e) in
    let b = and_parts (ltb 0 (word xs (p + 2))) _ a.1 in
    record { stands = eqb-true _ _ a.0; some = ltb-true _ _ b.0; ends = leb-true _ _ b.1 }
