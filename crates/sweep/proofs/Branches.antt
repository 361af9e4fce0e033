-- A branch with all its rewards. Assumes nothing.
use Rattle.std.proofs.Common.{◌≡◌, ℕ, zero, suc, ◌≤◌, cond, ltb, List, [], ◌∷◌, length, get_or, ℤ, pos, nat_abs, sym, refl, ap, ◌∙◌, zero-le, arith}
use Rattle.std.proofs.lemmas.List.{get_or_past}
use Rattle.std.proofs.lemmas.List.Elements.{All-nil, All-cons}
use Rattle.mdp.specs.Table.{Table, Branch}
use Rattle.mdp.specs.declared.WholeBranch.{WholeBranch}
use Rattle.plans.specs.declared.Objective.{Objective}
use Rattle.plans.specs.Plans.{earns, earns_by}
use Rattle.plans.proofs.Limits.{Fair, all_or}
use Rattle.sweep.specs.Steps.{plain, padded, Usual}
use Rattle.sweep.proofs.Gains.{earned_is}

pub usual_fair : (t : Table) (b : WholeBranch) {n : ℕ} → n ≡ length t.states → Usual n b → length b.rewards ≤ 4 → Fair t (plain b)
usual_fair t b all h few = record {
  next = omega (arith, h.next_in);
  few = few;
  rewards = λ i. all_or (λ r. nat_abs r ≤ 1000) b.rewards i (pos 0) zero-le h.rewards_small;
}

pub fair_usual : (t : Table) (b : Branch) → Fair t b → Usual (length t.states) (padded b)
fair_usual t b h =
    let P : ℤ → Type 0 = λ r. nat_abs r ≤ 1000 in
    let r : ℕ → ℤ = λ i. get_or b.rewards i (pos 0) in
    record {
      next_in = h.next;
      rewards_small = All-cons P (r 0) (r 1 ∷ r 2 ∷ r 3 ∷ []) (h.rewards 0) (All-cons P (r 1) (r 2 ∷ r 3 ∷ []) (h.rewards 1) (All-cons P (r 2) (r 3 ∷ []) (h.rewards 2) (All-cons P (r 3) [] (h.rewards 3) (All-nil P))));
    }

-- padding adds nothing
padded_read : (rs : List ℤ) → length rs ≤ 4 → (i : ℕ) → get_or (get_or rs 0 (pos 0) ∷ get_or rs 1 (pos 0) ∷ get_or rs 2 (pos 0) ∷ get_or rs 3 (pos 0) ∷ []) i (pos 0) ≡ get_or rs i (pos 0)
padded_read rs h zero = refl
padded_read rs h (suc zero) = refl
padded_read rs h (suc (suc zero)) = refl
padded_read rs h (suc (suc (suc zero))) = refl
padded_read rs h (suc (suc (suc (suc i)))) = sym (get_or_past rs (suc (suc (suc (suc i)))) (pos 0) (omega arith))

pub earns_padded : (o : Objective) (step : ℕ) (b : Branch) → length b.rewards ≤ 4 → earns o step (plain (padded b)) ≡ earns o step b
earns_padded o step b h = ap (λ r. cond (ltb step o.bound) r (pos 0)) (padded_read b.rewards h o.column)

pub earns_by_padded : (ws : List ℕ) (os : List Objective) (step : ℕ) (b : Branch) → length b.rewards ≤ 4 → earns_by ws os step (plain (padded b)) ≡ earns_by ws os step b
earns_by_padded ws os step b h = sym (earned_is step (plain (padded b)) (omega arith) ws os) ∙ earned_is step b h ws os
