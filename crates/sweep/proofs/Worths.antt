-- What a step's branches are worth, in the table's own branches. Assumes nothing.
use Rattle.std.proofs.Common.{◌≡◌, ℕ, ◌≤◌, true, false, cond, ltb, length, get_or, pos, ◌+ℤ◌, ◌*ℤ◌, nat_abs, sym, ap, ◌∙◌, subst, zero-le, arith}
use Rattle.mdp.specs.Table.{Branch, total_weight}
use Rattle.mdp.specs.Limits.{max_divisor}
use Rattle.mdp.specs.declared.WholeBranch.{WholeBranch}
use Rattle.plans.specs.Plans.{no_branch, no_objective, earns, earns_by}
use Rattle.plans.specs.Sweep.{ceiling_at, part_at, grains}
use Rattle.plans.proofs.Limits.{Fair, sound_at, fair_at, earns_within, earns_by_within, grains_within}
use Rattle.blend.specs.Running.{max_amount}
use Rattle.sweep.specs.Limits.{max_worth}
use Rattle.sweep.specs.Steps.{plain, padded, Usual}
use Rattle.sweep.specs.Made.{choice_of, ceiling_after, part_after}
use Rattle.sweep.specs.declared.step.Step.{Step}
use Rattle.sweep.proofs.Branches.{fair_usual, earns_padded, earns_by_padded}

module _ {M : Type 0} {B : _} (p : Step M B) where
  pub light_at : (s k : ℕ) → total_weight (choice_of p s k) ≤ max_divisor
  light_at s k = omega (arith, (sound_at (B.table p.model.now) (B.facts p.model.now) s k).light, (B.facts p.model.now).divisor_high)

  -- branch j of a choice
  module _ (s k j : ℕ) where
    b : Branch
    b = get_or (choice_of p s k) j no_branch

    fair : Fair (B.table p.model.now) b
    unfolding b
    fair = fair_at (B.table p.model.now) (B.facts p.model.now) s k j

    pub ceiling_small : nat_abs (ceiling_after p (get_or (choice_of p s k) j no_branch)) ≤ max_amount
    unfolding b
    ceiling_small =
        let reward = earns_by p.objectives.weights.now p.objectives.each.now p.step b in
        omega (arith, grains_within reward (ceiling_at p.next.now b.next) max_worth (p.small.ceilings b.next) (earns_by_within (B.table p.model.now) p.objectives.each.now p.objectives.weights.now p.objectives.asked.few p.objectives.asked.light p.step b fair))

    pub part_small : (i : ℕ) → nat_abs (part_after p i (get_or (choice_of p s k) j no_branch)) ≤ max_amount
    unfolding b
    part_small i =
        let o = get_or p.objectives.each.now i no_objective in
        let there : nat_abs (grains (earns o) p.step (part_at p.next.now i) b) ≤ max_amount = omega (arith, grains_within (earns o p.step b) (part_at p.next.now i b.next) max_worth (p.small.parts i b.next) (omega (arith, earns_within (B.table p.model.now) o p.step b fair))) in
        elim (ltb i (length p.objectives.each.now)) as (λ v. nat_abs (cond v (grains (earns o) p.step (part_at p.next.now i) b) (pos 0)) ≤ max_amount) [ true ↦ there | false ↦ zero-le ]

    -- as r has it
    module _ (r : WholeBranch) (is : r ≡ padded (get_or (choice_of p s k) j no_branch)) where
      pub usual_at : Usual (length p.next.now) r
      unfolding b
      usual_at = subst (λ n. Usual n r) (sym p.whole) (subst (Usual (length (B.table p.model.now).states)) (sym is) (fair_usual (B.table p.model.now) b fair))

      pub ceiling_read : ceiling_after p (plain r) ≡ ceiling_after p (get_or (choice_of p s k) j no_branch)
      unfolding b
      ceiling_read =
          ap (λ (r : WholeBranch). ceiling_after p (plain r)) is ∙ ap (λ a. ceiling_at p.next.now b.next +ℤ pos 65536 *ℤ a) (earns_by_padded p.objectives.weights.now p.objectives.each.now p.step b fair.few)

      pub part_read : (i : ℕ) → part_after p i (plain r) ≡ part_after p i (get_or (choice_of p s k) j no_branch)
      unfolding b
      part_read i =
          let o = get_or p.objectives.each.now i no_objective in
          ap (λ (r : WholeBranch). part_after p i (plain r)) is ∙ ap (λ a. cond (ltb i (length p.objectives.each.now)) (part_at p.next.now i b.next +ℤ pos 65536 *ℤ a) (pos 0)) (earns_padded o p.step b fair.few)
