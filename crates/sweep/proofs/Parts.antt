-- The loop over a choice's branches, for one part. Assumes nothing.
use Rattle.std.proofs.Common.{◌≡◌, ℕ, ◌+◌, ◌<◌, ◌≤◌, Bool, true, false, cond, ltb, List, length, get_or, drop, ℤ, pos, nat_abs, sym, refl, ap, ◌∙◌, subst, arith}
use Rattle.mdp.specs.Limits.{max_divisor}
use Rattle.mdp.specs.Table.{Branch, Choice}
use Rattle.mdp.specs.declared.WholeBranch.{WholeBranch}
use Rattle.plans.specs.Blends.{Weighed, Mean, running}
use Rattle.plans.specs.Plans.{no_branch, no_objective, earns}
use Rattle.plans.specs.Sweep.{weighed, grains, part_at}
use Rattle.blend.specs.Running.{max_amount, MayAdd}
use Rattle.sweep.specs.Steps.{plain, padded}
use Rattle.sweep.specs.Made.{choice_of, part_after, part_of}
use Rattle.sweep.specs.declared.step.Step.{Step}
use Rattle.sweep.proofs.Running.{Going, going_start, going_add, going_more, going_end}
use Rattle.sweep.proofs.Worths.{light_at, part_read, part_small}

-- where there is no such objective, its amounts do not matter
at_objective : (v : Bool) (mean : Mean) (worth : Branch → ℤ) (bs : Choice) (d : ℕ) → cond v (mean (weighed (λ b. cond v (worth b) (pos 0)) bs) d) (pos 0) ≡ cond v (mean (weighed worth bs) d) (pos 0)
at_objective true mean worth bs d = refl
at_objective false mean worth bs d = refl

module _ {M R : Type 0} {B : _} (p : Step M B) (none : R) (more : R → ℕ → ℤ → R) (after : R → ℕ → Type 0) (s k : ℕ) where
  -- after j branches, of part i
  abbrev pub PartGoing : ℕ → ℕ → R → Type 0
  PartGoing j i r = Going more after (part_after p i) (running more none (weighed (part_after p i) (choice_of p s k))) r (drop j (choice_of p s k))

  pub part_start : after none 0 → (i : ℕ) (r : R) → r ≡ none → PartGoing 0 i r
  part_start starts i r e = subst (PartGoing 0 i) (sym e) (going_start more after (part_after p i) none starts (choice_of p s k) (light_at p s k))

  module _ (j n : ℕ) (count : n ≡ length (choice_of p s k)) where
    module _ (below : j < n) (b : WholeBranch) (e : b ≡ padded (get_or (choice_of p s k) j no_branch)) (i : ℕ) (r : R) (h : PartGoing j i r) where
      pub part_add : MayAdd after r b.weight (part_after p i (plain b))
      part_add =
          let bs = choice_of p s k in
          let worth = part_after p i in
          going_add more after worth (running more none (weighed worth bs)) r bs j h (omega arith) b.weight (worth (plain b)) (ap (λ (b : WholeBranch). b.weight) e) (omega (arith, ap nat_abs (part_read p s k j b e i), part_small p s k j i))

      pub part_more : ((r : R) (n w : ℕ) (a : ℤ) → after r n → n + w ≤ max_divisor → nat_abs a ≤ max_amount → after (more r w a) (n + w)) → (q : R) → q ≡ more r b.weight (part_after p i (plain b)) → PartGoing (j + 1) i q
      part_more adds q d =
          let bs = choice_of p s k in
          let worth = part_after p i in
          going_more more after worth (running more none (weighed worth bs)) r bs j h (omega arith) adds (part_small p s k j i) q b.weight (worth (plain b)) d (ap (λ (b : WholeBranch). b.weight) e) (part_read p s k j b e i)

    pub part_end : n ≤ j → (result : R → ℕ → ℤ) (mean : Mean) → ((xs : List Weighed) (d : ℕ) → result (running more none xs) d ≡ mean xs d) → (i : ℕ) (r : R) → PartGoing j i r → (z : ℤ) → z ≡ cond (ltb i (length p.objectives.each.now)) (result r p.divisor) (pos 0) → z ≡ part_of p mean s k i
    part_end l result mean means i r h z e =
        let bs = choice_of p s k in
        let worth = part_after p i in
        let v = ltb i (length p.objectives.each.now) in
        let d = p.divisor in
        let there = grains (earns (get_or p.objectives.each.now i no_objective)) p.step (part_at p.next.now i) in
        let end = going_end more after worth (running more none (weighed worth bs)) r bs j h (omega arith) in
        e ∙ ap (λ r. cond v (result r d) (pos 0)) end ∙ ap (λ a. cond v a (pos 0)) (means (weighed worth bs) d) ∙ at_objective v mean there bs d ∙ ap (λ d. cond v (mean (weighed there bs) d) (pos 0)) p.divided
