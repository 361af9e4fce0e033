-- The loop over a choice's branches: what a running amount is, with the branches that are left. Assumes nothing.
use Rattle.std.proofs.Common.{◌≡◌, ℕ, ◌+◌, ◌<◌, ◌≤◌, ◌∷◌, length, get_or, drop, ℤ, nat_abs, sym, refl, ap, ◌∙◌, subst, arith}
use Rattle.std.proofs.lemmas.List.{drop_more, drop_all}
use Rattle.mdp.specs.Limits.{max_divisor}
use Rattle.mdp.specs.Table.{Branch, Choice, total_weight}
use Rattle.plans.specs.Blends.{running}
use Rattle.plans.specs.Plans.{no_branch}
use Rattle.plans.specs.Sweep.{weighed}
use Rattle.blend.specs.Running.{max_amount, MayAdd, MayFinish}

-- r and what the branches that are left add to it come to the goal
pub record Going {R : Type 0} (more : R → ℕ → ℤ → R) (after : R → ℕ → Type 0) (worth : Branch → ℤ) (goal r : R) (left : Choice) : Type 0 where
  pub so_far : ℕ
  pub reached : after r so_far
  pub room : so_far + total_weight left ≤ max_divisor
  pub on : running more r (weighed worth left) ≡ goal

module _ {R : Type 0} (more : R → ℕ → ℤ → R) (after : R → ℕ → Type 0) (worth : Branch → ℤ) where
  pub going_start : (none : R) → after none 0 → (bs : Choice) → total_weight bs ≤ max_divisor → Going more after worth (running more none (weighed worth bs)) none bs
  going_start none starts bs light = record { so_far = 0; reached = starts; room = omega arith; on = refl }

  module _ (goal r : R) (bs : Choice) (j : ℕ) (h : Going more after worth goal r (drop j bs)) where
    pub going_finish : (d : ℕ) → 0 < d → MayFinish after r d
    going_finish d p = record { so_far = h.so_far; reached = h.reached; room = omega (arith, h.room); positive = p }

    pub going_end : length bs ≤ j → r ≡ goal
    going_end l = subst (λ (left : Choice). running more r (weighed worth left) ≡ goal) (drop_all j bs l) h.on

    module _ (l : j < length bs) where
      here : Going more after worth goal r (get_or bs j no_branch ∷ drop (j + 1) bs)
      here = subst (λ (left : Choice). Going more after worth goal r left) (drop_more bs j no_branch l) h

      pub going_add : (w : ℕ) (z : ℤ) → w ≡ (get_or bs j no_branch).weight → nat_abs z ≤ max_amount → MayAdd after r w z
      going_add w z e small = record { so_far = here.so_far; reached = here.reached; room = omega (arith, here.room); small = small }

      pub going_more : ((r : R) (n w : ℕ) (a : ℤ) → after r n → n + w ≤ max_divisor → nat_abs a ≤ max_amount → after (more r w a) (n + w)) → nat_abs (worth (get_or bs j no_branch)) ≤ max_amount → (q : R) (w : ℕ) (z : ℤ) → q ≡ more r w z → w ≡ (get_or bs j no_branch).weight → z ≡ worth (get_or bs j no_branch) → Going more after worth goal q (drop (j + 1) bs)
      going_more adds small q w z e f d =
          let b = get_or bs j no_branch in
          let is : q ≡ more r b.weight (worth b) = e ∙ ap (λ w. more r w z) f ∙ ap (more r b.weight) d in
          let room : here.so_far + b.weight ≤ max_divisor = omega (arith, here.room) in
          record {
            so_far = here.so_far + b.weight;
            reached = subst (λ (q : R). after q (here.so_far + b.weight)) (sym is) (adds r here.so_far b.weight (worth b) here.reached room small);
            room = omega (arith, here.room);
            on = ap (λ q. running more q (weighed worth (drop (j + 1) bs))) is ∙ here.on;
          }
