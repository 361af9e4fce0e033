use Rattle.std.proofs.Common.{◌≡◌, ℕ, List, ℤ, None, sym, ap, subst, ◌∙◌, arith}
use Rattle.std.proofs.lemmas.List.Sums.{prefix_len-le-length}
use Rattle.std.proofs.lemmas.Bool.Decides.{nat_tests}
use Rattle.truth.specs.Dockets.{each_by, aimed}
use Rattle.truth.specs.Calls.{small_target, small_targets}
use Rattle.verdict.proofs.Refused.{taken_none}
use Rattle.holdings.specs.Limits.{AllAllowed}
use Rattle.holdings.specs.Refusals.{targets_refusal}
use Rattle.holdings.specs.Views.{held}
use Rattle.holdings.proofs.Held.{aimed_allowed}
use Rattle.holdings.proofs.objectives.Objectives.retarget.Goals as goal

all_small : (n : ℕ) (ts : List ℤ) → targets_refusal n ts ≡ None → small_targets ts ≡ n
all_small n ts none = let l = prefix_len-le-length small_target ts in grind (arith, nat_tests)

pub invariant_of-self : goal.invariant_of-self
invariant_of-self c =
    let os = held c.args.self.now in
    let ts = c.args.targets.now in
    let none = taken_none (targets_refusal c.len.result ts) _ _ c.in_ok-check_targets.ensures in
    record { small = subst AllAllowed (sym (c.aim-self.ensures ∙ ap (each_by (aimed ts)) c.as_slice.ensures)) (aimed_allowed ts os c.args.self.now.small (all_small c.len.result ts none ∙ c.len.ensures)) }
