-- What a call makes of the verdict. Assumes nothing.
use Rattle.std.proofs.Common.{◌≡◌, ℕ, Bool, false, List, ◌≤ℤ◌, Decides, sum, Option, refl, ap, ◌∙◌, arith}
use borrow.Author.Differences.{ints}
use lib.Signed.{lt_z}
use Rattle.std.proofs.lemmas.Bool.{not-true}
use Rattle.std.proofs.lemmas.Bool.Decides.{Decides-not}
use Rattle.plans.specs.declared.Objective.{Objective}
use Rattle.plans.specs.Totals.{◌·◌}
use Rattle.plans.specs.Plans.{no_objective, target_sum}
use Rattle.truth.specs.Dockets.{Verdict, Open, Achieved, Refuted, Docket, ceiling, judged, part_sum, meets, priced, mixed}
use Rattle.truth.specs.Calls.{price, mix, Fault, effect, if_taken}
use Rattle.truth.specs.Claims.{Stands, Enough, JudgedExactly}
use Rattle.truth.proofs.Tests.{decides_leZ, decides_ltZ, decides_holds}
use Rattle.truth.proofs.Taken.{after_taken, after_both}

pub decides_enough : (d : Docket) (ss : List ℕ) → Decides (meets d ss) (Enough d ss)
decides_enough d ss =
    decides_holds _ (λ i (o : Objective). (sum ss · o.target) ≤ℤ part_sum ss d.table i) (λ i o. decides_leZ (sum ss · o.target) (part_sum ss d.table i)) d.objectives no_objective

judged_stands : (v : Verdict) (so : Bool) (new : Verdict) → ¬ (v ≡ Open) → judged v so new ≡ v
judged_stands Open so new n = absurd (n refl)
judged_stands (Achieved ss) so new n = refl
judged_stands (Refuted ws c s) so new n = refl

pub stands : Stands
unfolding priced mixed
stands t d = (
  (λ c f e. ap (λ (o : Option Fault). if_taken o (effect t d c) d) e),
  (λ n. (
    (λ ws lent. after_both t d (price ws lent) (λ e. e.verdict ≡ d.verdict) (λ r. judged_stands d.verdict _ _ n) refl),
    (λ ss. after_both t d (mix ss) (λ e. e.verdict ≡ d.verdict) (λ r. judged_stands d.verdict _ _ n) refl),
  )),
)

pub judged_exactly : JudgedExactly
unfolding priced mixed
judged_exactly t d e =
    let os = d.objectives in
    let refuted : List ℕ → Verdict = λ ws. Refuted ws (ceiling t os ws) (target_sum ws os) in
    record {
      price_refutes = λ ws lent r low.
          let so = (decides_ltZ (ceiling t os ws) (target_sum ws os)).1 low in
          ap (λ (f : Docket). f.verdict) (after_taken t d (price ws lent) r) ∙ (λ i. judged (e i) (so i) (refuted ws));
      price_leaves = λ ws lent high.
          let so : lt_z (ceiling t os ws) (target_sum ws os) ≡ false = grind (arith, ints) in
          after_both t d (price ws lent) (λ f. f.verdict ≡ Open) (λ r i. judged (e i) (so i) (refuted ws)) e;
      mix_achieves = λ ss r enough.
          let so = (decides_enough d ss).1 enough in
          ap (λ (f : Docket). f.verdict) (after_taken t d (mix ss) r) ∙ (λ i. judged (e i) (so i) (Achieved ss));
      mix_leaves = λ ss short.
          let so = not-true _ ((Decides-not (meets d ss) (decides_enough d ss)).1 short) in
          after_both t d (mix ss) (λ f. f.verdict ≡ Open) (λ r i. judged (e i) (so i) (Achieved ss)) e;
    }
