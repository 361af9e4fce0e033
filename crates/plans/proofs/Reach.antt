-- Targets out of reach and within reach of mixtures. Assumes nothing.
use Rattle.std.proofs.Common.{ℕ, ◌*◌, ◌^◌, ◌<◌, ◌≤◌, List, [], ◌∷◌, length, get_or, ℤ, pos, ◌+ℤ◌, All, ap, ◌∙◌, mul-pos, arith}
use native.Mathlib.Nat.{one-le-pow}
use lib.ListN.{length-map}
use borrow.Author.Differences.{same_out, sum_is_lem, le_out, lt_out, at_most_in, below_in}
use Rattle.std.proofs.lemmas.List.Elements.{All-head, All-get_or, All-weaker, All-map}
use Rattle.plans.specs.declared.Objective.{Objective}
use Rattle.plans.specs.Totals.{◌·◌, weight_sum, total}
use Rattle.plans.specs.Blends.{mean_up, mean_down}
use Rattle.plans.specs.Plans.{Share, Valid, Meets, no_objective, expected, horizon, share_of, target_sum, weighted}
use Rattle.plans.specs.Sweep.{ceiling_at, part_at}
use Rattle.plans.specs.Claims.{Candidate, candidate_share, planned, mean_rows, mean_plan, OutOfReach, MissRefutes, WithinReach, ClearAchieves, MixtureValid}
use Rattle.plans.proofs.Ints.{scale_add, scale_scale, scale_swap, scale_le, scale_lt, cancel_lt, cancel_le}
use Rattle.plans.proofs.Sums.{total_le, total_scale, total_add, total_same, total_map, weight_map, total_swap}
use Rattle.plans.proofs.Values.{plan_valid}
use Rattle.plans.proofs.Near.{ceiling_bounds, ceiling_near, part_reached, part_near}

some_share : (ms : List Share) → 1 ≤ length ms → All (λ m. 1 ≤ m.share) ms → 0 < weight_sum share_of ms
some_share [] h a = h
some_share (m ∷ ms) h a = omega (arith, All-head (λ (m : Share). 1 ≤ m.share) m ms a)

pub out_of_reach : OutOfReach
out_of_reach t os ws ms facts low mixture meets =
    let k = horizon os in
    let e = t.divisor ^ k in
    let w = weight_sum share_of ms in
    let u : ℕ → Objective → ℕ = λ i o. get_or ws i 0 in
    let top = ceiling_at (mean_rows t os ws k) t.first in
    let idle : Share = record { share = 0; plan = λ h. 0 } in
    let mixed : Objective → ℤ = λ o. total share_of (λ j m. expected t os o m.plan) ms in
    let a = total_le u (λ i o. (w * e) · o.target) (λ i o. 65536 · mixed o) os no_objective (λ j l. All-get_or (Meets t os ms) os j no_objective l meets) in
    let a1 = total_scale u (w * e) (λ i o. o.target) os in
    let a2 = total_scale u 65536 (λ i o. mixed o) os in
    let a3 = ap (λ z. 65536 · z) (total_swap u share_of (λ i o j m. expected t os o m.plan) os ms) in
    let a4 = total_scale share_of 65536 (λ j m. weighted ws os (λ o. expected t os o m.plan)) ms in
    let b = total_le share_of (λ j m. 65536 · weighted ws os (λ o. expected t os o m.plan)) (λ j m. e · top) ms idle
    (λ j l. ceiling_bounds t os ws k t.first (get_or ms j idle).plan facts facts.first_in (All-get_or (λ (m : Share). Valid t k t.first m.plan) ms j idle l mixture.plans)) in
    let b1 = total_same share_of (e · top) ms ∙ scale_scale w e top in
    let c = scale_lt (w * e) top (target_sum ws os) (mul-pos (some_share ms mixture.some mixture.shares) (one-le-pow k t.divisor facts.divisor_low)) low in
    omega (arith, le_out, lt_out, same_out)

pub miss_refutes : MissRefutes
miss_refutes t os ws facts some all =
    let k = horizon os in
    let m = all (mean_plan t os ws k t.first) (plan_valid mean_up mean_down t os ws k t.first facts facts.first_in) in
    let n = ceiling_near t os ws k t.first facts facts.first_in some in
    cancel_lt (t.divisor ^ k) (ceiling_at (mean_rows t os ws k) t.first) (target_sum ws os) (omega (arith, below_in, le_out, lt_out))

pub mixture_valid : MixtureValid
mixture_valid t os cs facts some shares = record {
  some = rw length-map some;
  shares = All-map (λ (m : Share). 1 ≤ m.share) (planned t os) cs shares;
  plans = All-map (λ (m : Share). Valid t (horizon os) t.first m.plan) (planned t os) cs
      (All-weaker (λ (c : Candidate). 1 ≤ c.share) (λ (c : Candidate). Valid t (horizon os) t.first (planned t os c).plan) (λ c h. plan_valid mean_up mean_down t os c.weights (horizon os) t.first facts facts.first_in) cs shares);
}

pub within_reach : WithinReach
within_reach t os cs i facts g few enough =
    let o = get_or os i no_objective in
    let e = t.divisor ^ horizon os in
    let w = weight_sum candidate_share cs in
    let part : ℕ → Candidate → ℤ = λ j c. part_at (mean_rows t os c.weights (horizon os)) i t.first in
    let gained : ℕ → Candidate → ℤ = λ j c. expected t os o (planned t os c).plan in
    let idle : Candidate = record { share = 0; weights = [] } in
    let a = total_le candidate_share (λ j c. e · part j c) (λ j c. 65536 · gained j c) cs idle
    (λ j l. part_reached t os (get_or cs j idle).weights (horizon os) t.first i facts facts.first_in g few) in
    let a1 = total_scale candidate_share e part cs in
    let a2 = total_scale candidate_share 65536 gained cs in
    let b = scale_le e (w · o.target) (total candidate_share part cs) enough in
    let b1 = scale_swap e w o.target ∙ scale_scale w e o.target in
    rw (total_map (planned t os) share_of (λ j (m : Share). expected t os o m.plan) cs, weight_map (planned t os) share_of cs)
    (omega (arith, at_most_in, le_out, same_out))

pub clear_achieves : ClearAchieves
clear_achieves t os cs i facts g few some clears =
    let o = get_or os i no_objective in
    let b = pos o.bound in
    let e = t.divisor ^ horizon os in
    let w = weight_sum candidate_share cs in
    let part : ℕ → Candidate → ℤ = λ j c. part_at (mean_rows t os c.weights (horizon os)) i t.first in
    let gained : ℕ → Candidate → ℤ = λ j c. expected t os o (planned t os c).plan in
    let idle : Candidate = record { share = 0; weights = [] } in
    let a = total_le candidate_share (λ j c. 65536 · gained j c) (λ j c. e · (part j c +ℤ b)) cs idle
    (λ j l. let n = part_near t os (get_or cs j idle).weights t.first i facts facts.first_in g few some in omega (arith, at_most_in, lt_out)) in
    let a1 = total_scale candidate_share 65536 gained cs in
    let a2 = total_scale candidate_share e (λ j c. part j c +ℤ b) cs in
    let d = total_add candidate_share part (λ j c. b) cs ∙ ap (λ z. total candidate_share part cs +ℤ z) (total_same candidate_share b cs) in
    let h = rw (total_map (planned t os) share_of (λ j (m : Share). expected t os o m.plan) cs, weight_map (planned t os) share_of cs) at clears in
    let h1 = scale_swap e w (o.target +ℤ b) ∙ scale_scale w e (o.target +ℤ b) in
    let c = cancel_le e (w · (o.target +ℤ b)) (total candidate_share (λ j c. part j c +ℤ b) cs) (one-le-pow (horizon os) t.divisor facts.divisor_low) (omega (arith, at_most_in, le_out, same_out)) in
    let f = scale_add w o.target b in
    omega (arith, at_most_in, le_out, same_out, sum_is_lem)
