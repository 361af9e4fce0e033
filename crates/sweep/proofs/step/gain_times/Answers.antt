use Rattle.std.proofs.Common.{◌≡◌, ◌≤◌, pos, ◌*ℤ◌, nat_abs, ap, ◌∙◌, arith, w16, w64, to_z, of_z}
use Rattle.std.proofs.lemmas.Int.{ints, to_z-of_z}
use Rattle.plans.proofs.Amounts.{product_within}
use Rattle.blend.proofs.Fits.{fits_small}
use Rattle.sweep.proofs.step.gain_times.Goals as goal

pub returns : goal.returns
returns c =
    let a = c.args in
    let x = to_z-of_z w64 c.from.result (record { sfits = c.from.type_inv }) ∙ c.from.ensures in
    let y = to_z-of_z w64 c.from-2.result (record { sfits = c.from-2.type_inv }) ∙ c.from-2.ensures ∙ to_z-of_z w16 a.reward c.ranges.reward in
    let gain : a.gain ≤ 65535 = omega arith in
    let reward : nat_abs a.reward ≤ 32768 = let f = c.ranges.reward in omega (arith, ints) in
    let small = product_within a.gain a.reward 65535 32768 gain reward in
    let e : to_z w64 (of_z w64 (to_z w64 (of_z w64 c.from.result) *ℤ to_z w64 (of_z w64 c.from-2.result))) ≡ pos a.gain *ℤ a.reward = ap (λ z. to_z w64 (of_z w64 z)) (ap (λ z. z *ℤ to_z w64 (of_z w64 c.from-2.result)) x ∙ ap (λ z. pos a.gain *ℤ z) y) ∙ to_z-of_z w64 (pos a.gain *ℤ a.reward) (fits_small (pos a.gain *ℤ a.reward) (omega arith)) in
    record { value = e; size = omega (arith, ap nat_abs e) }
