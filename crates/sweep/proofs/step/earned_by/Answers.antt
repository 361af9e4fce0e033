use Rattle.std.proofs.Common.{◌≡◌, ℕ, get_or, pos, ◌*ℤ◌, ap, ◌∙◌, arith, w16, SFits, to_z, of_z, rules}
use Rattle.std.proofs.lemmas.Int.{to_z-of_z}
use Rattle.sweep.proofs.Gains.{two_earn}
use Rattle.sweep.proofs.Sums.{two, three_fits, four_fits, four_sum}
use Rattle.sweep.proofs.step.earned_by.Goals as goal

pub overflow_add-result : goal.overflow_add-result
overflow_add-result c =
    three_fits c.gain_times.result c.gain_times-2.result c.gain_times-3.result (omega (arith, c.gain_times.ensures.size)) (omega (arith, c.gain_times-2.ensures.size)) (omega (arith, c.gain_times-3.ensures.size))

pub overflow_add-result-2 : goal.overflow_add-result-2
overflow_add-result-2 c =
    four_fits c.gain_times.result c.gain_times-2.result c.gain_times-3.result (omega (arith, c.gain_times.ensures.size)) (omega (arith, c.gain_times-2.ensures.size)) (omega (arith, c.gain_times-3.ensures.size)) c.gain_times-4.result (omega (arith, c.gain_times-4.ensures.size))

pub returns-then-from-eq0 : goal.returns-then-from-eq0
returns-then-from-eq0 c =
    let e = two c.gain_times.result c.gain_times-2.result (pos 0) (omega (arith, c.gain_times.ensures.size)) (omega (arith, c.gain_times-2.ensures.size)) (omega arith) in
    let r = c.args.rewards in
    let p : (i : ℕ) → SFits w16 (get_or r i (pos 0)) → pos (get_or c.args.gains i 0) *ℤ to_z w16 (of_z w16 (get_or r i (pos 0))) ≡ pos (get_or c.args.gains i 0) *ℤ get_or r i (pos 0) = λ i f. ap (λ z. pos (get_or c.args.gains i 0) *ℤ z) (to_z-of_z w16 (get_or r i (pos 0)) f) in
    e ∙ cc (c.gain_times.ensures.value ∙ p 0 (search rules), c.gain_times-2.ensures.value ∙ p 1 (search rules)) ∙ two_earn c.args.gains r (omega (arith, c.if-from-eq0.true, c.from.ensures, c.from-2.ensures)) (omega (arith, c.if-from-eq0.true, c.from.ensures, c.from-2.ensures))

pub returns : goal.returns
returns c =
    let e = four_sum c.gain_times.result c.gain_times-2.result c.gain_times-3.result (omega (arith, c.gain_times.ensures.size)) (omega (arith, c.gain_times-2.ensures.size)) (omega (arith, c.gain_times-3.ensures.size)) c.gain_times-4.result (omega (arith, c.gain_times-4.ensures.size)) in
    let r = c.args.rewards in
    let p : (i : ℕ) → SFits w16 (get_or r i (pos 0)) → pos (get_or c.args.gains i 0) *ℤ to_z w16 (of_z w16 (get_or r i (pos 0))) ≡ pos (get_or c.args.gains i 0) *ℤ get_or r i (pos 0) = λ i f. ap (λ z. pos (get_or c.args.gains i 0) *ℤ z) (to_z-of_z w16 (get_or r i (pos 0)) f) in
    e ∙ cc (c.gain_times.ensures.value ∙ p 0 (search rules), c.gain_times-2.ensures.value ∙ p 1 (search rules), c.gain_times-3.ensures.value ∙ p 2 (search rules), c.gain_times-4.ensures.value ∙ p 3 (search rules))
