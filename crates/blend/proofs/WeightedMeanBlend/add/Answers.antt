use Rattle.std.proofs.Common.{◌*◌, pos, refl, arith, w64, of_z}
use Rattle.std.proofs.lemmas.Int.{to_z-of_z}
use Rattle.plans.proofs.Amounts.{product_within}
use Rattle.blend.specs.Running.{max_amount}
use Rattle.blend.proofs.Fits.{sum_more}
use Rattle.blend.proofs.WeightedMeanBlend.add.Goals as goal

pub returns : goal.returns
returns g c =
    let a = c.args in
    let one = product_within a.weight a.amount a.weight max_amount (omega arith) c.requires.small in
    sum_more c.from.result a.amount (pos a.weight) a.amount (record { sfits = c.from.type_inv }) c.ranges.amount c.from.ensures refl (a.weight * max_amount) one (of_z w64 a.running) a.running (c.requires.so_far * max_amount) (to_z-of_z w64 a.running c.ranges.running) c.requires.reached (omega (arith, c.requires.room))
