use Rattle.std.proofs.Common.{◌^◌, ◌≤◌, nat_abs, sym, subst}
use Rattle.holdings.proofs.Products.{product_near, fits, back}
use Rattle.holdings.proofs.sums.scaled.Goals as goal

pub overflow_mul-result : goal.overflow_mul-result
overflow_mul-result c = fits c.from.result c.from-2.result c.args.times c.args.amount c.from.ensures c.from-2.ensures c.ranges.times.fits c.ranges.amount

pub returns : goal.returns
returns c =
    let e = back c.from.result c.from-2.result c.args.times c.args.amount c.from.ensures c.from-2.ensures c.ranges.times.fits c.ranges.amount in
    let n = product_near c.from.result c.from-2.result c.args.times c.args.amount c.from.ensures c.from-2.ensures c.ranges.times.fits c.ranges.amount in
    record { is = e; near = subst (λ z. nat_abs z ≤ 2 ^ 79) (sym e) n }
