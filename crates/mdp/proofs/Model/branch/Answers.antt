use Rattle.std.proofs.Common.{rules}
use Rattle.mdp.proofs.Columns.{four_items}
use Rattle.mdp.proofs.Model.branch.Goals as goal

pub returns : goal.returns
returns g c =
    let e = c.from_fn-rewards.ensures.items in
    let k = four_items _ e.each.1 e.each.4.1 e.each.4.4.1 e.each.4.4.4.1 e.long e.each.2.0 e.each.4.2.0 e.each.4.4.2.0 e.each.4.4.4.2.0 in
    search (k, rules)
