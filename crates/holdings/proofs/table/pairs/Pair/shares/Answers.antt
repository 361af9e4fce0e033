use Rattle.std.proofs.Common.{length, rules}
use Rattle.holdings.proofs.Pairs.{pair_is}
use Rattle.holdings.proofs.table.pairs.Pair.shares.Goals as goal

pub returns : goal.returns
returns c = let p = c.args.self.now in let h = pair_is 16 (length p.rows.now) p.first p.second p.share p.rising p.inside p.few in search (rules, pair_is)
