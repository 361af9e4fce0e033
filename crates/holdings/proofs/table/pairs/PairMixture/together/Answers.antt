use Rattle.std.proofs.Common.{length, sym}
use Rattle.holdings.proofs.Pairs.{sum_paired}
use Rattle.holdings.proofs.table.pairs.PairMixture.together.Goals as goal

pub returns : goal.returns
returns c = let p = c.args.self.now in sym (sum_paired (length p.rows.now) p.first p.second p.share p.rising p.inside p.small)
