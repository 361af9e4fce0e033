use Rattle.std.proofs.Common.{refl}
use Rattle.docket.proofs.Mixing.{mixed_is}
use Rattle.docket.proofs.docket.Docket.mix.Goals as goal

pub returns : goal.returns
returns g c =
    let d = c.args.self.now in
    record { answer = c.in_ok-met.ensures; after = mixed_is (g.M.Model.table d.model) d c.args.shares.now c.of.result _ c.in_ok-met.met _ c.in_ok-met.ensures c.of.ensures c.then_some-enough.ensures c.after-self.ensures; model = refl }
