use Rattle.std.proofs.Common.{length, sym, ap, ◌∙◌, subst}
use Rattle.docket.specs.Stages.{stage, Room, after_prices, prices_on}
use Rattle.docket.proofs.Settling.{one_is, room_on, anew_is}
use Rattle.docket.proofs.docket.settling.Settling.price_anew.Goals as goal

pub price_on-requires : goal.price_on-requires
price_on-requires g c =
    let e = one_is c.args.self.now c.clear.new.self (stage c.price_toward.new.self) c.clear.ensures.model c.clear.ensures.after c.price_toward.ensures.after in
    record { room = subst (λ s. Room s (length (prices_on s))) (sym e) (room_on (stage c.args.self.now)) }

pub returns : goal.returns
returns g c =
    let e = one_is c.args.self.now c.clear.new.self (stage c.price_toward.new.self) c.clear.ensures.model c.clear.ensures.after c.price_toward.ensures.after in
    c.price_on.ensures ∙ ap (λ s. after_prices s (prices_on s)) e ∙ anew_is (stage c.args.self.now)
