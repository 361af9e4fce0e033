use Rattle.std.proofs.Common.{sym, ◌∙◌}
use Rattle.docket.specs.Views.{view}
use Rattle.docket.proofs.Pairs.{closed, opened}
use Rattle.docket.proofs.docket.Docket.judge_pairs.Goals as goal

pub returns-then-not-is_open : goal.returns-then-not-is_open
returns-then-not-is_open g c = closed (view c.args.self.now) (sym c.if-not-is_open.ensures)

pub returns : goal.returns
returns g c =
    let d = view c.args.self.now in
    (λ i. record d { verdict = c.after.ensures i }) ∙ opened d (sym c.if-not-is_open.ensures) c.find_pair-found.result c.find_pair-found.ensures
