use Rattle.std.proofs.Common.{◌≡◌, ◌+◌, ◌*◌, ◌<◌, [], ◌∷◌, ◌++◌, length, rules, arith}
use Rattle.few.specs.Views.{listed}
use Rattle.file_check.specs.Check.{choice_after}
use Rattle.file_model.proofs.Walk.{starts_none, starts_all, starts_pushed}
use Rattle.file_model.proofs.index_choices.Goals as goal

pub loop-at-preserved : goal.loop-at-preserved
loop-at-preserved c =
    let few : length (listed c.loop-at.starts) < 8 = search rules in
    let more : listed c.push.new.self ≡ listed c.loop-at.starts ++ (c.loop-at.at ∷ []) = search rules in
    let after : c.loop-at.at + (1 + c.from.result * c.branch_size.result) ≡ choice_after c.args.bytes.now c.args.columns c.loop-at.at = rw (c.branch_size.ensures, c.from.ensures) (omega arith) in
    starts_pushed c.args.bytes.now c.args.columns c.args.end c.loop-at.at 8 _ _ _ _ few c.loop-at-test.true more after c.loop-at.invariant

pub returns-else-is_ok : goal.returns-else-is_ok
returns-else-is_ok c = search (rules, starts_all)

pub returns-after-loop-at : goal.returns-after-loop-at
returns-after-loop-at c = search (rules, starts_none)
