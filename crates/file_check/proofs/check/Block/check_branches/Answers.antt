use Rattle.std.proofs.Common.{◌≡◌, ◌+◌, ◌-◌, ◌*◌, sym, ap, ◌∙◌, arith}
use Rattle.file_check.specs.Check.{branches_at, branch_size}
use Rattle.file_check.proofs.Steps.{broke, branches_cut, branches_more}
use Rattle.file_check.proofs.check.Block.check_branches.Goals as goal

pub returns-in_err-check_branch : goal.returns-in_err-check_branch
returns-in_err-check_branch c =
    broke c.from_residual.result c.from_residual.ensures.1
    (sym (c.loop-i.invariant.1 ∙ branches_cut c.args.self.now.bytes.now c.args.self.now.header _ _ _ _ _ (omega arith) c.in_err-check_branch.ensures))

pub loop-i-preserved : goal.loop-i-preserved
loop-i-preserved c =
    let at = c.args.from + c.loop-i.i * c.branch_size-size.result in
    let next : at + branch_size c.args.self.now.header.columns ≡ c.args.from + (c.loop-i.i + 1) * c.branch_size-size.result = grind arith in (
      omega arith,
      c.loop-i.invariant.1 ∙ (branches_more c.args.self.now.bytes.now c.args.self.now.header _ at _ _ _ (omega arith) c.in_ok-check_branch.ensures next ∙ ap (λ w. branches_at c.args.self.now.bytes.now c.args.self.now.header c.args.self.now.end (c.args.from + (c.loop-i.i + 1) * c.branch_size-size.result) (c.args.count - (c.loop-i.i + 1)) (c.loop-i.sum + w)) (sym c.from.ensures)),
    )
