use Rattle.std.proofs.Common.{arith}
use Rattle.file_model.proofs.Asked.{branch_some, branch_past, branch_inside}
use Rattle.file_model.proofs.FileModel.branch_at.Goals as goal

pub returns-then-branch-from : goal.returns-then-branch-from
returns-then-branch-from c = branch_past c.args.self.now.bytes.now c.args.state c.args.choice _ c.in_ok-at.ensures.place c.args.branch (omega arith)

pub invariant_of-branch : goal.invariant_of-branch
invariant_of-branch c = record {
  long = c.args.self.now.long;
  inside = simp c.branch_size.ensures (branch_inside c.args.self.now.bytes.now _ c.args.branch (omega arith) c.in_ok-at.ensures.inside);
}

pub returns : goal.returns
returns c = simp c.branch_size.ensures (branch_some c.args.self.now.bytes.now c.args.state c.args.choice _ c.in_ok-at.ensures.place c.args.branch (omega arith))
