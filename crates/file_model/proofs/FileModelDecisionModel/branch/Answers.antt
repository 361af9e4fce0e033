use Rattle.std.proofs.Common.{rules}
use Rattle.file_check.specs.Decode.{decode}
use Rattle.file_model.proofs.Asked.{whole_is}
use Rattle.file_model.proofs.FileModelDecisionModel.branch.Goals as goal

pub returns : goal.returns
returns c = let e = whole_is (decode c.args.self.now.bytes.now) c.args.state c.args.choice c.args.branch _ c.branch_at.ensures in search (e, rules)
