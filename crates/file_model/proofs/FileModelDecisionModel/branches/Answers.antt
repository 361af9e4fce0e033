use Rattle.std.proofs.Common.{rules}
use Rattle.file_model.proofs.Asked.{branches_are}
use Rattle.file_model.proofs.FileModelDecisionModel.branches.Goals as goal

pub returns : goal.returns
returns c = let e = branches_are c.args.self.now.bytes.now c.args.state c.args.choice c.choice_at.result c.choice_at.ensures.place in search (e, rules)
