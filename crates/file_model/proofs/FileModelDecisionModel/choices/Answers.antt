use Rattle.std.proofs.Common.{rules}
use Rattle.file_model.proofs.Asked.{choices_are}
use Rattle.file_model.proofs.FileModelDecisionModel.choices.Goals as goal

pub returns : goal.returns
returns c = let e = choices_are c.args.self.now.bytes.now c.args.state c.starts.ensures in search (e, rules)
