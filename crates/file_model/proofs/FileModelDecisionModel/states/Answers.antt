use Rattle.std.proofs.Common.{◌∙◌}
use Rattle.file_model.proofs.Asked.{states_count}
use Rattle.file_model.proofs.FileModelDecisionModel.states.Goals as goal

pub returns : goal.returns
returns c = c.from.ensures ∙ c.word_at.ensures ∙ states_count c.args.self.now.bytes.now
