use Rattle.std.proofs.Common.{sym, ◌∙◌}
use Rattle.file_check.proofs.Accepted.{ok_accepted}
use Rattle.file_model.proofs.Whole.{blank_accepted, blank_table, refused_table, refused_all}
use Rattle.file_model.proofs.FileModel.read.Goals as goal

pub of_accepted-requires : goal.of_accepted-requires
of_accepted-requires c = ok_accepted c.args.bytes.now c.in-Ok.ensures.answer

pub of_accepted-requires-in-Err : goal.of_accepted-requires-in-Err
of_accepted-requires-in-Err c = blank_accepted c.blank_file.ensures

pub returns-in-Err-clause-model : goal.returns-in-Err-clause-model
returns-in-Err-clause-model c = blank_table (c.of_accepted-in-Err.ensures.0 ∙ c.blank_file.ensures) ∙ sym (refused_table c.args.bytes.now c.in-Err.ensures.answer)

pub returns-in-Err-clause-encoded : goal.returns-in-Err-clause-encoded
returns-in-Err-clause-encoded c = λ t o. refused_all c.args.bytes.now c.in-Err.ensures.answer t o
