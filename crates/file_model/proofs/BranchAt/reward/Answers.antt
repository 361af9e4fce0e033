use Rattle.std.proofs.Common.{◌+◌, get_or, Some, sym, ap, ◌∙◌, arith, w16, to_z}
use Rattle.std.proofs.lemmas.Int.{to_z-of_z}
use Rattle.file_check.specs.Decode.{reward_in}
use Rattle.file_model.proofs.Asked.{get_steps, get_steps_past}
use Rattle.file_model.proofs.BranchAt.reward.Goals as goal

pub returns-then-column-from : goal.returns-then-column-from
returns-then-column-from c = let b = c.args.self.now in sym (get_steps_past (reward_in b.bytes.now) 2 (b.at + 4) (get_or b.bytes.now 6 0) c.args.column (omega arith))

pub returns : goal.returns
returns c =
    let b = c.args.self.now in
    ap Some (to_z-of_z w16 c.cast_signed.result (record { sfits = c.cast_signed.type_inv }) ∙ c.cast_signed.ensures ∙ ap (to_z w16) c.word_at.ensures)
    ∙ sym (get_steps (reward_in b.bytes.now) 2 (b.at + 4) (get_or b.bytes.now 6 0) c.args.column (omega arith))
