use Rattle.std.proofs.Common.{ℕ, arith}
use Rattle.file_model.proofs.Whole.{whole}
use Rattle.file_model.proofs.FileModel.of_accepted.Goals as goal

pub index_file-requires : goal.index_file-requires
index_file-requires c = whole c.args.bytes.now c.requires (λ i. (c.type_inv.bytes i).fits)

pub invariant_of-result : goal.invariant_of-result
invariant_of-result c =
    let typed = λ (i : ℕ). (c.type_inv.bytes i).fits in
    let w = whole c.args.bytes.now c.requires typed in
    record { long = omega (arith, w.room); sound = c.requires; typed = typed; indexed = c.index_file.ensures }
