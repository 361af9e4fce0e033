use Rattle.std.proofs.Common.{length, is_some, ap, ◌∙◌, arith}
use Rattle.std.proofs.lemmas.Bool.{le-leb}
use Rattle.text.specs.Texts.{text_of}
use Rattle.text.proofs.Lengths.{length_text}
use Rattle.assessment.proofs.assess.put.Goals as goal

pub unwrap-requires : goal.unwrap-requires
unwrap-requires c =
    let text = text_of c.args.text.now in
    let fits = le-leb (length text) (length c.args.print.now) (omega (arith, length_text c.args.text.now, c.requires)) in
    ap is_some c.write_to.ensures.answer ∙ rw fits
