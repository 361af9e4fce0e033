use Rattle.std.proofs.Common.{ℕ, List, [], ◌∷◌, decimal}
use Rattle.text.specs.Texts.{text_of}
use Rattle.assessment.proofs.Lines.{put_whole}
use Rattle.assessment.proofs.listing.push_fault.Goals as goal

pub returns-clause-text : goal.returns-clause-text
returns-clause-text g c =
    let f = c.args.fault in
    let space : List ℕ = 32 ∷ [] in
    let p = put_whole (text_of c.args.text.now) g.C.Cause.word (space ∷ decimal (g.C.Cause.numbered f.cause) ∷ space ∷ decimal f.place ∷ []) in
    cc
