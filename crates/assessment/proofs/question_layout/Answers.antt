use Rattle.assessment.proofs.Bytes as bytes
use Rattle.assessment.proofs.question_layout.Goals as goal

pub returns : goal.returns
returns c = bytes.question_layout
