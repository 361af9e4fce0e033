-- A fault of a question, as it is told and written. Assumes nothing.
use Rattle.std.specs.Prelude.{ℕ, List, [], ◌∷◌, ◌++◌, Some, None, Ok, Err, codes, decimal, Option, Result}
use Rattle.fault.specs.Texts.{fault_text}
use Rattle.file_check.specs.Numbers.{cause_number}
use Rattle.verdict.specs.Numbers.{draft_number, docket_number}
use Rattle.assessment.specs.declared.faults.QuestionCause.{QuestionCause}
use Rattle.assessment.specs.declared.faults.QuestionCause.TheVariants.{Length, Print}
use Rattle.assessment.specs.declared.faults.LayerFault.{LayerFault}
use Rattle.assessment.specs.declared.faults.LayerFault.TheVariants.{File, Draft, Docket, Question}
use Rattle.assessment.specs.declared.faults.QuestionFault.{QuestionFault}

abbrev pub question_number : QuestionCause → ℕ
question_number Length = 16
question_number Print = 17

-- the offset in the question where it arose, the word of its layer, its number and its place
pub record Told : Type 0 where
  pub offset : ℕ
  pub layer : List ℕ
  pub number : ℕ
  pub place : ℕ

abbrev pub told_at : ℕ → LayerFault → Told
told_at at (File f) = record { offset = at; layer = codes "file"; number = cause_number f.cause; place = f.place }
told_at at (Draft f) = record { offset = at; layer = codes "draft"; number = draft_number f.cause; place = f.place }
told_at at (Docket f) = record { offset = at; layer = codes "docket"; number = docket_number f.cause; place = f.place }
told_at at (Question f) = record { offset = at; layer = codes "question"; number = question_number f.cause; place = f.place }

abbrev pub told_fault : QuestionFault → Told
told_fault f = told_at f.offset f.fault

-- an answer, told
abbrev pub told : {X : Type 0} → Result X QuestionFault → Result X Told
told (Ok x) = Ok x
told (Err f) = Err (told_fault f)

-- the value, unless there is a fault
abbrev pub unless : {X : Type 0} → Option Told → X → Result X Told
unless None x = Ok x
unless (Some f) x = Err f

-- the line of a fault
abbrev pub fault_line : Told → List ℕ
fault_line f = codes "fault " ++ (decimal f.offset ++ (32 ∷ (fault_text f.layer f.number f.place ++ 10 ∷ [])))
