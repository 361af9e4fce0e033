-- What an assessment answers, prints and leaves. Assumes nothing.
use Rattle.std.specs.Prelude.{ℕ, Bool, cond, not, List, [], ◌∷◌, ◌++◌, length, drop, Some, None, Ok, Err, codes, Option, ◌==◌, nat_lt}
use Rattle.file_check.specs.Check.{Checked, check_result}
use Rattle.file_check.specs.Accepts.{read_table}
use Rattle.truth.specs.Dockets.{Docket, posed}
use Rattle.truth.specs.Calls as calls
use Rattle.truth.specs.Calls.{settle, draft_refusal, drafted, refusal, after}
use Rattle.assessment.specs.declared.faults.LayerFault.TheVariants.{File}
use Rattle.assessment.specs.Questions.{question_size, objective_size, objective_at, asked}
use Rattle.assessment.specs.Faults.{Told, told_at}

-- the least number of print bytes
abbrev pub least_print : ℕ
least_print = 64

abbrev pub told_as : List ℕ → ℕ → calls.Fault → Told
told_as layer at f = record { offset = at; layer = layer; number = f.number; place = f.place }

-- the first fault of a list of them
abbrev pub first_fault : List (Option Told) → Option Told
first_fault [] = None
first_fault (None ∷ fs) = first_fault fs
first_fault (Some f ∷ fs) = Some f

abbrev pub where_so : Bool → Told → Option Told
where_so b f = cond b (Some f) None

abbrev pub from : List ℕ → ℕ → Option calls.Fault → Option Told
from layer at None = None
from layer at (Some f) = Some (told_as layer at f)

abbrev pub of_question : ℕ → ℕ → Told
of_question n p = record { offset = 0; layer = codes "question"; number = n; place = p }

abbrev pub of_check : Checked (Unit {0}) → Option Told
of_check (Ok u) = None
of_check (Err f) = Some (told_at 0 (File f))

abbrev pub file_fault : List ℕ → Option Told
file_fault file = of_check (check_result file)

-- the docket that the question poses over the model of the file
abbrev pub question_docket : List ℕ → List ℕ → Docket
question_docket file question = posed (drafted (read_table file).columns (asked question))

-- the checks in their order: the file, the question's length, the print bytes, the objectives, the working rows
unfoldable pub assess_fault : List ℕ → List ℕ → ℕ → ℕ → Option Told
assess_fault file question lent print =
    let t = read_table file in
    let first = objective_at question 0 in
    let second = objective_at question objective_size in
    first_fault (
    file_fault file
    ∷ where_so (not (length question == question_size)) (of_question 16 (length question))
    ∷ where_so (nat_lt print least_print) (of_question 17 print)
    ∷ from (codes "draft") 0 (draft_refusal t.columns [] first)
    ∷ from (codes "draft") objective_size (draft_refusal t.columns (first ∷ []) second)
    ∷ from (codes "docket") 0 (refusal t (question_docket file question) (settle lent))
    ∷ [])

-- the docket after it is settled
abbrev pub assessed : List ℕ → List ℕ → ℕ → Docket
assessed file question lent = after (read_table file) (question_docket file question) (settle lent)

-- what is put at the front of print bytes, and what stays beyond
abbrev pub onto : List ℕ → List ℕ → List ℕ
onto text old = text ++ drop (length text) old

abbrev pub if_none : {X : Type 0} → Option Told → X → X → X
if_none None x y = x
if_none (Some f) x y = y
