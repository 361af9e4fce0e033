-- What the steps of an assessment answer, over the table of any model. Assumes nothing.
use Rattle.std.specs.Prelude.{ℕ, not, List, [], ◌∷◌, length, codes, Option, ◌==◌, nat_lt}
use Rattle.mdp.specs.Table.{Table}
use Rattle.plans.specs.declared.Objective.{Objective}
use Rattle.truth.specs.Dockets.{Docket, posed}
use Rattle.truth.specs.Calls.{settle, draft_refusal, drafted, refusal}
use Rattle.assessment.specs.Questions.{question_size, objective_size}
use Rattle.assessment.specs.Faults.{Told}
use Rattle.assessment.specs.Assess.{least_print, first_fault, where_so, from, of_question}

-- a question of another length
abbrev pub length_fault : List ℕ → Option Told
length_fault question = where_so (not (length question == question_size)) (of_question 16 (length question))

-- too few print bytes
abbrev pub print_fault : ℕ → Option Told
print_fault print = where_so (nat_lt print least_print) (of_question 17 print)

-- the docket that two objectives pose
abbrev pub pair_docket : Table → Objective → Objective → Docket
pair_docket t o p = posed (drafted t.columns (o ∷ p ∷ []))

-- why the first is not taken, why the second is not, and why the docket is not settled
abbrev pub first_fault_of : Table → Objective → Option Told
first_fault_of t o = from (codes "draft") 0 (draft_refusal t.columns [] o)

abbrev pub second_fault_of : Table → Objective → Objective → Option Told
second_fault_of t o p = from (codes "draft") objective_size (draft_refusal t.columns (o ∷ []) p)

abbrev pub docket_fault_of : Table → Objective → Objective → ℕ → Option Told
docket_fault_of t o p lent = from (codes "docket") 0 (refusal t (pair_docket t o p) (settle lent))

unfoldable pub pair_fault : Table → Objective → Objective → ℕ → Option Told
pair_fault t o p lent = first_fault (first_fault_of t o ∷ second_fault_of t o p ∷ docket_fault_of t o p lent ∷ [])
