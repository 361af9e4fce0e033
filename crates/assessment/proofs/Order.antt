-- The checks of an assessment, in their order, and that what it shows is true. Assumes nothing.
use Rattle.std.proofs.Common.{◌≡◌, ℕ, ◌≤◌, Bool, true, false, ltb, List, [], ◌∷◌, get_or, Some, None, Ok, Err, Option, Result, sym, refl, ◌∙◌, arith}
use Rattle.std.specs.Result.{result_err}
use Rattle.std.proofs.lemmas.Bool.{ltb-false}
use Rattle.mdp.specs.Table.{Table, Facts}
use Rattle.plans.specs.declared.Objective.{Objective}
use Rattle.plans.specs.declared.Row.{Row}
use Rattle.plans.specs.Plans.{no_objective}
use Rattle.file_check.specs.Check.{FileFault, Checked, check_result}
use Rattle.file_check.specs.Accepts.{read_table}
use Rattle.truth.specs.Calls.{settle, after}
use Rattle.truth.specs.Claims.{ShowsTrue}
use Rattle.truth.proofs.Sound.{truth_drafted}
use Rattle.docket.specs.Settling.{settled_rows}
use Rattle.assessment.specs.declared.faults.LayerFault.TheVariants.{File}
use Rattle.assessment.specs.Questions.{objective_size, objective_at, asked}
use Rattle.assessment.specs.Faults.{Told, told_at, unless}
use Rattle.assessment.specs.Listings.{listing}
use Rattle.assessment.specs.Assess.{least_print, first_fault, where_so, of_check, of_question, question_docket, assess_fault, assessed, if_none}
use Rattle.assessment.specs.Steps.{length_fault, print_fault, pair_docket, pair_fault}

-- ---- the file
told_of_check : (r : Checked (Unit {0})) (f : FileFault) → Some f ≡ result_err r → of_check r ≡ Some (told_at 0 (File f))
told_of_check (Ok u) f e = let z : ◌≡◌ {A = ℕ} 0 1 = cc in absurd (omega arith)
told_of_check (Err g) f e = cc

none_of_check : (r : Checked (Unit {0})) → None ≡ result_err r → of_check r ≡ None
none_of_check (Ok u) e = refl
none_of_check (Err g) e = let z : ◌≡◌ {A = ℕ} 0 1 = cc in absurd (omega arith)

-- ---- the question's length and the print bytes, and what is checked after them
early_some : (a b : Option Told) (fs : List (Option Told)) (f : Told) → first_fault (a ∷ b ∷ []) ≡ Some f → first_fault (a ∷ b ∷ fs) ≡ Some f
early_some (Some g) b fs f e = e
early_some None (Some g) fs f e = e
early_some None None fs f e = let z : ◌≡◌ {A = ℕ} 0 1 = cc in absurd (omega arith)

early_none : (a b : Option Told) (fs : List (Option Told)) → first_fault (a ∷ b ∷ []) ≡ None → (b ≡ None) × (first_fault (a ∷ b ∷ fs) ≡ first_fault fs)
early_none (Some g) b fs e = let z : ◌≡◌ {A = ℕ} 0 1 = cc in absurd (omega arith)
early_none None (Some g) fs e = let z : ◌≡◌ {A = ℕ} 0 1 = cc in absurd (omega arith)
early_none None None fs e = (refl, refl)

abbrev pub early_fault : List ℕ → ℕ → Option Told
early_fault q room = first_fault (length_fault q ∷ print_fault room ∷ [])

none_so : (b : Bool) (f : Told) → where_so b f ≡ None → b ≡ false
none_so true f e = let z : ◌≡◌ {A = ℕ} 0 1 = cc in absurd (omega arith)
none_so false f e = refl

pub wide_enough : (q : List ℕ) (room : ℕ) → early_fault q room ≡ None → least_print ≤ room
wide_enough q room e = ltb-false room least_print (none_so (ltb room least_print) (of_question 17 room) (early_none (length_fault q) (print_fault room) [] e).0)

-- ---- all checks
module _ (file q : List ℕ) (lent room : ℕ) where
  pub by_file : (f : FileFault) → Some f ≡ result_err (check_result file) → assess_fault file q lent room ≡ Some (told_at 0 (File f))
  unfolding assess_fault
  by_file f e = rw (told_of_check (check_result file) f e)

  module _ (good : None ≡ result_err (check_result file)) where
    pub by_question : (f : Told) → early_fault q room ≡ Some f → assess_fault file q lent room ≡ Some f
    unfolding assess_fault
    by_question f e = rw (none_of_check (check_result file) good) (early_some (length_fault q) (print_fault room) _ f e)

    module _ (early : early_fault q room ≡ None) where
      by_pair : assess_fault file q lent room ≡ pair_fault (read_table file) (objective_at q 0) (objective_at q objective_size) lent
      unfolding assess_fault pair_fault
      by_pair = rw (none_of_check (check_result file) good) (early_none (length_fault q) (print_fault room) _ early).1

      -- what is left to the objectives, over a table that is the file's
      module _ (t : Table) (os : List Objective) (m : t ≡ read_table file) (is : os ≡ asked q) where
        abbrev first : Objective
        first = get_or os 0 no_objective

        abbrev second : Objective
        second = get_or os 1 no_objective

        as_fault : pair_fault t first second lent ≡ assess_fault file q lent room
        as_fault = (λ i. pair_fault (m i) (get_or (is i) 0 no_objective) (get_or (is i) 1 no_objective) lent) ∙ sym by_pair

        pub pair_answer : (x : Result (List ℕ) Told) → x ≡ unless (pair_fault t first second lent) (listing (after t (pair_docket t first second) (settle lent))) →
            x ≡ unless (assess_fault file q lent room) (listing (assessed file q lent))
        pair_answer x e = e ∙ (λ i. unless (as_fault i) (listing (after (m i) (pair_docket (m i) (get_or (is i) 0 no_objective) (get_or (is i) 1 no_objective)) (settle lent))))

        pub pair_rows : (old rows : List Row) → rows ≡ if_none (pair_fault t first second lent) (settled_rows t (pair_docket t first second) old) old →
            rows ≡ if_none (assess_fault file q lent room) (settled_rows (read_table file) (question_docket file q) old) old
        pair_rows old rows e = e ∙ (λ i. if_none (as_fault i) (settled_rows (m i) (pair_docket (m i) (get_or (is i) 0 no_objective) (get_or (is i) 1 no_objective)) old) old)

pub shows_true : (file q : List ℕ) (lent : ℕ) → Facts (read_table file) → ShowsTrue (read_table file) (assessed file q lent)
shows_true file q lent facts = (truth_drafted (read_table file) facts (asked q) [] (settle lent)).0
