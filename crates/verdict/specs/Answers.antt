-- What a call answers: a value, or the number and the place of a fault. Assumes nothing.
use Rattle.std.specs.Prelude.{ℕ, List, Some, None, Ok, Err, Option, Result}
use Rattle.fault.specs.declared.Fault.{Fault}
use Rattle.truth.specs.Calls as calls
use Rattle.verdict.specs.declared.faults.DraftCause.{DraftCause}
use Rattle.verdict.specs.declared.faults.DocketCause.{DocketCause}
use Rattle.few.specs.declared.Few.{Few}
use Rattle.few.specs.Views.{listed}
use Rattle.verdict.specs.Numbers.{draft_number, docket_number}

-- the value, unless there is a fault
abbrev pub answered : {X : Type 0} → Option calls.Fault → X → Result X calls.Fault
answered None x = Ok x
answered (Some f) x = Err f

-- the fault's cause by its number, and the value by a view of it
abbrev pub told : {C X Y : Type 0} → (C → ℕ) → (X → Y) → Result X (Fault C) → Result Y calls.Fault
told number view (Ok x) = Ok (view x)
told number view (Err f) = Err (record { number = number f.cause; place = f.place })

abbrev pub told_draft : {X : Type 0} → Result X (Fault DraftCause) → Result X calls.Fault
told_draft r = told draft_number (λ x. x) r

abbrev pub told_docket : {X : Type 0} → Result X (Fault DocketCause) → Result X calls.Fault
told_docket r = told docket_number (λ x. x) r

abbrev pub told_list : {n : ℕ} → Result (Few ℕ n) (Fault DocketCause) → Result (List ℕ) calls.Fault
told_list r = told docket_number listed r
