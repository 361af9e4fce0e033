-- What an answer tells of the refusal. Assumes nothing.
use Rattle.std.proofs.Common.{◌≡◌, Some, None, Ok, Err, Option, Result, sym, refl, ap, ◌∙◌}
use Rattle.truth.specs.Calls.{Fault, if_taken}
use Rattle.fault.specs.declared.Fault as fault
use Rattle.verdict.specs.declared.faults.DocketCause.{DocketCause}
use Rattle.verdict.specs.Numbers.{docket_number}
use Rattle.verdict.specs.Answers.{answered, told_docket}

pub taken_none : {X : Type 0} (o : Option Fault) (x y : X) → Ok x ≡ answered o y → o ≡ None
taken_none None x y e = refl
taken_none (Some f) x y e = cc

pub taken_value : {X : Type 0} (o : Option Fault) (x y : X) → Ok x ≡ answered o y → x ≡ y
taken_value None x y e = cc
taken_value (Some f) x y e = cc

pub if_none : {X : Type 0} (o : Option Fault) (x y : X) → o ≡ None → if_taken o x y ≡ x
if_none o x y e = ap (λ v. if_taken v x y) e

pub taken_some : {X : Type 0} (o : Option Fault) (f : Fault) (y : X) → Err f ≡ answered o y → o ≡ Some f
taken_some None f y e = cc
taken_some (Some g) f y e = cc

pub if_some : {X : Type 0} (o : Option Fault) (f : Fault) (x y : X) → o ≡ Some f → if_taken o x y ≡ y
if_some o f x y e = ap (λ v. if_taken v x y) e

-- a refusal is handed on
abbrev pub numbered : fault.Fault DocketCause → Fault
numbered f = record { number = docket_number f.cause; place = f.place }

pub handed_on : {X Y : Type 0} (r : Result Y (fault.Fault DocketCause)) (f : fault.Fault DocketCause) (o : Option Fault) (x : X) (y : Y) →
    r ≡ Err f → Err (numbered f) ≡ answered o x → told_docket r ≡ answered o y
handed_on r f o x y e h = ap told_docket e ∙ ap (λ v. answered v y) (sym (taken_some o (numbered f) x h))

pub left_as_was : {X Z : Type 0} (f : fault.Fault DocketCause) (o : Option Fault) (x : X) (z w : Z) → Err (numbered f) ≡ answered o x → w ≡ if_taken o z w
left_as_was f o x z w h = sym (if_some o (numbered f) z w (taken_some o (numbered f) x h))
