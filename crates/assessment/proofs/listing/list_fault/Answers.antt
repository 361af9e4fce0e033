use Rattle.std.proofs.Common.{◌≡◌, ℕ, ◌^◌, ◌<◌, ◌≤◌, List, [], ◌∷◌, length, codes, decimal, sym, refl, ap, ◌∙◌, subst, arith, length-append, rules}
use Rattle.fault.specs.Texts.{fault_text}
use Rattle.text.specs.Texts.{text_of, followed_by}
use Rattle.text.proofs.Lengths.{length_decimal_64, length_decimal_16}
use Rattle.text.proofs.Followed.{followed_fits}
use Rattle.assessment.specs.declared.faults.LayerFault.{LayerFault}
use Rattle.assessment.specs.Faults.{Told, told_at, told_fault, fault_line}
use Rattle.assessment.proofs.Lines.{put_whole}
use Rattle.assessment.proofs.listing.list_fault.Goals as goal
use Rattle.assessment.proofs.listing.list_fault.Goals.{in-File, in-Draft, in-Docket, in-Question}

abbrev tail_of : Told → List ℕ
tail_of f = fault_text f.layer f.number f.place

pub record Short (at : ℕ) (f : Told) : Type 0 where
  pub offset : f.offset ≡ at
  pub layer : length f.layer ≤ 8
  pub number : f.number < 2 ^ 16
  pub place : f.place < 2 ^ 64

line_fits : (at : ℕ) (f : Told) → at < 2 ^ 64 → Short at f → length (fault_line f) ≤ 64
line_fits at f o s =
    let a = length_decimal_64 f.offset (omega (arith, s.offset)) in
    let b = length_decimal_16 f.number s.number in
    let d = length_decimal_64 f.place s.place in
    let l = s.layer in
    simp length-append (omega arith)

line_is : (t0 t1 t2 t3 t4 t5 : List ℕ) (at : ℕ) (f : Told) → at < 2 ^ 64 → Short at f → t0 ≡ [] → t1 ≡ followed_by t0 (codes "fault ") → t2 ≡ followed_by t1 (decimal at) →
    t3 ≡ followed_by t2 (32 ∷ []) → t4 ≡ followed_by t3 (tail_of f) → t5 ≡ followed_by t4 (10 ∷ []) → t5 ≡ fault_line f
line_is t0 t1 t2 t3 t4 t5 at f o s e0 e1 e2 e3 e4 e5 =
    let p = put_whole [] (codes "fault ") (decimal f.offset ∷ (32 ∷ []) ∷ tail_of f ∷ (10 ∷ []) ∷ []) in
    let fits = followed_fits [] (fault_line f) (line_fits at f o s) in
    let same = s.offset in
    cc

pub returns : goal.returns
returns c =
    let t3 = text_of c.push_str-2.new.self in
    let t4 = text_of c.match-fault.text in
    let at = c.args.fault.offset in
    let f = told_fault c.args.fault in
    let so : LayerFault → Type 0 = λ l. Short at (told_at at l) × (t4 ≡ followed_by t3 (tail_of (told_at at l))) in
    let way : so c.args.fault.fault =
    elim c.match-fault.branch [
      | in-File w ↦
          subst so (sym w.in-File.is)
          (record { offset = refl; layer = omega arith; number = omega (arith, w.push_fault.ensures.number); place = search rules }, ap text_of w.text-is ∙ w.push_fault.ensures.text)
      | in-Draft w ↦
          subst so (sym w.in-Draft.is)
          (record { offset = refl; layer = omega arith; number = omega (arith, w.push_fault-in-Draft.ensures.number); place = search rules }, ap text_of w.text-is ∙ w.push_fault-in-Draft.ensures.text)
      | in-Docket w ↦
          subst so (sym w.in-Docket.is)
          (record { offset = refl; layer = omega arith; number = omega (arith, w.push_fault-in-Docket.ensures.number); place = search rules }, ap text_of w.text-is ∙ w.push_fault-in-Docket.ensures.text)
      | in-Question w ↦
          subst so (sym w.in-Question.is)
          (record { offset = refl; layer = omega arith; number = omega (arith, w.push_fault-in-Question.ensures.number); place = search rules }, ap text_of w.text-is ∙ w.push_fault-in-Question.ensures.text)
    ] in
    line_is (text_of c.new-text.result) (text_of c.push_str.new.self) (text_of c.push_decimal.new.self) t3 t4 (text_of c.push_str-3.new.self) at f (search rules) way.0
    c.new-text.ensures c.push_str.ensures c.push_decimal.ensures c.push_str-2.ensures way.1 c.push_str-3.ensures
