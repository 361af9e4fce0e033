use Rattle.std.proofs.Common.{◌≡◌, ℕ, List, [], ◌∷◌, ◌++◌, map, codes, sym, ap, ◌∙◌, w64, SFits, rules}
use Rattle.std.specs.Fmt.{signed_decimal}
use Rattle.std.proofs.lemmas.List.{append_assoc}
use Rattle.std.proofs.lemmas.Int.{to_z-of_z}
use Rattle.few.specs.Views.{listed}
use Rattle.verdict.specs.Verdicts.{verdict_of}
use Rattle.holdings.specs.Views.{row_of}
use Rattle.text.specs.Texts.{text_of, followed_by}
use Rattle.assessment.specs.Listings.{spaced, line, lines_of}
use Rattle.assessment.proofs.Lines.{put_whole}
use Rattle.assessment.proofs.listing.list.Goals as goal

refuted_text : (t0 t1 t2 t3 t4 t5 t6 ws c s : List ℕ) → t0 ≡ [] → t1 ≡ followed_by t0 (line (codes "refuted")) → t2 ≡ followed_by t1 ws → t3 ≡ followed_by t2 c → t4 ≡ followed_by t3 (32 ∷ []) →
    t5 ≡ followed_by t4 s → t6 ≡ followed_by t5 (10 ∷ []) → t6 ≡ followed_by [] (line (codes "refuted") ++ (ws ++ line (c ++ (32 ∷ s))))
refuted_text t0 t1 t2 t3 t4 t5 t6 ws c s e0 e1 e2 e3 e4 e5 e6 =
    let p = put_whole [] (line (codes "refuted")) (ws ∷ c ∷ (32 ∷ []) ∷ s ∷ (10 ∷ []) ∷ []) in
    let a = append_assoc c (32 ∷ s) (10 ∷ []) in
    cc

pub returns-in-Refuted : goal.returns-in-Refuted
returns-in-Refuted c =
    let t1 = text_of c.push_str-in-Refuted.new.self in
    let t2 = text_of c.push_weights.new.text in
    let t4 = text_of c.push_str-in-Refuted-2.new.self in
    let ceiling = c.in-Refuted.ceiling in
    let sum = c.in-Refuted.target_sum in
    let fits-ceiling : SFits w64 ceiling = search rules in
    let fits_sum : SFits w64 sum = search rules in
    let ws = c.push_weights.ensures ∙ ap (λ ns. followed_by t1 (line (spaced ns))) c.as_slice-in-Refuted.ensures in
    let a = c.push_signed.ensures ∙ ap (λ z. followed_by t2 (signed_decimal z)) (to_z-of_z w64 ceiling fits-ceiling) in
    let b = c.push_signed-in-Refuted.ensures ∙ ap (λ z. followed_by t4 (signed_decimal z)) (to_z-of_z w64 sum fits_sum) in
    let rows = map row_of c.args.rows.now in
    refuted_text (text_of c.new-text.result) t1 t2 (text_of c.push_signed.new.self) t4 (text_of c.push_signed-in-Refuted.new.self) (text_of c.push_str-in-Refuted-3.new.self)
    (line (spaced (listed c.in-Refuted.weights))) (signed_decimal ceiling) (signed_decimal sum)
    c.new-text.ensures c.push_str-in-Refuted.ensures ws a c.push_str-in-Refuted-2.ensures b c.push_str-in-Refuted-3.ensures
    ∙ ap (λ v. followed_by [] (lines_of (verdict_of v) rows)) (sym c.in-Refuted.is)
