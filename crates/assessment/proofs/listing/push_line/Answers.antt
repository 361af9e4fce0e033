use Rattle.std.proofs.Common.{◌≡◌, ℕ, ◌+◌, ◌<◌, ◌≤◌, List, [], ◌∷◌, ◌++◌, length, get_or, drop, decimal, ap, ◌∙◌, arith}
use Rattle.std.specs.List.{flat_map}
use Rattle.std.proofs.lemmas.List.{append_assoc, drop_more, drop_all}
use Rattle.text.specs.Texts.{text_of, followed_by}
use Rattle.assessment.specs.Listings.{spaced, line}
use Rattle.assessment.proofs.Lines.{then_none, put_whole, behind, spaced_behind}
use Rattle.assessment.proofs.listing.push_line.Goals as goal

-- one more number
number_more : (t u v e ns : List ℕ) (i : ℕ) → i < length ns → followed_by t (flat_map behind (drop i ns)) ≡ e → u ≡ followed_by t (32 ∷ []) → v ≡ followed_by u (decimal (get_or ns i 0)) →
    followed_by v (flat_map behind (drop (i + 1) ns)) ≡ e
number_more t u v e ns i h inv s n =
    let d = drop_more ns i 0 h in
    let p = put_whole t (32 ∷ []) (decimal (get_or ns i 0) ∷ flat_map behind (drop (i + 1) ns) ∷ []) in
    cc

-- no more of them
line_end : (t u v w : List ℕ) (n : ℕ) (ns : List ℕ) (i : ℕ) → length ns ≤ i → u ≡ followed_by t (decimal n) → followed_by v (flat_map behind (drop i ns)) ≡ followed_by u (flat_map behind ns) →
    followed_by v [] ≡ v → w ≡ followed_by v (10 ∷ []) → w ≡ followed_by t (line (spaced (n ∷ ns)))
line_end t u v w n ns i h f inv e l =
    let d = drop_all i ns h in
    let p = put_whole t (decimal n) (flat_map behind ns ∷ (10 ∷ []) ∷ []) in
    let s = ap (λ l. l ++ 10 ∷ []) (spaced_behind n ns) ∙ append_assoc (decimal n) (flat_map behind ns) (10 ∷ []) in
    cc

pub loop-number-preserved : goal.loop-number-preserved
loop-number-preserved c =
    let t = text_of c.loop-number.text in
    let u = text_of c.push_str.new.self in
    let v = text_of c.push_decimal-in-loop-number.new.self in
    let d = c.push_decimal-in-loop-number.ensures ∙ ap (λ n. followed_by u (decimal n)) c.from-in-loop-number.ensures in
    number_more t u v _ c.args.rest.now c.loop-number.number-index (omega arith) c.loop-number.invariant c.push_str.ensures d

pub returns : goal.returns
returns c =
    let t = text_of c.args.text.now in
    let u = text_of c.push_decimal.new.self in
    let v = text_of c.loop-number.text in
    let w = text_of c.push_str-2.new.self in
    let d = c.push_decimal.ensures ∙ ap (λ n. followed_by t (decimal n)) c.from.ensures in
    line_end t u v w c.args.first c.args.rest.now c.loop-number.number-index (omega arith) d c.loop-number.invariant (then_none c.loop-number.text) c.push_str-2.ensures
