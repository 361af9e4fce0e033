use Rattle.std.proofs.Common.{◌≡◌, ◌-◌, ◌<◌, ◌∷◌, length, get_or, take, drop, sym, ap, ◌∙◌, rules}
use Rattle.std.proofs.lemmas.List.{nil_from_length, take_rest, drop_more}
use Rattle.text.specs.Texts.{text_of, followed_by}
use Rattle.assessment.specs.Listings.{spaced, line}
use Rattle.assessment.proofs.listing.push_weights.Goals as goal

pub returns-in-empty : goal.returns-in-empty
returns-in-empty c =
    let ws = c.args.weights.now in
    let none : length ws ≡ 0 = search rules in
    c.push_str.ensures ∙ ap (λ ns. followed_by (text_of c.args.text.now) (line (spaced ns))) (sym (nil_from_length ws none))

pub returns-in-len1-up : goal.returns-in-len1-up
returns-in-len1-up c =
    let ws = c.args.weights.now in
    let some : 0 < length ws = search rules in
    let parts : get_or ws 0 0 ∷ take (length ws - 1) (drop 1 ws) ≡ ws = ap (λ ns. get_or ws 0 0 ∷ ns) (take_rest ws 1) ∙ sym (drop_more ws 0 0 some) in
    c.push_line.ensures ∙ ap (λ ns. followed_by (text_of c.args.text.now) (line (spaced ns))) parts
