use Rattle.std.proofs.Common.{◌≡◌, ℕ, Bool, true, false, cond, ltb, List, [], ◌∷◌, map, length, sym, refl, ap, ◌∙◌, ◌⊎◌, inl, inr, ⊎_elim, arith}
use Rattle.std.specs.List.{flat_map}
use Rattle.plans.specs.Claims.{Candidate}
use Rattle.truth.specs.Dockets.{backed}
use Rattle.holdings.specs.declared.table.TableRow.{TableRow}
use Rattle.holdings.specs.Views.{row_of}
use Rattle.text.specs.Texts.{text_of, followed_by}
use Rattle.text.proofs.Followed.{followed_twice}
use Rattle.assessment.specs.Listings.{spaced, line, share_line}
use Rattle.assessment.proofs.Lines.{then_none}
use Rattle.assessment.proofs.listing.push_shares.Goals as goal

-- a row that is listed or not, and those behind it
listed_or_not : (t : List ℕ) (c : Candidate) (cs : List Candidate) (b : Bool) →
    followed_by (cond b (followed_by t (share_line c)) t) (flat_map share_line cs) ≡ followed_by t (flat_map share_line (cond b (c ∷ cs) cs))
listed_or_not t c cs true = followed_twice t (share_line c) (flat_map share_line cs)
listed_or_not t c cs false = refl

none_left : (ss : List ℕ) (rows : List TableRow) → (length ss ≡ 0) ⊎ (length rows ≡ 0) → backed ss (map row_of rows) ≡ []
none_left [] rows e = refl
none_left (s ∷ ss) [] e = refl
none_left (s ∷ ss) (r ∷ rows) e = absurd (⊎_elim (λ l. omega arith) (λ l. omega arith) e)

pub loop-share-preserved : goal.loop-share-preserved
loop-share-preserved c =
    let t = text_of c.loop-share.text in
    let share = c.in-Some.share.now in
    let left = c.next.new.self in
    let rest = backed left.a.rest.now (map row_of left.b.rest.now) in
    let row : Candidate = record { share = share; weights = (row_of c.in-Some.row.now).weights } in
    let pushed = c.push_share.ensures ∙ ap (λ ns. cond (ltb 0 share) (followed_by t (line (spaced (share ∷ ns)))) t) c.as_slice.ensures in
    ap (λ l. followed_by l (flat_map share_line rest)) pushed
    ∙ listed_or_not t row rest (ltb 0 share)
    ∙ (λ i. followed_by t (flat_map share_line (backed (sym c.in-Some.ensures.steps.0 i) (map row_of (sym c.in-Some.ensures.steps.1 i)))))
    ∙ c.loop-share.invariant

pub returns : goal.returns
returns c =
    let left = c.loop-share.share-iterator in
    let none = none_left left.a.rest.now left.b.rest.now (⊎_elim (λ p. inl (omega arith)) (λ p. inr (omega arith)) c.in-None.ensures.steps) in
    sym (then_none c.loop-share.text) ∙ ap (λ cs. followed_by (text_of c.loop-share.text) (flat_map share_line cs)) (sym none) ∙ c.loop-share.invariant
