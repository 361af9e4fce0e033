-- What a check of a list of points answers.
use Rattle.std.proofs.Common.{◌≡◌, ℕ, zero, suc, ◌+◌, ◌≤◌, Bool, true, false, cond, not, List, [], ◌∷◌, ◌++◌, Ok, Err, sym, refl, ap, ◌∙◌, arith}
use Rattle.std.specs.List.{range_with_len, flat_map}
use Rattle.std.proofs.lemmas.List.{append_assoc, append-nil}
use Rattle.std.proofs.lemmas.List.Elements.{All-nil, All-cons, All-head, All-tail, All-append, All-push}
use Rattle.std.proofs.lemmas.Bool.{cond_both, cond-false, cond-true}
use Rattle.file_check.specs.Check.{FileFault, Checked, then_do}
use Rattle.file_check.specs.Order.{Point, points, wrong, fault_at, Right, Named, FirstFault}

-- a point is not wrong
abbrev pub Fine : List ℕ → Point → Type 0
Fine xs p = wrong xs p ≡ false

-- the fault of the first point that is wrong, or v
abbrev answer : {A : Type 0} → List ℕ → List Point → A → Checked A
answer xs [] v = Ok v
answer xs (p ∷ ps) v = cond (wrong xs p) (Err (fault_at xs p)) (answer xs ps v)

module _ {A B : Type 0} (xs : List ℕ) (qs : List Point) (v : A) (w : B) (f : A → Checked B) where
  joins : (ps : List Point) → (Right xs ps → f v ≡ answer xs qs w) → then_do (answer xs ps v) f ≡ answer xs (ps ++ qs) w
  joins [] e = e (All-nil (Fine xs))
  joins (p ∷ ps) e =
      elim (wrong xs p) as (λ t. wrong xs p ≡ t → then_do (cond t (Err (fault_at xs p)) (answer xs ps v)) f ≡ cond t (Err (fault_at xs p)) (answer xs (ps ++ qs) w))
      [ true ↦ λ _. refl | false ↦ λ b. joins ps (λ r. e (All-cons (Fine xs) p ps b r)) ] refl

-- r is what a check of ps answers, v where all are right
pub record Gives (xs : List ℕ) {A : Type 0} (ps : List Point) (r : Checked A) (v : A) : Type 0 where
  pub is : r ≡ answer xs ps v

module _ {xs : List ℕ} where
  pub fine : {A : Type 0} {v : A} → Gives xs [] (Ok v) v
  fine = record { is = refl }

  pub all_fine : {A : Type 0} (ps : List Point) {v : A} → Right xs ps → Gives xs ps (Ok v) v
  all_fine [] h = fine
  all_fine (p ∷ ps) h = record { is = (all_fine ps (All-tail (Fine xs) p ps h)).is ∙ sym (cond-false _ _ _ (All-head (Fine xs) p ps h)) }

  pub stop : {A : Type 0} {ps : List Point} {v : A} (q : Point) {f : FileFault} → wrong xs q ≡ true → fault_at xs q ≡ f → Gives xs (q ∷ ps) (Err f) v
  stop q e g = record { is = ap Err (sym g) ∙ sym (cond-true _ _ _ e) }

  pub test : {A : Type 0} {ps : List Point} {x : Checked A} {v : A} (q : Point) (b : Bool) (f : FileFault)
      → wrong xs q ≡ not b → fault_at xs q ≡ f → (b ≡ true → Gives xs ps x v) → Gives xs (q ∷ ps) (cond b x (Err f)) v
  test q true f e g h = record { is = (h refl).is ∙ sym (cond-false _ _ _ e) }
  test q false f e g h = stop q e g

  -- one check, and then another
  pub both : {A B : Type 0} {ps qs : List Point} {v : A} {w : B} {r : Checked A} (f : A → Checked B)
      → Gives xs ps r v → (Right xs ps → Gives xs qs (f v) w) → Gives xs (ps ++ qs) (then_do r f) w
  both {ps = ps} f d e = record { is = ap (λ t. then_do t f) d.is ∙ joins xs _ _ _ f ps (λ r. (e r).is) }

  pub ending : {A B : Type 0} {ps : List Point} {v : A} {w : B} {r : Checked A} → Gives xs ps r v → Gives xs ps (then_do r (λ _. Ok w)) w
  ending {w = w} g = rw append-nil at (both {qs = []} {w = w} (λ _. Ok w) g (λ _. fine))

module _ (xs : List ℕ) where
  pub right_from : (f : ℕ → List Point) (k n : ℕ) → ((j : ℕ) → k ≤ j → Right xs (f j)) → Right xs (flat_map f (range_with_len k n))
  right_from f k zero h = All-nil (Fine xs)
  right_from f k (suc n) h = All-append (Fine xs) (f k) _ (h k (omega arith)) (right_from f (k + 1) n (λ j l. h j (omega arith)))

  module _ {A : Type 0} (v : A) where
    none_wrong : (ps : List Point) → answer xs ps v ≡ Ok v → Right xs ps
    none_wrong [] e = All-nil (Fine xs)
    none_wrong (p ∷ ps) e =
        cond_both (wrong xs p) _ _ (λ r. r ≡ Ok v → Right xs (p ∷ ps))
        (λ b d. let z : ◌≡◌ {A = ℕ} 0 1 = cc in absurd (omega arith))
        (λ b d. All-cons (Fine xs) p ps b (none_wrong ps d)) e

    first_wrong : (f : FileFault) (before ps : List Point) → points xs ≡ before ++ ps → Right xs before → answer xs ps v ≡ Err f → Named xs f
    first_wrong f before [] o r e = let z : ◌≡◌ {A = ℕ} 0 1 = cc in absurd (omega arith)
    first_wrong f before (p ∷ ps) o r e =
        cond_both (wrong xs p) _ _ (λ x. x ≡ Err f → Named xs f)
        (λ b d. record { before = before; at = p; after = ps; order = o; right = r; wrong_there = b; fault = cc })
        (λ b. first_wrong f (before ++ (p ∷ [])) ps (o ∙ sym (append_assoc before (p ∷ []) ps)) (All-push (Fine xs) before p r b)) e

  pub names_first : (r : Checked (Unit {0})) → Gives xs (points xs) r tt → FirstFault xs r
  names_first r g =
      record { none = λ e. none_wrong tt (points xs) (sym g.is ∙ e); named = λ f e. first_wrong tt f [] (points xs) refl (All-nil (Fine xs)) (sym g.is ∙ e) }
