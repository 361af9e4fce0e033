-- What stands in a list from one offset to another, and what an accepted step says.
use Rattle.std.proofs.Common.{◌≡◌, ℕ, ◌+◌, ◌-◌, ◌*◌, ◌/◌, ◌%◌, ◌<◌, ◌≤◌, Bool, true, false, cond, ltb, List, [], ◌∷◌, ◌++◌, length, get_or, drop, Ok, Err, sym, refl, ap, ◌∙◌, arith, length-append, length-drop}
use Rattle.std.proofs.lemmas.List.{drop_more, append_assoc, append-nil, drop_at, drop-drop, get_or-drop, drop_all}
use Rattle.std.proofs.lemmas.Bool.{ltb-false, le-ltb, cond-false}
use Rattle.file_check.specs.Check.{FileFault, Checked, then_do, word, field_at}
use Rattle.file_check.specs.Layout.{two}
use Rattle.file_check.specs.Accepts.{Bytes}

-- bs stands from p on, and then comes what stands from q on
pub record Piece (xs : List ℕ) (p : ℕ) (bs : List ℕ) (q : ℕ) : Type 0 where
  pub is : drop p xs ≡ bs ++ drop q xs

pub piece_none : {xs : List ℕ} {p q : ℕ} → p ≡ q → Piece xs p [] q
piece_none {xs} e = record { is = ap (λ t. drop t xs) e }

pub piece_whole : {xs bs : List ℕ} → Piece xs 0 bs (length xs) → bs ≡ xs
piece_whole {xs} {bs} f = sym (f.is ∙ (ap (λ t. bs ++ t) (drop_all (length xs) xs (omega arith)) ∙ append-nil bs))

pub piece_to : {xs bs : List ℕ} {p q r : ℕ} → Piece xs p bs q → q ≡ r → Piece xs p bs r
piece_to {xs} {bs} f e = record { is = f.is ∙ ap (λ t. bs ++ drop t xs) e }

pub piece_as : {xs ys bs : List ℕ} {p q : ℕ} → Piece xs p ys q → ys ≡ bs → Piece xs p bs q
piece_as {xs} {ys} {bs} {p} {q} f e = record { is = f.is ∙ ap (λ t. t ++ drop q xs) e }

pub piece_join : {xs a b : List ℕ} {p q r : ℕ} → Piece xs p a q → Piece xs q b r → Piece xs p (a ++ b) r
piece_join {xs} {a} {b} {p} {q} {r} f g = record { is = f.is ∙ (ap (λ t. a ++ t) g.is ∙ sym (append_assoc a b (drop r xs))) }

pub piece_length : {xs bs : List ℕ} {p q : ℕ} → Piece xs p bs q → p ≤ q → q ≤ length xs → length bs ≡ q - p
piece_length {xs} {bs} {p} {q} f h k =
    let e : length xs - p ≡ length bs + (length xs - q) = sym (length-drop p xs) ∙ (ap length f.is ∙ (length-append bs (drop q xs) ∙ ap (λ n. length bs + n) (length-drop q xs))) in
    omega arith

pub byte_piece : (xs : List ℕ) (p : ℕ) → p < length xs → Piece xs p (get_or xs p 0 ∷ []) (p + 1)
byte_piece xs p h = record { is = drop_more xs p 0 h }

pub word_below : (xs : List ℕ) → Bytes xs → (p : ℕ) → word xs p < 65536
word_below xs b p = omega (arith, b p, b (p + 1))

pub word_two : (a b : ℕ) → a < 256 → two (a + b * 256) ≡ a ∷ b ∷ []
word_two a b h =
    let e : (a + b * 256) % 256 ≡ a = omega arith in
    let f : (a + b * 256) / 256 ≡ b = omega arith in
    rw (e, f) refl

pub word_piece : (xs : List ℕ) → Bytes xs → (p : ℕ) → p + 2 ≤ length xs → Piece xs p (two (word xs p)) (p + 2)
word_piece xs b p h =
    let e : p + 1 + 1 ≡ p + 2 = omega arith in
    let f = drop_more xs p 0 (omega arith) in
    let g = drop_more xs (p + 1) 0 (omega arith) in
    record { is = f ∙ (ap (λ t. get_or xs p 0 ∷ t) (g ∙ ap (λ n. get_or xs (p + 1) 0 ∷ drop n xs) e) ∙ ap (λ t. t ++ drop (p + 2) xs) (sym (word_two _ _ (b p)))) }

pub then_inv : {A B : Type 0} (r : Checked A) (f : A → Checked B) (q : B) → then_do r f ≡ Ok q → (v : A) × (r ≡ Ok v) × (f v ≡ Ok q)
then_inv (Ok v) f q e = (v, refl, e)
then_inv (Err y) f q e = let z : ◌≡◌ {A = ℕ} 0 1 = cc in absurd (omega arith)

pub cond_inv : {A : Type 0} (b : Bool) (x : Checked A) (y : FileFault) (q : A) → cond b x (Err y) ≡ Ok q → (b ≡ true) × (x ≡ Ok q)
cond_inv true x y q e = (refl, e)
cond_inv false x y q e = let z : ◌≡◌ {A = ℕ} 0 1 = cc in absurd (omega arith)

pub cond_inv_not : {A : Type 0} (b : Bool) (x : Checked A) (y : FileFault) (q : A) → cond b (Err y) x ≡ Ok q → (b ≡ false) × (x ≡ Ok q)
cond_inv_not false x y q e = (refl, e)
cond_inv_not true x y q e = let z : ◌≡◌ {A = ℕ} 0 1 = cc in absurd (omega arith)

pub ok_same : {A : Type 0} (a b : A) → ◌≡◌ {A = Checked A} (Ok a) (Ok b) → a ≡ b
ok_same a b e = cc

pub field_inv : (xs : List ℕ) (e p v : ℕ) → field_at xs e p ≡ Ok v → (p + 2 ≤ e) × (v ≡ word xs p)
field_inv xs e p v h =
    let k = cond_inv_not (ltb e (p + 2)) (Ok (word xs p)) _ v h in
    (ltb-false _ _ k.0, sym (ok_same _ _ k.1))

pub piece_split : {xs : List ℕ} (a : List ℕ) {b : List ℕ} {p q : ℕ} → Piece xs p (a ++ b) q → Piece xs p a (p + length a) × Piece xs (p + length a) b q
piece_split {xs} a {b} {p} {q} f =
    let rest : drop (p + length a) xs ≡ b ++ drop q xs =
    sym (drop-drop (length a) p xs) ∙ (ap (drop (length a)) (f.is ∙ append_assoc a b (drop q xs)) ∙ drop_at a (b ++ drop q xs) (length a) refl) in
    (record { is = f.is ∙ (append_assoc a b (drop q xs) ∙ ap (λ t. a ++ t) (sym rest)) }, record { is = rest })

pub piece_first : {xs bs : List ℕ} {p q v : ℕ} → Piece xs p (v ∷ bs) q → get_or xs p 0 ≡ v
piece_first {xs} {bs} {p} {q} {v} f =
    let e : p + 0 ≡ p = omega arith in
    ap (λ n. get_or xs n 0) (sym e) ∙ (sym (get_or-drop p xs 0 0) ∙ ap (λ t. get_or t 0 0) f.is)

pub piece_word : {xs : List ℕ} {p q : ℕ} (v : ℕ) → Piece xs p (two v) q → word xs p ≡ v
piece_word {xs} {p} {q} v f =
    let a = piece_first f in
    let c = piece_first (piece_split (v % 256 ∷ []) f).1 in
    omega arith

pub field_ok : (xs : List ℕ) (e p v : ℕ) → p + 2 ≤ e → word xs p ≡ v → Ok v ≡ field_at xs e p
field_ok xs e p v h k = sym (cond-false (ltb e (p + 2)) _ _ (le-ltb _ _ h) ∙ ap Ok k)
