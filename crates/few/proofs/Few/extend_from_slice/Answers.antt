use Rattle.std.proofs.Common.{◌≡◌, ℕ, ◌+◌, ◌-◌, ◌≤◌, min, List, ◌++◌, length, take, sym, ap, ◌∙◌, ⊎_elim, arith, length-append, rules}
use lib.Seq.{take-append-add}
use Rattle.std.proofs.lemmas.List.{take_all}
use Rattle.std.proofs.lemmas.Slice.{take-put_mid}
use Rattle.std.proofs.lemmas.Bool.{cases_lt}
use Rattle.few.proofs.Few.extend_from_slice.Goals as goal

filled : {X : Type 0} (room : ℕ) (xs ys : List X) (n : ℕ) → length xs ≤ room → n ≡ min (length ys) (room - length xs) → xs ++ take n ys ≡ take room (xs ++ ys)
filled room xs ys n h e = ⊎_elim
    (λ l. let m : length xs + n ≡ room = omega arith in sym (take-append-add xs ys n) ∙ ap (λ k. take k (xs ++ ys)) m)
    (λ l. ap (λ k. xs ++ k) (take_all n ys (omega arith)) ∙ sym (take_all room (xs ++ ys) (omega (arith, length-append xs ys))))
    (cases_lt room (length xs + length ys))

pub returns : goal.returns
returns g c = search (rules, take-put_mid, filled)
