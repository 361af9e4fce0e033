-- A reward as it is passed, and a branch that a layer extends as the layer's table has it.
use Rattle.std.proofs.Common.{◌≡◌, ℕ, ◌≤◌, ℤ, nat_abs, sym, ap, ◌∙◌, subst, arith, w16, SFits, to_z, of_z}
use Rattle.std.proofs.lemmas.Int.{to_z-of_z, ints}
use Rattle.mdp.specs.declared.WholeBranch.{WholeBranch}
use Rattle.mdp.specs.Limits.{max_reward}
use Rattle.tables.specs.Whole.{whole_extended}

abbrev pub passed : ℤ → ℤ
passed v = to_z w16 (of_z w16 v)

pub small_passed : (v : ℤ) → nat_abs v ≤ max_reward → passed v ≡ v
small_passed v h = let f : SFits w16 v = record { sfits = grind (arith, ints) } in to_z-of_z w16 v f

pub passed_small : (v : ℤ) → nat_abs v ≤ max_reward → nat_abs (passed v) ≤ max_reward
passed_small v h = subst (λ u. nat_abs u ≤ max_reward) (sym (small_passed v h)) h

pub passed_as : (x y : ℤ) → nat_abs y ≤ max_reward → x ≡ y → passed x ≡ y
passed_as x y h e = ap passed e ∙ small_passed y h

pub extended_as : (v w : WholeBranch) (column n m : ℕ) (x y : ℤ) → v ≡ whole_extended w column n (passed x) → nat_abs y ≤ max_reward → n ≡ m → x ≡ y → v ≡ whole_extended w column m y
extended_as v w column n m x y e h p q = e ∙ (ap (λ a. whole_extended w column a (passed x)) p ∙ ap (whole_extended w column m) (passed_as x y h q))
