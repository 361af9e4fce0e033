-- A layer that takes what it is given fits.
use Rattle.std.proofs.Common.{◌≡◌, ℕ, Bool, true, false, cond, ltb, leb, List, length, is_ok, Ok, Result, refl, arith}
use Rattle.std.proofs.lemmas.Bool.{both_ways, ltb-false, leb-false}
use Rattle.mdp.specs.Limits.{max_columns}
use Rattle.mdp.specs.Table.{Table}
use Rattle.tables.specs.Goal.{max_marks, is_wrong, lowest, GoalFits}
use Rattle.tables.specs.Mirror.{MirrorFits}
use Rattle.layers.specs.Fits.{refused, marks_fit, goal_fit, mirror_fit}
use Rattle.layers.specs.declared.faults.GoalCause.TheVariants as goal
use Rattle.layers.specs.declared.faults.MirrorCause.TheVariants as mirror

-- what is not refused by a test passes it
pub ok_passes : {X Y : Type 0} (b : Bool) (x y : Result X Y) → is_ok x ≡ false → is_ok (cond b x y) ≡ true → (b ≡ false) × (is_ok y ≡ true)
ok_passes true x y d e = absurd (both_ways (is_ok x) d e)
ok_passes false x y d e = (refl, e)

pub goal_fit_fits : (t : Table) (marks : List Bool) → is_ok (goal_fit t marks) ≡ true → GoalFits t
goal_fit_fits t marks e =
    let p = ok_passes (ltb max_marks (length t.states)) (refused goal.Room (length t.states)) _ refl e in
    let q = ok_passes (leb max_columns t.columns) (refused goal.Room max_columns) (marks_fit (lowest (is_wrong marks t.first (length t.states)) 0 max_marks)) refl p.1 in
    let few = ltb-false max_marks (length t.states) p.0 in
    let free = leb-false max_columns t.columns q.0 in
    (omega arith, omega arith)

pub mirror_fit_fits : (t : Table) (j : ℕ) → is_ok (mirror_fit t j) ≡ true → MirrorFits j t
mirror_fit_fits t j e =
    let p = ok_passes (leb max_columns t.columns) (refused mirror.Room max_columns) (cond (leb t.columns j) (refused mirror.Column j) (Ok tt)) refl e in
    let q = ok_passes (leb t.columns j) (refused mirror.Column j) (Ok tt) refl p.1 in
    let free = leb-false max_columns t.columns p.0 in
    let there = leb-false t.columns j q.0 in
    (omega arith, omega arith)
