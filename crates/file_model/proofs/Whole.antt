-- An accepted file is whole, and so is the blank one.
use Rattle.std.proofs.Common.{◌≡◌, ℕ, true, false, List, is_ok, Err, sym, ap, ◌∙◌, arith}
use Rattle.std.proofs.lemmas.Bool.{cond-false}
use Rattle.mdp.specs.Table.{Table}
use Rattle.file_check.specs.Check.{FileFault, check_result}
use Rattle.file_check.specs.Decode.{decode}
use Rattle.file_check.specs.Accepts.{accepted, Bytes, FileOf, blank, read_table}
use Rattle.file_check.proofs.Accepted.{accepted_passed, layout}
use Rattle.file_check.proofs.Inside.{block_inside}
use Rattle.file_model.specs.Index.{Whole, blank_bytes}

pub whole : (xs : List ℕ) → accepted xs ≡ true → Bytes xs → Whole xs
whole xs e b =
    let p = accepted_passed xs b e in
    record { short = p.short; few = p.header.few; room = p.room; blocks = block_inside xs e b }

pub blank_accepted : {xs : List ℕ} → xs ≡ blank_bytes → accepted xs ≡ true
unfolding accepted
blank_accepted e = ap accepted e

pub blank_table : {xs : List ℕ} → xs ≡ blank_bytes → decode xs ≡ blank
blank_table e = ap decode e

module _ (xs : List ℕ) {f : FileFault} (e : Err f ≡ check_result xs) where
  pub refused : accepted xs ≡ false
  unfolding accepted
  refused = ap is_ok (sym e)

  pub refused_table : read_table xs ≡ blank
  refused_table = cond-false _ _ _ refused

  -- a refused file is that of no table
  pub refused_all : {X : Type 0} (t : Table) → FileOf xs t → X
  refused_all t o = let z : true ≡ false = sym (layout.complete xs t o).0 ∙ refused in let y : ◌≡◌ {A = ℕ} 0 1 = cc in absurd (omega arith)
