-- Exactly the files of tables are accepted.
use Rattle.std.proofs.Common.{◌≡◌, ℕ, true, List, is_ok as isOk, Ok, Err, sym, refl, ap, ◌∙◌, arith}
use Rattle.mdp.specs.Table.{Facts}
use Rattle.file_check.specs.Check.{Checked, check_result}
use Rattle.file_check.specs.Decode.{decode}
use Rattle.file_check.specs.Accepts.{accepted, Bytes, Layout}
use Rattle.file_check.proofs.Sound.{Passed, passed, check_sound}
use Rattle.file_check.proofs.Complete.{check_complete}

is_ok : (r : Checked (Unit {0})) → isOk r ≡ true → r ≡ Ok tt
is_ok (Ok q) e = refl
is_ok (Err y) e = let z : ◌≡◌ {A = ℕ} 0 1 = cc in absurd (omega arith)

pub accepted_passed : (xs : List ℕ) (b : Bytes xs) → accepted xs ≡ true → Passed xs b
unfolding accepted
accepted_passed xs b e = passed xs b (is_ok (check_result xs) e)

pub ok_accepted : (xs : List ℕ) → Ok tt ≡ check_result xs → accepted xs ≡ true
unfolding accepted
ok_accepted xs e = ap isOk (sym e)

pub layout : Layout
layout = record {
  sound = λ xs b e.
      let p = accepted_passed xs b e in
      let s = check_sound xs b p in
      record { facts = s.facts; file = s.file; short = p.short };
  complete = λ xs t f. let c = check_complete xs t f.facts f.file f.short in (ok_accepted xs (sym c.passes), c.reads);
  single = λ xs t u f g.
      let c = check_complete xs t f.facts f.file f.short in
      let d = check_complete xs u g.facts g.file g.short in
      sym c.reads ∙ d.reads;
}

pub file_facts : (xs : List ℕ) → accepted xs ≡ true → Bytes xs → Facts (decode xs)
file_facts xs e b = (layout.sound xs b e).facts
