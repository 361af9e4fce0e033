-- How long a text is, and a number, written out. Assumes nothing.
use Rattle.std.proofs.Common.{ℕ, suc, ◌^◌, ◌<◌, ◌≤◌, length, ℤ, pos, negsuc, nat_abs, decimal, arith, length-take}
use Rattle.std.specs.Fmt.{signed_decimal}
use Rattle.std.proofs.lemmas.Fmt.{length-decimal-le}
use Rattle.text.specs.declared.Text.{Text}
use Rattle.text.specs.Texts.{text_of}

pub length_text : (t : Text) → length (text_of t) ≤ 64
length_text t = let within = t.bytes.within in omega (arith, length-take t.bytes.count t.bytes.each)

pub length_decimal_64 : (n : ℕ) → n < 2 ^ 64 → length (decimal n) ≤ 20
length_decimal_64 n h = length-decimal-le 20 n (omega arith) (omega arith) h

pub length_decimal_16 : (n : ℕ) → n < 2 ^ 16 → length (decimal n) ≤ 5
length_decimal_16 n h = length-decimal-le 5 n (omega arith) (omega arith) (omega arith)

pub length_decimal_8 : (n : ℕ) → n < 256 → length (decimal n) ≤ 3
length_decimal_8 n h = length-decimal-le 3 n (omega arith) (omega arith) (omega arith)

-- for any i64: `nat_abs-le`, of `lib.Signed`, gives the bound
pub length_signed_64 : (z : ℤ) → nat_abs z ≤ 2 ^ 63 → length (signed_decimal z) ≤ 20
length_signed_64 (pos n) h = length_decimal_64 n (omega arith)
length_signed_64 (negsuc n) h = omega (arith, length-decimal-le 19 (suc n) (omega arith) (omega arith) (omega arith))
