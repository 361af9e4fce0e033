-- A short text. Assumes nothing.
use Rattle.std.specs.Prelude.{ℕ, List, ◌++◌, take}
use Rattle.few.specs.Views.{listed}
use Rattle.text.specs.declared.Text.{Text}

abbrev pub max_text : ℕ
max_text = 64

-- the bytes written so far
abbrev pub text_of : Text → List ℕ
text_of t = listed t.bytes

-- bytes put after a text; those that find no room are left out
abbrev pub followed_by : List ℕ → List ℕ → List ℕ
followed_by text more = take max_text (text ++ more)
