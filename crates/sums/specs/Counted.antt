-- R15: what the figures of a format add to the page's sum (EN 300 231 clause 7.3.1.2 d); document 02, #108).
use Rattle.std.specs.Prelude.{ℕ, ◌+◌, Bool, true, false, cond, List, [], ◌∷◌}
use Rattle.formats.specs.declared.Kind.{Kind}
use Rattle.formats.specs.declared.Kind.TheVariants as kind

abbrev pub sum_of : List ℕ → ℕ
sum_of [] = 0
sum_of (f ∷ fs) = f + sum_of fs

abbrev pub is_word : Kind → Bool
is_word kind.Text = false
is_word kind.Single = false
is_word kind.Double = false
is_word kind.Original = false
is_word kind.Date = false
is_word kind.Network = false
is_word kind.Offset = false
is_word kind.Pty = false
is_word kind.Word = true

-- 'the sum of all figures .. of all figure formats on the page but protection words'
unfoldable pub counted : Kind → List ℕ → ℕ
counted k fs = cond (is_word k) 0 (sum_of fs)
