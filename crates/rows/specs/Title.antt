-- R6: where a title stands (EN 300 231 clause 7.3.1.3 a2); document 02, #108).
use Rattle.std.specs.Prelude.{ℕ, zero, suc, Bool, true, false, cond, ◌&&◌, ◌||◌, List, [], ◌∷◌, ◌≡◌, eqb, length}
use Rattle.answer.specs.Lists.{some}
use Rattle.codes.specs.declared.Colour.{Colour}
use Rattle.codes.specs.declared.Colour.TheVariants as colour
use Rattle.codes.specs.Codes.{is_colour, is_magenta, is_conceal, is_graphics, is_pair, colour_by}
use Rattle.formats.specs.declared.Kind.{Kind}
use Rattle.formats.specs.Formats.{Stands}

abbrev pub is_plain : Colour → Bool
is_plain colour.Plain = true
is_plain colour.Magenta = false
is_plain colour.Graphics = false

-- '1. p and p+1 are a pair `++`, or a pair `%%` with plain in force before p': a code that opens
unfoldable pub is_opening : Colour → ℕ → Bool
is_opening k c = is_colour c || (is_conceal c && is_plain k)

-- '2. the code at p+2 is not the code of the pair'
abbrev pub begins_with : ℕ → List ℕ → Bool
begins_with c [] = false
begins_with c (d ∷ cs) = eqb c d

abbrev pub begins_pair : List ℕ → Bool
begins_pair [] = false
begins_pair (c ∷ []) = false
begins_pair (c ∷ (d ∷ cs)) = is_pair c d

-- '3. its text runs from p+2 up to the first pair (`++`, `%%` or `::`) or to `<`'
unfoldable pub text_of : List ℕ → List ℕ
text_of [] = []
text_of (c ∷ cs) = cond (begins_pair (c ∷ cs)) [] (c ∷ text_of cs)

-- '4. the text has no graphics code and no `:`'
abbrev pub is_forbidden : ℕ → Bool
is_forbidden c = is_graphics c || is_magenta c

-- no figure format of R4 has its starting code here
abbrev pub NoFormat : Colour → List ℕ → Type 0
NoFormat k cs = (a : Kind) (fs : List ℕ) → Stands k cs a fs → ⊥

-- nor at any of the first n codes
unfoldable pub NoFormats : Colour → ℕ → List ℕ → Type 0
NoFormats k zero cs = Unit {0}
NoFormats k (suc n) [] = Unit {0}
NoFormats k (suc n) (c ∷ cs) = NoFormat k (c ∷ cs) × NoFormats (colour_by k c) n cs

-- 'a title stands at column p if all of these hold': of these codes the first is at p, the colour in force before it being k
pub record Title (k : Colour) (codes : List ℕ) : Type 0 where
  pub code : ℕ
  pub after : List ℕ
  pub pair : codes ≡ code ∷ code ∷ after
  pub opens : is_opening k code ≡ true  -- 1
  pub last : begins_with code after ≡ false  -- 2
  pub shown : text_of after ≡ [] → ⊥  -- 3, 'and has at least one code, of any kind'
  pub plain : some is_forbidden (text_of after) ≡ false  -- 4
  pub free : NoFormats (colour_by k code) (suc (length (text_of after))) (code ∷ after)  -- 5, 'in p+1 or in the text'
