-- What is found is text exactly where the kind is.
use Prim.Native.Nat.{ℕ}
use mathlib.Core.Path.{◌≡◌, refl}
use mathlib.Core.Bool.{Bool, true, false, cond}
use mathlib.Core.List.{List}
use Rattle.formats.specs.declared.Kind.{Kind}
use Rattle.formats.specs.declared.Kind.TheVariants as kind
use Rattle.formats.specs.Taken.{is_text}
use Rattle.figures.specs.declared.Value.{Value}
use Rattle.figures.specs.declared.Value.TheVariants as value
use Rattle.figures.specs.Permitted.{permitted, meant, value_of}
use Rattle.figures.specs.Taken.{found_by}
use Rattle.rows.specs.declared.Row.{Row}
use Rattle.rows.specs.Taken.{kind_here, found_here, is_text_value}

-- a value that is no text, or none
no_text : (t : Bool) (v : Value) → is_text_value v ≡ false → is_text_value (cond t v value.Wrong) ≡ false
no_text true v e = e
no_text false v e = refl

pub kind_value : (a : Kind) (fs : List ℕ) → is_text_value (value_of a fs) ≡ is_text a
unfolding permitted value_of
kind_value kind.Text fs = refl
kind_value kind.Single fs = no_text (permitted kind.Single fs) (meant kind.Single fs) refl
kind_value kind.Double fs = no_text (permitted kind.Double fs) (meant kind.Double fs) refl
kind_value kind.Original fs = no_text (permitted kind.Original fs) (meant kind.Original fs) refl
kind_value kind.Date fs = no_text (permitted kind.Date fs) (meant kind.Date fs) refl
kind_value kind.Network fs = no_text (permitted kind.Network fs) (meant kind.Network fs) refl
kind_value kind.Offset fs = refl
kind_value kind.Pty fs = no_text (permitted kind.Pty fs) (meant kind.Pty fs) refl
kind_value kind.Word fs = refl

pub text_value : (s : Row) (end : Bool) → is_text_value (found_here s end).value ≡ is_text (kind_here s end)
unfolding found_here found_by
text_value s end = kind_value (kind_here s end) _
