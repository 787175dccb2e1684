-- `label_of` takes each field from its place among the 52 bits.
use borrow.Author.Rules.{rules}
use Prim.Native.Nat.{ℕ, ◌%◌}
use mathlib.Core.Path.{sym, ap, ◌∙◌}
use native.Mathlib.Nat.{div-one}
use Rattle.label.specs.Layout.{bit_at}
use Rattle.label.proofs.Places.{bit_in, designation_of}
use Rattle.label.proofs.Sent.{run_of, cni_of}
use Rattle.reader.proofs.label_of.Goals as goal

pub returns : goal.returns
returns c v d e =
    let r = run_of (bit_at v) (bit_in v) e in
    λ i. record {
      designation = (d ∙ sym (designation_of v (search rules))) i;
      lci = r 0 2 i;
      luf = r 2 1 i;
      prf = r 3 1 i;
      pcs = r 4 2 i;
      mi = r 6 1 i;
      spare = r 7 1 i;
      cni = cni_of v e i;
      pil = r 14 20 i;
      pty = (ap (λ (n : ℕ). n % 256) (sym (div-one c.args.number)) ∙ r 44 8) i;
    }
