-- Two codes of a row are a pair where `is_pair` says so, and its last code begins none.
use borrow.Author.Rules.{rules}
use Prim.Native.Nat.{suc, ◌+◌, ◌*◌}
use mathlib.Core.Path.{◌≡◌, refl}
use native.Mathlib.Omega.{arith}
use Rattle.preview.proofs.Codes.{row_from, row_end}
use Rattle.preview.proofs.taking.pair_at.Goals as goal

pub returns-then-p-lt39 : goal.returns-then-p-lt39
returns-then-p-lt39 c =
    let a = c.args in
    let next : 40 * a.r + a.p + 1 ≡ 40 * a.r + suc a.p = omega arith in
    rw (
      c.is_pair.ensures,
      row_from a.bytes.now a.r a.p (search rules) (search rules) (search rules),
      row_from a.bytes.now a.r (suc a.p) (search rules) (search rules) (search rules),
      next,
    )
    refl

pub returns : goal.returns
returns c =
    let a = c.args in
    let last : a.p ≡ 39 = omega arith in
    rw (
      last,
      row_from a.bytes.now a.r 39 (search rules) (search rules) (omega arith),
      row_end a.bytes.now a.r (search rules) (search rules),
    )
    refl
