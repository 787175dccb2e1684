-- `read` goes through the packets. What it keeps is `Sofar`: those before packet k are whole and pass, and the state and the page are
-- those of their groups. Each exit is a row of packet k, or the page's end.
use borrow.Author.Tests.{lt-ltb, le-ltb}
use Prim.Native.Nat.{ℕ, ◌+◌, ◌*◌, ◌/◌, ◌%◌, ◌≤◌, ◌<◌, min}
use native.Mathlib.Omega.{arith}
use mathlib.Core.Path.{◌≡◌, sym, ◌∙◌}
use mathlib.Core.Bool.{true, false}
use mathlib.Core.List.{List}
use lib.ListN.{length}
use Rattle.programmes.specs.Page.{is_short, is_addressed}
use Rattle.preselection.proofs.Packets.{sofar_none, sofar_more, lacking_next, damaged_by, short, harmed, other, without, read_all, refused_as}
use Rattle.preselection.proofs.read.Goals as goal

-- a packet that is whole
long : (p : List ℕ) (k : ℕ) → 42 * k + 42 ≤ length p → is_short p k ≡ false
long p k h = le-ltb (length p) (42 * k + 42) h

-- a packet of a page, and what is none of it
before : (p : List ℕ) (k : ℕ) {n : ℕ} → n ≡ length p / 42 + min 1 (length p % 42) → k < n → 42 * k < length p
before p k e h = omega arith

past : (p : List ℕ) (k : ℕ) {n : ℕ} → n ≡ length p / 42 + min 1 (length p % 42) → n ≤ k → length p ≤ 42 * k
past p k e h = omega arith

pub loop-k-init : goal.loop-k-init
loop-k-init c =
    rw c.new-state.ensures (sofar_none c.args.bytes.now _ c.none-page.ensures)

pub returns-then-bytes-k-clause-result_value : goal.returns-then-bytes-k-clause-result_value
returns-then-bytes-k-clause-result_value c =
    let p = c.args.bytes.now in
    let k = c.loop-k.k in
    refused_as p (short p k (before p k c.div_ceil-k-end.ensures c.loop-k-test.true) c.loop-k.invariant.passing (lt-ltb (length p) (42 * k + 42) c.if-bytes-k.true))

pub returns-then-address_damaged-taken-clause-result_value : goal.returns-then-address_damaged-taken-clause-result_value
returns-then-address_damaged-taken-clause-result_value c =
    let p = c.args.bytes.now in
    let k = c.loop-k.k in
    let told = damaged_by p k c.address_damaged.ensures c.take-taken.ensures.0 in
    let e = harmed p k (before p k c.div_ceil-k-end.ensures c.loop-k-test.true) c.loop-k.invariant.passing (long p k c.if-bytes-k.false) (sym told ∙ c.if-address_damaged-taken.true) in
    refused_as p e

pub returns-then-not-is_addressed-clause-result_value : goal.returns-then-not-is_addressed-clause-result_value
returns-then-not-is_addressed-clause-result_value c =
    let p = c.args.bytes.now in
    let k = c.loop-k.k in
    let told = damaged_by p k c.address_damaged.ensures c.take-taken.ensures.0 in
    let another : is_addressed p k ≡ false = sym c.is_addressed.ensures ∙ c.if-not-is_addressed.true in
    let e = other p k (before p k c.div_ceil-k-end.ensures c.loop-k-test.true) c.loop-k.invariant.passing (long p k c.if-bytes-k.false) (sym told ∙ c.if-address_damaged-taken.false) another in
    refused_as p e

pub returns-then-taken-clause-result_value : goal.returns-then-taken-clause-result_value
returns-then-taken-clause-result_value c =
    let p = c.args.bytes.now in
    let k = c.loop-k.k in
    let m = c.loop-k.invariant in
    let told = damaged_by p k c.address_damaged.ensures c.take-taken.ensures.0 in
    let right : is_addressed p k ≡ true = sym c.is_addressed.ensures ∙ c.if-not-is_addressed.false in
    let lack = sym (lacking_next p m c.take-taken.ensures.1) ∙ c.if-taken.true in
    let e = without p k (before p k c.div_ceil-k-end.ensures c.loop-k-test.true) m.passing (long p k c.if-bytes-k.false) (sym told ∙ c.if-address_damaged-taken.false) right lack in
    refused_as p e

pub loop-k-preserved : goal.loop-k-preserved
loop-k-preserved c =
    let p = c.args.bytes.now in
    let k = c.loop-k.k in
    let told = damaged_by p k c.address_damaged.ensures c.take-taken.ensures.0 in
    let right : is_addressed p k ≡ true = sym c.is_addressed.ensures ∙ c.if-not-is_addressed.false in
    sofar_more p c.loop-k.invariant c.take-taken.ensures.1 c.if-bytes-k.false (long p k c.if-bytes-k.false) (sym told ∙ c.if-address_damaged-taken.false)
    right c.if-taken.false c.take-taken.ensures.2 c.take-taken.ensures.3

pub returns-clause-result_value : goal.returns-clause-result_value
returns-clause-result_value c = read_all c.args.bytes.now c.loop-k.invariant (past c.args.bytes.now c.loop-k.k c.div_ceil-k-end.ensures c.loop-k-test.false)
