-- `write` refuses by the first row that applies. Past them the loop's invariant: the first i bytes of the page are written, whatever
-- the groups are that have these triplets.
use Prim.Native.Nat.{ℕ, ◌+◌, ◌*◌, ◌/◌, ◌<◌}
use mathlib.Core.Path.{◌≡◌, refl, sym, ap, ◌∙◌}
use mathlib.Core.Bool.{true, false}
use mathlib.Core.List.{List}
use native.Mathlib.Omega.{arith}
use lib.ListN.{length, get_or, length-set}
use lib.Seq.{sets}
use Rattle.answer.specs.Answer.{given}
use Rattle.label.proofs.Rows.{Passed, that_length, other_length}
use Rattle.programmes.specs.declared.Programme.{Programme}
use Rattle.programmes.specs.Written.{groups_for, packets_for, bits_at, bytes_to, writer_rows, unfit, programmes_of}
use Rattle.sending.specs.declared.Words.{Words}
use Rattle.sending.specs.Sending.{room, words_of}
use Rattle.preselection.proofs.Answered.{unfit_by, fit_by, refusal, acceptance}
use Rattle.preselection.proofs.Bytes.{count_of, bits_of_lem, bits_small, bytes_more}
use Rattle.preselection.proofs.write.Goals as goal

-- the rows that are passed where a test did not refuse
passed_1 : (m : ℕ) (qs : List Programme) (p : List ℕ) → length p ≡ 672 → Passed 1 (writer_rows m qs p)
passed_1 m qs p h = (tt, that_length p h)

-- the words are those of the programmes
count_is : (qs : List Programme) {w : Words} → w ≡ words_of qs → w.count ≡ length (groups_for qs)
count_is qs e = ap (λ (w : Words). w.count) e ∙ count_of qs

bits_are : (qs : List Programme) {w : Words} → w ≡ words_of qs → (n : ℕ) → n < room → get_or w.bits n 0 ≡ bits_at (groups_for qs) n
bits_are qs e n h = ap (λ (w : Words). get_or w.bits n 0) e ∙ bits_of_lem qs n h

pub returns-then-buf-ne672 : goal.returns-then-buf-ne672
returns-then-buf-ne672 c =
    let p = c.args.buf.now in
    let other : length p ≡ 672 → ⊥ = c.if-buf-ne672.true in
    refusal c.args.magazine (programmes_of c.args.page) p 0 tt (other_length p other)

pub returns-then-magazine-outside : goal.returns-then-magazine-outside
returns-then-magazine-outside c =
    let m = c.args.magazine in
    let qs = programmes_of c.args.page in
    let p = c.args.buf.now in
    let test : unfit m qs ≡ true = sym (unfit_by m qs c.any_outside-outside.ensures (count_is qs c.words_of-words.ensures)) ∙ c.if-magazine-outside.true in
    refusal m qs p 1 (passed_1 m qs p c.if-buf-ne672.false) test

pub loop-i-init : goal.loop-i-init
unfolding bytes_to
loop-i-init c = (refl, λ gs h. refl)

pub overflow_mul-i-end : goal.overflow_mul-i-end
overflow_mul-i-end c = let f = fit_by c.args.magazine c.any_outside-outside.result (c.words_of-words.result.count / 13 + 1) c.if-magazine-outside.false in record { fits = omega (arith, f.2) }

pub triplet_number-at-requires : goal.triplet_number-at-requires
triplet_number-at-requires c = let f = fit_by c.args.magazine c.any_outside-outside.result (c.words_of-words.result.count / 13 + 1) c.if-magazine-outside.false in (omega (arith, f.2), omega arith)

pub offset_bounds-words-at : goal.offset_bounds-words-at
offset_bounds-words-at c =
    let f = fit_by c.args.magazine c.any_outside-outside.result (c.words_of-words.result.count / 13 + 1) c.if-magazine-outside.false in
    record { fits = omega (arith, f.2, c.triplet_number-at.ensures) }

pub bounds-words-at : goal.bounds-words-at
bounds-words-at c = let f = fit_by c.args.magazine c.any_outside-outside.result (c.words_of-words.result.count / 13 + 1) c.if-magazine-outside.false in omega (arith, f.2, c.triplet_number-at.ensures)

pub byte_in-requires : goal.byte_in-requires
byte_in-requires c =
    let qs = programmes_of c.args.page in
    let f = fit_by c.args.magazine c.any_outside-outside.result (c.words_of-words.result.count / 13 + 1) c.if-magazine-outside.false in
    let n = c.triplet_number-at.result in
    let h : n < room = omega (arith, f.2, c.triplet_number-at.ensures) in
    let none = sym c.any_outside-outside.ensures ∙ f.1 in
    let small = bits_small qs n none in
    let same = bits_are qs c.words_of-words.ensures n h in
    (omega (arith, f.0), omega (arith, f.2), omega (arith, small, same))

pub bounds-buf-i : goal.bounds-buf-i
bounds-buf-i c = let f = fit_by c.args.magazine c.any_outside-outside.result (c.words_of-words.result.count / 13 + 1) c.if-magazine-outside.false in omega (arith, f.2)

pub loop-i-preserved : goal.loop-i-preserved
loop-i-preserved c =
    let i = c.loop-i.i in
    let inv = c.loop-i.invariant in
    let f = fit_by c.args.magazine c.any_outside-outside.result (c.words_of-words.result.count / 13 + 1) c.if-magazine-outside.false in
    let n = c.triplet_number-at.result in
    let l : n < room = omega (arith, f.2, c.triplet_number-at.ensures) in (
      length-set c.loop-i.buf i c.byte_in.result ∙ inv.0,
      λ gs h. bytes_more _ gs i _ (inv.1 gs h) (c.byte_in.ensures gs (ap (bits_at gs) (sym c.triplet_number-at.ensures) ∙ sym (h n l))),
    )

pub overflow_cast-result : goal.overflow_cast-result
overflow_cast-result c = let f = fit_by c.args.magazine c.any_outside-outside.result (c.words_of-words.result.count / 13 + 1) c.if-magazine-outside.false in record { fits = omega (arith, f.2) }

pub returns : goal.returns
returns c =
    let loop = c.loop-i in
    let m = c.args.magazine in
    let qs = programmes_of c.args.page in
    let p = c.args.buf.now in
    let gs = groups_for qs in
    let words = c.words_of-words.ensures in
    let none : unfit m qs ≡ false = sym (unfit_by m qs c.any_outside-outside.ensures (count_is qs words)) ∙ c.if-magazine-outside.false in
    let ok = acceptance m qs p (passed_1 m qs p c.if-buf-ne672.false, none) in
    let packets : c.words_of-words.result.count / 13 + 1 ≡ packets_for gs = ap (λ (n : ℕ). n / 13 + 1) (count_is qs words) in
    let end : loop.i ≡ 42 * packets_for gs = omega (arith, packets) in
    (ap given packets ∙ ok.0, loop.invariant.1 gs (bits_are qs words) ∙ ap (λ (n : ℕ). sets p 0 (bytes_to m gs n)) end ∙ ok.1)
