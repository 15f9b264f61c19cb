-- `remainder::words` meets its contract. After k words x stands for them and the start.
use mathlib.Core.Path.{◌≡◌, sym, ap, ◌∙◌}
use mathlib.Core.List.{List}
use Prim.Native.Nat.{ℕ, ◌+◌, ◌-◌, ◌*◌, ◌≤◌}
use native.Mathlib.Omega.{arith}
use lib.Bits.{bit_xor}
use lib.Dec.{lit≤}
use lib.ListN.{length, take, drop}
use Rattle.octets.specs.Bits.{digits_of, value_of, bits_of, part}
use Rattle.octets.proofs.Fields.{part-part}
use Rattle.octets.proofs.Turn.{turn_of}
use Rattle.octets.proofs.Words.{octets-part, field-digits}
use Rattle.remainder.specs.Division.{generator}
use Rattle.remainder.specs.Register.{register_of}
use Rattle.remainder.proofs.Errors.{generator-degree}
use Rattle.remainder.proofs.Quotient.{start-in, word_more}
use Rattle.remainder.proofs.words.Goals as goal

-- eight octets by themselves hold the bits that they hold among the others
alone : (s : List ℕ) (p : ℕ) → p + 8 ≤ length s → part 0 64 (bits_of (take (p + 8 - p) (drop p s))) ≡ part (8 * p) 64 (bits_of s)
alone s p h =
    let e : p + 8 - p ≡ 8 = omega arith in
    ap (λ (n : ℕ). part 0 64 (bits_of (take n (drop p s)))) e ∙ ap (part 0 64) (octets-part s p 8 h)
    ∙ part-part (bits_of s) 0 64 (8 * p) 64 (8 * p) (lit≤ tt) (omega arith)

pub loop-k-init : goal.loop-k-init
loop-k-init c =
    let w = c.word in
    let a = c.args in
    let s = a.s.now in (
      omega arith,
      c.requires.0,
      ap (register_of 16 generator a.start) (sym (ap (digits_of 64) w.ensures ∙ field-digits s (8 * a.i) 64 (omega arith)))
          ∙ start-in 16 generator (lit≤ tt) generator-degree 64 a.start w.result (lit≤ tt) c.ranges.start.fits
          ∙ ap (λ (y : ℕ). register_of 16 generator 0 (digits_of 64 (bit_xor w.result y))) (sym (c.from-2.ensures ∙ c.turned.ensures ∙ ap (turn_of 16) c.from.ensures)),
    )

pub loop-k-preserved : goal.loop-k-preserved
loop-k-preserved c =
    let w = c.word-w in
    let l = c.loop-k in
    let a = c.args in
    let s = a.s.now in
    let e : 64 * l.k + 64 ≡ 64 * (l.k + 1) = omega arith in
    let d : digits_of 64 w.result ≡ part (8 * a.i + 64 * l.k) 64 (bits_of s) =
    ap (digits_of 64) (w.ensures ∙ ap value_of (alone s _ (omega arith))) ∙ field-digits s _ 64 (omega arith)
    ∙ ap (λ (q : ℕ). part q 64 (bits_of s)) (omega arith) in (
      omega arith,
      omega arith,
      word_more 16 generator (lit≤ tt) generator-degree s (8 * a.i) a.start c.ranges.start.fits (64 * l.k) 64 (64 * (l.k + 1)) (digits_of 64 l.x) (digits_of 64 w.result) e
          l.invariant.2 d
          ∙ c.folded.ensures w.result (omega arith),
    )

pub returns : goal.returns
returns c =
    let l = c.loop-k in
    let a = c.args in
    let e : 64 * a.count ≡ 64 * l.k = omega arith in
    ap (λ (n : ℕ). register_of 16 generator a.start (part (8 * a.i) n (bits_of a.s.now))) e ∙ l.invariant.2
