-- `remainder::short` meets its contract: the word holds the bits, the start changes the first of them, and what comes before them is zero.
use mathlib.Core.Path.{sym, ap, ◌∙◌}
use Prim.Native.Nat.{ℕ}
use lib.Bits.{bit_xor}
use lib.Dec.{lit≤}
use Rattle.octets.specs.Bits.{digits_of}
use Rattle.octets.proofs.Turn.{turn_of}
use Rattle.octets.proofs.Words.{word-front}
use Rattle.remainder.specs.Division.{generator}
use Rattle.remainder.specs.Register.{register_of}
use Rattle.remainder.proofs.Errors.{generator-degree}
use Rattle.remainder.proofs.Quotient.{up-over, start-in}
use Rattle.remainder.proofs.short.Goals as goal

pub returns : goal.returns
returns c =
    let t = c.from-2 in
    let w = c.word in
    let a = c.args in
    let n = a.n in
    c.after_word.ensures ∙ up-over 16 generator n (bit_xor w.result t.result) c.requires.1
    ∙ ap (λ (y : ℕ). register_of 16 generator 0 (digits_of n (bit_xor w.result y))) (t.ensures ∙ c.turned.ensures ∙ ap (turn_of 16) c.from.ensures)
    ∙ sym (start-in 16 generator (lit≤ tt) generator-degree n a.start w.result c.requires.0 c.ranges.start.fits)
    ∙ ap (register_of 16 generator a.start) (word-front a.s.now a.i n w.result c.requires.1 c.requires.2 w.ensures)
