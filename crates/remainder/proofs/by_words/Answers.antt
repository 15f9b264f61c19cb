-- `remainder::by_words` meets its contract: the words, the bits behind them, and the register that they leave.
use mathlib.Core.Path.{◌≡◌, refl, sym, ap, ◌∙◌}
use Prim.Native.Nat.{ℕ, ◌+◌, ◌*◌}
use native.Mathlib.Omega.{arith}
use lib.Dec.{lit≤}
use Rattle.octets.specs.Bits.{digits_of, bits_of, part}
use Rattle.remainder.specs.Division.{generator}
use Rattle.remainder.proofs.Errors.{generator-degree}
use Rattle.remainder.proofs.Quotient.{word_more}
use Rattle.remainder.proofs.by_words.Goals as goal

pub returns : goal.returns
returns c =
    let y = c.rest in
    let x = c.words-x in
    let a = c.args in
    let s = a.s.now in
    let n = 64 * a.count in
    let p : 8 * (a.i + 8 * a.count) ≡ 8 * a.i + n = omega arith in
    c.after_word.ensures
    ∙ sym (word_more 16 generator (lit≤ tt) generator-degree s (8 * a.i) a.start c.ranges.start.fits n a.n (n + a.n) (digits_of 64 x.result)
    (part (8 * (a.i + 8 * a.count)) a.n (bits_of s)) refl x.ensures (ap (λ (q : ℕ). part q a.n (bits_of s)) p)
    ∙ y.ensures)
