-- `octets::word` meets its contract: eight octets are read, or as many as there are.
use mathlib.Core.Path.{◌≡◌, sym, ap, ◌∙◌}
use Prim.Native.Nat.{ℕ, ◌+◌, ◌-◌, ◌*◌, min}
use native.Mathlib.Omega.{arith}
use lib.ListN.{length, take, drop}
use Rattle.octets.specs.Bits.{value_of, bits_of, part}
use Rattle.octets.proofs.Laws.{part-clipped}
use Rattle.octets.proofs.Words.{octets-part, part_none}
use Rattle.octets.proofs.word.Goals as goal

pub returns-then-i-starts : goal.returns-then-i-starts
returns-then-i-starts c =
    let a = c.args in
    let s = a.s.now in
    let e : a.i + 8 - a.i ≡ 8 = omega arith in
    c.by_octets.ensures ∙ ap (λ (n : ℕ). value_of (bits_of (take n (drop a.i s)))) e
    ∙ ap value_of (octets-part s a.i 8 (omega (arith, c.starts.ensures)))

pub returns-then-s-i : goal.returns-then-s-i
unfolding value_of
returns-then-s-i c =
    let a = c.args in
    sym (ap value_of (part_none a.s.now (8 * a.i) 64 (omega arith)))

pub returns : goal.returns
returns c =
    let a = c.args in
    let s = a.s.now in
    let n = length s - a.i in
    let e : 8 * n ≡ min 64 (8 * length s - 8 * a.i) = omega (arith, c.starts.ensures) in
    c.by_octets-2.ensures
    ∙ ap value_of (octets-part s a.i n (omega arith) ∙ ap (λ (k : ℕ). part (8 * a.i) k (bits_of s)) e ∙ part-clipped s (8 * a.i) 64)
