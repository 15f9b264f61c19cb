-- `remainder::stands_for` meets its contract. x stands for the bits seen so far and the start.
use mathlib.Core.Path.{◌≡◌, refl, sym, ap, subst, ◌∙◌}
use Prim.Native.Nat.{ℕ, ◌+◌, ◌^◌, ◌<◌}
use native.Mathlib.Omega.{arith}
use lib.Dec.{lit≤}
use Rattle.octets.specs.Bits.{digits_of, value_of, bits_of, part}
use Rattle.octets.proofs.Digits.{turned_lt}
use Rattle.octets.proofs.Laws.{part-lt}
use Rattle.octets.proofs.Words.{field-digits}
use Rattle.remainder.specs.Register.{register_of}
use Rattle.remainder.proofs.Period.{six-degree, six-round, start-round}
use Rattle.remainder.proofs.Quotient.{register-none, word_more}
use Rattle.remainder.proofs.stands_for.Goals as goal

pub loop-seen-init : goal.loop-seen-init
loop-seen-init c =
    let t = c.turned in
    let a = c.args in
    let lt : c.from-x.result < 2 ^ 6 = subst (λ (x : ℕ). x < 2 ^ 6) (sym (c.from-x.ensures ∙ t.ensures)) (turned_lt 6 a.start) in (
      omega arith,
      omega arith,
      sym (register-none 6 67 (lit≤ tt) six-degree a.start) ∙ sym (start-round 6 67 63 (lit≤ tt) six-degree six-round a.start (lit≤ tt) c.requires.0)
          ∙ ap (λ (x : ℕ). register_of 6 67 0 (digits_of 63 x)) (sym (c.from-x.ensures ∙ t.ensures)),
    )

pub brought_round-x-requires : goal.brought_round-x-requires
brought_round-x-requires c =
    let a = c.args in
    let l = c.loop-seen in
    let m = c.min-m.result in
    (omega arith, omega arith, l.invariant.1, subst (λ (v : ℕ). v < 2 ^ m) (sym (c.bits-v.ensures ∙ ap (λ (j : ℕ). value_of (part (a.at + l.seen) j (bits_of a.s.now))) (sym c.min-m.ensures))) (part-lt a.s.now (a.at + l.seen) m))

pub loop-seen-preserved : goal.loop-seen-preserved
loop-seen-preserved c =
    let a = c.args in
    let s = a.s.now in
    let l = c.loop-seen in
    let m = c.min-m.result in
    let v = c.bits-v.result in
    let d : digits_of m v ≡ part (a.at + l.seen) m (bits_of s) = ap (digits_of m) (c.bits-v.ensures ∙ ap (λ (j : ℕ). value_of (part (a.at + l.seen) j (bits_of s))) (sym c.min-m.ensures)) ∙ field-digits s (a.at + l.seen) m (omega arith) in (
      omega arith,
      c.brought_round-x.ensures.0,
      word_more 6 67 (lit≤ tt) six-degree s a.at a.start c.requires.0 l.seen m (l.seen + m) (digits_of 63 l.x) (digits_of m v) refl l.invariant.2 d
          ∙ c.brought_round-x.ensures.1,
    )

pub returns : goal.returns
returns c =
    let l = c.loop-seen in
    let a = c.args in
    let e : a.n ≡ l.seen = omega arith in
    (l.invariant.1, ap (λ (n : ℕ). register_of 6 67 a.start (part a.at n (bits_of a.s.now))) e ∙ l.invariant.2)
