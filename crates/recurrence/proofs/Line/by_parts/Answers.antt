-- `recurrence::Line::by_parts` meets its contract. The bits before the one k places behind are gone.
use mathlib.Core.Path.{◌≡◌, ap, subst, ◌∙◌}
use Prim.Native.Nat.{ℕ, ◌+◌, ◌-◌, ◌*◌, ◌/◌, ◌%◌, ◌^◌, ◌≤◌, min}
use native.Mathlib.Omega.{arith}
use lib.ListN.{length}
use Rattle.octets.specs.Bits.{digits_of, value_of, bits_of, part, laid}
use Rattle.octets.proofs.Laws.{laid-length}
use Rattle.octets.proofs.Words.{field-digits}
use Rattle.recurrence.specs.Window.{Gone}
use Rattle.recurrence.proofs.Block.{gone-none, gone-word, gone-join}
use Rattle.recurrence.proofs.Line.by_parts.Goals as goal

pub loop-k-init : goal.loop-k-init
loop-k-init c =
    let a = c.args in
    let p = a.at + a.from in
    let e : 0 ≡ a.from - a.from = omega arith in (
      omega arith,
      omega arith,
      subst (λ (n : ℕ). Gone a.self.way a.self.tap a.start (part p n (bits_of a.input.now)) a.output.now p a.start a.output.now) e
          (gone-none a.self.way a.self.tap a.start a.output.now p c.requires.0 (λ i. omega (arith, c.slice_known-1.given i))),
    )

pub overflow_sub-bits : goal.overflow_sub-bits
overflow_sub-bits c = omega arith

pub word_out-out-requires : goal.word_out-out-requires
word_out-out-requires c = c.loop-k.invariant.2.0

pub later-window-requires : goal.later-window-requires
later-window-requires c =
    (c.loop-k.invariant.2.0, omega (arith, c.min-n.ensures))

pub overflow_add-k : goal.overflow_add-k
overflow_add-k c = omega (arith, c.min-n.ensures)

pub loop-k-smaller : goal.loop-k-smaller
loop-k-smaller c = omega (arith, c.min-n.ensures)

pub loop-k-preserved : goal.loop-k-preserved
loop-k-preserved c =
    let l = c.loop-k in
    let a = c.args in
    let n = c.min-n.result in
    let s = a.input.now in
    let p = a.at + a.from in
    let q = l.k + a.at in
    let le : n ≤ a.bits - l.k = omega (arith, c.min-n.ensures) in
    let few : min n 56 ≡ n = omega (arith, c.min-n.ensures) in
    let e : l.k - a.from + n ≡ l.k + n - a.from = omega arith in
    let f : p + (l.k - a.from) ≡ q = omega arith in
    let h : p + (l.k - a.from) ≤ 8 * length s = omega arith in
    let way = a.self.way in
    let f-is = c.bits-f in
    let out = c.word_out-out in
    let put = c.put_bits in
    let at-q : f-is.result ≡ value_of (part q n (bits_of s)) = f-is.ensures ∙ ap (λ (m : ℕ). value_of (part q m (bits_of s))) few in
    let digits : digits_of n f-is.result ≡ part q n (bits_of s) = ap (digits_of n) at-q ∙ field-digits s q n (omega arith) in (
      omega arith,
      omega arith,
      gone-join way a.self.tap s p (l.k - a.from) n (l.k + n - a.from) q a.start l.window c.later-window.result a.output.now l.output
          put.new.s e h f l.invariant.2
          (gone-word way a.self.tap l.window n f-is.result out.result c.later-window.result q (part q n (bits_of s)) l.output put.new.s
          (out.ensures n (omega (arith, c.min-n.ensures)))
          (c.later-window.ensures ∙ ap (λ (x : ℕ). (x * 2 ^ 23 + l.window) / 2 ^ n % 2 ^ 23) c.on_line.ensures)
          digits (put.ensures ∙ ap (λ (m : ℕ). laid l.output q (digits_of m out.result)) few)),
    )

pub shape_of-output : goal.shape_of-output
shape_of-output c = let a = c.args in ap length c.loop-k.invariant.2.2 ∙ laid-length a.output.now (a.at + a.from) _

pub returns : goal.returns
returns c =
    let a = c.args in
    let l = c.loop-k in
    let p = a.at + a.from in
    let e : l.k - a.from ≡ a.bits - a.from = omega arith in
    subst (λ (n : ℕ). Gone a.self.way a.self.tap a.start (part p n (bits_of a.input.now)) a.output.now p l.window l.output) e l.invariant.2
