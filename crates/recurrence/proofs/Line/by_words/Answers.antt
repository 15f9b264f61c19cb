-- `recurrence::Line::by_words` meets its contract. After k turns k words are gone.
use mathlib.Core.Path.{◌≡◌, ap, subst, ◌∙◌}
use Prim.Native.Nat.{ℕ, ◌+◌, ◌*◌, ◌/◌, ◌%◌, ◌^◌}
use native.Mathlib.Omega.{arith}
use lib.Dec.{lit≤}
use lib.ListN.{length}
use Rattle.octets.specs.Bits.{digits_of, bits_of, part}
use Rattle.octets.proofs.Laws.{laid-length}
use Rattle.octets.proofs.Words.{field-digits}
use Rattle.recurrence.specs.Window.{Gone}
use Rattle.recurrence.proofs.Block.{gone-none, gone-word, gone-join}
use Rattle.recurrence.proofs.Line.by_words.Goals as goal

pub loop-k-init : goal.loop-k-init
loop-k-init c =
    let a = c.args in
    gone-none a.self.way a.self.tap a.start a.output.now (8 * a.i) c.requires.0 (λ i. omega (arith, c.slice_known-1.given i))

pub overflow_mul-octet : goal.overflow_mul-octet
overflow_mul-octet c = omega arith

pub overflow_add-octet : goal.overflow_add-octet
overflow_add-octet c = omega arith

pub word_out-out-requires : goal.word_out-out-requires
word_out-out-requires c = c.loop-k.invariant.0

pub later-window-requires : goal.later-window-requires
later-window-requires c = (c.loop-k.invariant.0, lit≤ tt)

pub loop-k-preserved : goal.loop-k-preserved
loop-k-preserved c =
    let l = c.loop-k in
    let a = c.args in
    let s = a.input.now in
    let p = 8 * a.i in
    let q = 8 * (a.i + 8 * l.k) in
    let e : 64 * l.k + 64 ≡ 64 * (l.k + 1) = omega arith in
    let f : p + 64 * l.k ≡ q = omega arith in
    let way = a.self.way in
    let word = c.word-bits in
    let out = c.word_out-out in
    let put = c.put_word in
    let digits : digits_of 64 word.result ≡ part q 64 (bits_of s) = ap (digits_of 64) word.ensures ∙ field-digits s q 64 (omega arith) in
    gone-join way a.self.tap s p (64 * l.k) 64 (64 * (l.k + 1)) q a.start l.window c.later-window.result a.output.now l.output put.new.s e
    (omega arith) f l.invariant
    (gone-word way a.self.tap l.window 64 word.result out.result c.later-window.result q (part q 64 (bits_of s)) l.output put.new.s
    (out.ensures 64 (lit≤ tt))
    (c.later-window.ensures ∙ ap (λ (x : ℕ). (x * 2 ^ 23 + l.window) / 2 ^ 64 % 2 ^ 23) c.on_line.ensures) digits put.ensures)

pub shape_of-output : goal.shape_of-output
shape_of-output c = let a = c.args in ap length c.loop-k.invariant.2 ∙ laid-length a.output.now (8 * a.i) _

pub returns : goal.returns
returns c =
    let a = c.args in
    let l = c.loop-k in
    let e : 64 * l.k ≡ 64 * a.count = omega arith in
    subst (λ (n : ℕ). Gone a.self.way a.self.tap a.start (part (8 * a.i) n (bits_of a.input.now)) a.output.now (8 * a.i) l.window l.output) e
    l.invariant
