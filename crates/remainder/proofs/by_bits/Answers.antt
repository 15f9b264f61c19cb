-- `remainder::by_bits` meets its contract. The register is the one after the bits up to the one k places behind.
use borrow.Author.Tests.{not-true, not-false, ltb-true, ltb-false}
use mathlib.Core.Path.{sym, ap, subst, ◌∙◌}
use Prim.Native.Nat.{ℕ, ◌+◌, ◌^◌, ◌≤◌, ◌<◌}
use native.Mathlib.Omega.{arith}
use lib.ListN.{length}
use Rattle.octets.specs.Bits.{bits_of}
use Rattle.octets.proofs.Laws.{bits-bits, bits-length, part-all, part-past}
use Rattle.remainder.specs.Register.{register_of}
use Rattle.remainder.proofs.Quotient.{register-none, bit-more, taken-lt}
use Rattle.remainder.proofs.by_bits.Goals as goal

pub loop-k-init : goal.loop-k-init
loop-k-init c =
    let a = c.args in
    (omega arith, register-none a.degree a.generator c.requires.0 c.requires.2 a.start)

pub returns-then-not-has : goal.returns-then-not-has
returns-then-not-has c =
    let a = c.args in
    let l = c.loop-k in
    let h : length (bits_of a.s.now) ≤ a.at + l.k = ltb-false _ _ (sym c.has.ensures ∙ not-true _ c.if-not-has.true-raw) in
    l.invariant.1
    ∙ ap (register_of a.degree a.generator a.start) (part-past a.s.now a.at a.n l.k (omega (arith, bits-length a.s.now)))

-- what `bit` gives is a bit
bit-lt : (c : goal.After-from-b) → c.from-b.result < 2
bit-lt c =
    let a = c.args in
    subst (λ (n : ℕ). n < 2) (sym (c.from-b.ensures ∙ c.bit.ensures)) (bits-bits a.s.now (a.at + c.loop-k.k))

pub step-register-requires : goal.step-register-requires
step-register-requires c =
    let a = c.args in
    let l = c.loop-k in
    let lt = taken-lt a.degree a.generator c.requires.0 c.requires.2 a.s.now a.at a.start c.requires.3 a.n l.k in
    (c.requires.0, c.requires.1, subst (λ (r : ℕ). r < 2 ^ a.degree) (sym l.invariant.1) lt, bit-lt c, c.requires.2)

pub loop-k-preserved : goal.loop-k-preserved
loop-k-preserved c =
    let a = c.args in
    let l = c.loop-k in
    let b = c.from-b in
    let h : a.at + l.k < length (bits_of a.s.now) =
    ltb-true _ _ (sym c.has.ensures ∙ not-false _ c.if-not-has.false-raw) in (
      omega arith,
      c.step-register.ensures
          ∙ bit-more a.degree a.generator c.requires.0 c.requires.2 a.s.now a.at a.start c.requires.3 a.n l.k l.register b.result l.invariant.1
          (omega arith) (omega (arith, bits-length a.s.now)) (b.ensures ∙ c.bit.ensures),
    )

pub returns : goal.returns
returns c =
    let a = c.args in
    let l = c.loop-k in
    l.invariant.1 ∙ ap (register_of a.degree a.generator a.start) (part-all a.s.now a.at a.n l.k (omega arith))
