-- `octets::copy_bits` meets its contract. The first k of the bits that are there are laid.
use mathlib.Core.Path.{◌≡◌, ap, ◌∙◌}
use Prim.Native.Nat.{ℕ, ◌+◌, ◌-◌, ◌*◌, ◌≤◌, ◌<◌, min}
use native.Mathlib.Omega.{arith}
use lib.ListN.{length}
use Rattle.octets.specs.Bits.{bits_of, part, laid}
use Rattle.octets.proofs.Laws.{laid_none, part-clipped}
use Rattle.octets.proofs.Words.{part-laid}
use Rattle.octets.proofs.copy_bits.Goals as goal

pub loop-k-init : goal.loop-k-init
loop-k-init c =
    let a = c.args in
    (omega arith, laid_none a.s.now a.at (λ i. omega (arith, c.slice_known-1.given i)))

-- a step goes on
on : (all k m : ℕ) → k < all → min (all - k) 1 ≤ m → all - (k + m) < all - k
on all k m h l = omega arith

pub loop-k-preserved : goal.loop-k-preserved
loop-k-preserved c =
    let word = c.long in
    let m = c.step-m.result in
    let l = c.loop-k in
    let all = c.there-all in
    let a = c.args in (
      omega (arith, c.step-m.ensures),
      part-laid a.s.now a.at a.source.now a.from l.k m (omega (arith, c.step-m.ensures)) (omega (arith, c.step-m.ensures, all.ensures))
          l.invariant.1 word.ensures c.put_at.ensures,
    )

pub returns : goal.returns
returns c =
    let a = c.args in
    let l = c.loop-k in
    let e : l.k ≡ min a.n (8 * length a.source.now - a.from) = omega (arith, c.there-all.ensures) in
    l.invariant.1 ∙ ap (laid a.s.now a.at) (ap (λ (j : ℕ). part a.from j (bits_of a.source.now)) e ∙ part-clipped a.source.now a.from a.n)
