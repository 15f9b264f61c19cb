-- `octets::octets_clear` meets its contract. Of the octets before octet k, `all` is 0 where they all are.
use mathlib.Core.Path.{◌≡◌, ap, ◌∙◌}
use mathlib.Core.List.{List}
use Prim.Native.Nat.{ℕ, ◌+◌, ◌-◌, ◌*◌, min}
use native.Mathlib.Omega.{arith}
use lib.ListN.{length}
use Rattle.octets.specs.Bits.{value_of, bits_of, part}
use Rattle.octets.proofs.Laws.{part-clipped, none-same}
use Rattle.octets.proofs.Words.{clear-octet}
use Rattle.octets.proofs.octets_clear.Goals as goal

pub loop-k-init : goal.loop-k-init
unfolding value_of
loop-k-init c =
    let a = c.args in
    let z : 0 ≡ 8 * (a.i - a.i) = omega arith in
    (omega arith, omega arith, ap (λ (n : ℕ). min (value_of (part (8 * a.i) n (bits_of a.s.now))) 1) z)

pub loop-k-preserved : goal.loop-k-preserved
loop-k-preserved c =
    let l = c.loop-k in
    let a = c.args in
    let s = a.s.now in
    let m = l.k - a.i in
    let e : 8 * m + 8 ≡ 8 * (l.k + 1 - a.i) = omega arith in (
      omega arith,
      omega arith,
      clear-octet s a.i m l.k l.all (λ n. omega (arith, c.shared_slice_known-in-loop-k-1.given n)) (omega arith) l.invariant.2
          ∙ ap (λ (n : ℕ). min (value_of (part (8 * a.i) n (bits_of s))) 1) e,
    )

pub returns : goal.returns
returns c =
    let l = c.loop-k in
    let w = c.min-last in
    let a = c.args in
    let s = a.s.now in
    let e : 8 * (l.k - a.i) ≡ min (8 * (a.end - a.i)) (8 * length s - 8 * a.i) = omega (arith, w.ensures) in
    none-same l.all _
    (l.invariant.2 ∙ ap (λ (n : ℕ). min (value_of (part (8 * a.i) n (bits_of s))) 1) e ∙ ap (λ (x : List ℕ). min (value_of x) 1) (part-clipped s (8 * a.i) (8 * (a.end - a.i))))
