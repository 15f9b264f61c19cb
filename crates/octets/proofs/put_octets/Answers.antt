-- `octets::put_octets` meets its contract. The octets before octet k are put, and `rest` is what is left of v.
use mathlib.Core.Path.{◌≡◌, sym, ap, ◌∙◌}
use mathlib.Core.List.{List}
use Prim.Native.Nat.{ℕ, ◌+◌, ◌-◌, ◌*◌, ◌/◌, ◌^◌, ◌≤◌, min, max}
use native.Mathlib.Nat.{div-one}
use native.Mathlib.Decide.{dec_le}
use native.Mathlib.Omega.{arith}
use lib.ListN.{length}
use lib.Pow.{shr-shr}
use lib.Seq.{sets}
use Rattle.octets.specs.Bits.{digits_of, octets_of}
use Rattle.octets.proofs.Words.{octets-more, sets-rest}
use Rattle.octets.proofs.put_octets.Goals as goal

pub loop-k-init : goal.loop-k-init
unfolding octets_of
loop-k-init c =
    let a = c.args in
    let z : 0 ≡ a.i - a.i = omega arith in (
      omega arith,
      omega arith,
      sym (div-one a.v) ∙ ap (λ (n : ℕ). a.v / 2 ^ (8 * n)) z,
      ap (λ (n : ℕ). sets a.s.now a.i (octets_of n (digits_of (8 * n) a.v))) z,
    )

pub loop-k-preserved : goal.loop-k-preserved
loop-k-preserved c =
    let a = c.args in
    let l = c.loop-k in
    let m = l.k - a.i in
    let e : 8 * m + 8 ≡ 8 * (l.k + 1 - a.i) = omega arith in
    let f : m + 1 ≡ l.k + 1 - a.i = omega arith in (
      omega arith,
      omega arith,
      ap (λ (x : ℕ). x / 2 ^ 8) l.invariant.2 ∙ shr-shr a.v (8 * m) 8 ∙ ap (λ (n : ℕ). a.v / 2 ^ n) e,
      octets-more a.s.now a.i m a.v l.k (omega arith) l.invariant.2 l.invariant.3 ∙ ap (λ (n : ℕ). sets a.s.now a.i (octets_of n (digits_of (8 * n) a.v))) f,
    )

-- the eight octets are put, or as many as there are
all : (s : List ℕ) (i end k v : ℕ) → end ≡ min (i + 8) (length s) → i ≤ k → end ≤ k → k ≤ max i end
    → sets s i (octets_of (k - i) (digits_of (8 * (k - i)) v)) ≡ sets s i (octets_of 8 (digits_of 64 v))
all s i end k v h a b e = pick (dec_le (length s) k)
  where
    pick : Dec (length s ≤ k) → sets s i (octets_of (k - i) (digits_of (8 * (k - i)) v)) ≡ sets s i (octets_of 8 (digits_of 64 v))
    pick (yes l) =
        let m : k - i + (8 - (k - i)) ≡ 8 = omega arith in
        sets-rest s i (k - i) (8 - (k - i)) v (omega arith) ∙ ap (λ (n : ℕ). sets s i (octets_of n (digits_of (8 * n) v))) m
    pick (no l) = let m : k - i ≡ 8 = omega arith in ap (λ (n : ℕ). sets s i (octets_of n (digits_of (8 * n) v))) m

pub returns : goal.returns
returns c =
    let a = c.args in
    let l = c.loop-k in
    l.invariant.3 ∙ all a.s.now a.i a.end l.k a.v c.requires l.invariant.0 (omega arith) l.invariant.1
