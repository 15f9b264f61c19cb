-- `octets::signed` meets its contract.
use mathlib.Core.Path.{◌≡◌, ap, ◌∙◌}
use Prim.Native.Nat.{ℕ, ◌+◌, ◌*◌, ◌/◌, ◌%◌, ◌^◌, ◌≤◌, ◌<◌, min}
use native.Mathlib.Nat.{mod-lt}
use native.Mathlib.Omega.{arith}
use lib.IntN.{ℤ, pos, ◌-ℤ◌}
use lib.Pow.{pow_mono, pow_pos, split}
use mir.Syntax.{w32, w64}
use mir.Val.{SFits, to_z, of_z}
use mir.Facts.{to_z-of_z, to_z_pos}
use Rattle.octets.specs.Signed.{signed_of}
use Rattle.octets.proofs.Complement.{signed_less, signed_fits}
use Rattle.octets.proofs.Words.{size_is}
use Rattle.octets.proofs.signed.Goals as goal

-- the width as it counts, 2 to its power as the code shifts it, and the digits' value
module _ (c : goal.After-min) where
  abbrev w : ℕ
  w = c.min.result

  abbrev size : ℕ
  size = 1 * 2 ^ w % 2 ^ 64

  abbrev v : ℕ
  v = c.args.n % size

  abbrev less : ℕ
  less = (v + v) / size * size

  facts : (size ≡ 2 ^ w) × (0 < size) × (size ≤ 2 ^ 32) × (v < size)
  facts =
      let l : w ≤ 32 = omega (arith, c.min.ensures) in
      let e : size ≡ 2 ^ w = size_is w (omega arith) in
      let p : 0 < size = omega (arith, pow_pos w) in
      (e, p, omega (arith, pow_mono l), mod-lt c.args.n p)

  -- what is taken away is no more than twice the value
  small : less < 2 ^ 34
  small = omega (arith, facts, ap (λ (x : ℕ). (v + v) / x * x) facts.0, split (v + v) w)

  is : pos v -ℤ pos less ≡ signed_of w v
  is = ap (λ (x : ℕ). pos v -ℤ pos ((v + v) / x * x)) facts.0 ∙ signed_less w v (omega (arith, facts))

  fits : SFits w32 (pos v -ℤ pos less)
  fits = rw is (signed_fits w v (omega (arith, c.min.ensures)) (omega (arith, facts)))

  -- what the code takes is what the contract says
  said : signed_of w v ≡ signed_of (min c.args.w 32) (c.args.n % 2 ^ min c.args.w 32)
  said =
      ap (λ (x : ℕ). signed_of w (c.args.n % x)) facts.0 ∙ ap (λ (k : ℕ). signed_of k (c.args.n % 2 ^ k)) c.min.ensures

  -- so it is whichever way the code comes to what it takes away
  taken : (x : ℕ) → x ≡ less
      → to_z w32 (of_z w32 (to_z w64 (of_z w64 (to_z w64 v -ℤ to_z w64 x)))) ≡ signed_of (min c.args.w 32) (c.args.n % 2 ^ min c.args.w 32)
  taken x e =
      let one : v < 2 ^ 63 = omega (arith, facts) in
      let two : x < 2 ^ 63 = omega (arith, e, small) in
      let wide : SFits w64 (pos v -ℤ pos less) = record { sfits = omega (arith, fits.sfits) } in
      rw (to_z_pos w64 one, to_z_pos w64 two, e)
      (ap (λ (z : ℤ). to_z w32 (of_z w32 z)) (to_z-of_z wide) ∙ to_z-of_z fits ∙ is ∙ said)

pub nonzero_rem-v : goal.nonzero_rem-v
nonzero_rem-v c = omega (arith, facts c)

pub returns : goal.returns
returns c = taken c _ (omega arith)
