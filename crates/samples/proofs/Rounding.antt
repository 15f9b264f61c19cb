-- Laws of rounding and folding: what the code computes is the one number that the definitions name. Assumes nothing.
use mathlib.Core.Path.{◌≡◌, sym, subst}
use mathlib.Core.Bool.{true, false}
use Prim.Native.Nat.{◌+◌, ◌*◌, ◌/◌, ◌≤◌, ◌<◌}
use native.Mathlib.Nat.{le_of_suc-le-suc}
use native.Mathlib.Omega.{arith}
use lib.Dec.{lit<}
use lib.IntN.{ℤ, pos, negsuc, neg_ℤ, nat_abs, ◌+ℤ◌, ◌-ℤ◌, ◌*ℤ◌}
use Rattle.std.specs.Int.{int_div_euclid, int_rem_euclid}
use lib.Signed.{shr_z, lt_z}
use mir.Syntax.{w32, w64}
use mir.Val.{SFits}
use Rattle.samples.specs.Samples.{one, is_signal, Rounds, Folds}
use Rattle.samples.proofs.Linear.{P, N, P_pos, N-pos, P-negsuc, N-negsuc, le-to, lt-to, le_of, lt_of, eq_of, add-bal, sub_is, neg-P, neg-N}
use Rattle.samples.proofs.Linear.{mul-P, mul-N, abs_is, P-mag, N-mag, mag_of, division, floor, lt-true, lt-false}
use Rattle.ranges.proofs.Laws.{range-mag, mag-range}

-- rounding and folding, computed. The rounded number is the floor of s/131,072 + 1/2; the library's `shr_z z n` is the floor of z/n
abbrev pub nearest : ℤ → ℤ
nearest s = shr_z (s +ℤ pos (one / 2)) one

-- and the folded one is u less as many times 262,144 as the floor of u/262,144 + 1/2
abbrev pub fold_of : ℤ → ℤ
fold_of u = u -ℤ pos (2 * one) *ℤ shr_z (u +ℤ pos one) (2 * one)

-- a signal's parts above and below zero
pub signal-to : (z : ℤ) → is_signal z ≡ true → (P z ≤ 131071) × (N z ≤ 131072)
signal-to z e = let h = range-mag 131071 z e in (omega (arith, P-mag z), omega (arith, N-mag z))

signal-of : (z : ℤ) → P z ≤ N z + 131071 → N z ≤ P z + 131072 → is_signal z ≡ true
signal-of z p q = mag-range 131071 z (le_of_suc-le-suc (mag_of z 131072 (omega arith) q))

-- ---- rounding

-- a number below 2^63 in size fits
pub abs-fits : (z : ℤ) → nat_abs z < 9223372036854775808 → SFits w64 z
abs-fits z h = record { sfits = mag_of z 9223372036854775808 (omega (arith, abs_is z)) (omega (arith, abs_is z)) }

-- one number lies within half a step
pub rounds-unique : (s v w : ℤ) → Rounds s v → Rounds s w → v ≡ w
rounds-unique s v w f g =
    eq_of v w
    (omega (
      arith,
      le-to f.low,
      lt-to f.high,
      le-to g.low,
      lt-to g.high,
      P_pos 65536,
      N-pos 65536,
      sub_is (pos 131072 *ℤ v) (pos 65536),
      add-bal (pos 131072 *ℤ v) (pos 65536),
      mul-P 131072 v,
      mul-N 131072 v,
      sub_is (pos 131072 *ℤ w) (pos 65536),
      add-bal (pos 131072 *ℤ w) (pos 65536),
      mul-P 131072 w,
      mul-N 131072 w,
    ))

-- ---- folding

module _ (u : ℤ) where
  abbrev turns : ℤ
  turns = int_div_euclid u (pos 262144)

  abbrev left : ℤ
  left = int_rem_euclid u (pos 262144)

  parts : (P turns * 262144 + P left + N u ≡ P u + N turns * 262144) × (N left ≡ 0) × (P left < 262144)
  parts = division 262144 (lit< tt) u

  -- what stands in range is one of the numbers that differ from u by a multiple
  moved : (y d : ℤ) → P y + (N u + 262144 * N d) ≡ (P u + 262144 * P d) + N y → P y ≤ N y + 131071 → N y ≤ P y + 131072 → Folds u y
  moved y d e p q =
      record {
        d = d;
        is = eq_of _ _ (omega (arith, e, add-bal u (pos 262144 *ℤ d), mul-P 262144 d, mul-N 262144 d));
        signal = signal-of y p q;
      }

  pub fold-kept : lt_z (pos 131071) left ≡ false → Folds u left
  fold-kept hi =
      let h = lt-false (pos 131071) left hi in
      moved left (neg_ℤ turns) (omega (arith, parts, neg-P turns, neg-N turns))
      (omega (arith, h, P_pos 131071, N-pos 131071)) (omega (arith, parts))

  pub fold-down : lt_z (pos 131071) left ≡ true → Folds u (left -ℤ pos 262144)
  fold-down hi =
      let h = lt-true (pos 131071) left hi in
      moved (left -ℤ pos 262144) (negsuc 0 -ℤ turns)
      (omega (arith, parts, sub_is (negsuc 0) turns, P-negsuc 0, N-negsuc 0, sub_is left (pos 262144), P_pos 262144, N-pos 262144))
      (omega (arith, h, parts, P_pos 131071, N-pos 131071, sub_is left (pos 262144), P_pos 262144, N-pos 262144))
      (omega (arith, h, parts, P_pos 131071, N-pos 131071, sub_is left (pos 262144), P_pos 262144, N-pos 262144))

  pub left-fits : SFits w64 left
  left-fits = record { sfits = mag_of left 9223372036854775808 (omega (arith, parts)) (omega (arith, parts)) }

  pub down_fits : SFits w64 (left -ℤ pos 262144)
  down_fits =
      record {
        sfits = mag_of (left -ℤ pos 262144) 9223372036854775808 (omega (arith, parts, sub_is left (pos 262144), P_pos 262144, N-pos 262144))
            (omega (arith, parts, sub_is left (pos 262144), P_pos 262144, N-pos 262144));
      }

-- a signal fits an i32
pub signal-fits : (z : ℤ) → is_signal z ≡ true → SFits w32 z
signal-fits z e = record { sfits = omega (arith, range-mag 131071 z e) }

-- the equation of a fold, for omega
pub fold-bal : (u y : ℤ) (f : Folds u y) → P y + (N u + 262144 * N f.d) ≡ (P u + 262144 * P f.d) + N y
fold-bal u y f =
    subst (λ (x : ℤ). P x + (N u + 262144 * N f.d) ≡ (P u + 262144 * P f.d) + N x) (sym f.is)
    (omega (arith, add-bal u (pos 262144 *ℤ f.d), mul-P 262144 f.d, mul-N 262144 f.d))

-- one number of the range differs from u by a multiple
pub folds-unique : (u y z : ℤ) → Folds u y → Folds u z → y ≡ z
folds-unique u y z f g =
    eq_of y z (omega (arith, signal-to y f.signal, signal-to z g.signal, fold-bal u y f, fold-bal u z g))

-- ---- the computed numbers are those of the definitions

pub rounds-nearest : (s : ℤ) → Rounds s (nearest s)
rounds-nearest s =
    let z = s +ℤ pos 65536 in
    let q = nearest s in
    let f = floor 131072 (lit< tt) z in
    record {
      low = le_of _ _ (omega (arith, sub_is (pos 131072 *ℤ q) (pos 65536), mul-P 131072 q, mul-N 131072 q, f, add-bal s (pos 65536), P_pos 65536, N-pos 65536));
      high = lt_of _ _
          (omega (arith, add-bal (pos 131072 *ℤ q) (pos 65536), mul-P 131072 q, mul-N 131072 q, f, add-bal s (pos 65536), P_pos 65536, N-pos 65536));
    }

pub folds-fold : (u : ℤ) → Folds u (fold_of u)
folds-fold u =
    let q = shr_z (u +ℤ pos 131072) 262144 in
    let f = floor 262144 (lit< tt) (u +ℤ pos 131072) in
    moved u (fold_of u) (neg_ℤ q)
    (omega (arith, sub_is u (pos 262144 *ℤ q), mul-P 262144 q, mul-N 262144 q, neg-P q, neg-N q))
    (omega (arith, f, sub_is u (pos 262144 *ℤ q), mul-P 262144 q, mul-N 262144 q, add-bal u (pos 131072), P_pos 131072, N-pos 131072))
    (omega (arith, f, sub_is u (pos 262144 *ℤ q), mul-P 262144 q, mul-N 262144 q, add-bal u (pos 131072), P_pos 131072, N-pos 131072))
