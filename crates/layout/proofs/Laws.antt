-- Lengths of a frame's pieces, and that each is bits. Assumes nothing.
use mathlib.Core.Path.{◌≡◌, refl, sym, ap, ◌∙◌, subst}
use mathlib.Core.Bool.{true}
use mathlib.Core.List.{List, ◌++◌}
use Prim.Native.Nat.{ℕ, ◌-◌, ◌≤◌}
use native.Mathlib.Omega.{arith}
use lib.IntN.{ℤ, pos}
use lib.ListN.{length, take, replicate, length-append, length-replicate}
use lib.Seq.{length-take-le}
use Rattle.octets.specs.Bits.{digits_of, value_of, bits_of}
use Rattle.octets.proofs.Digits.{Bits, append_bits, digits-length, digits-bits, digits_value, zeros-bits}
use Rattle.octets.proofs.Laws.{bits-length, bits-bits}
use Rattle.octets.proofs.Numbers.{number-length, number-bits}
use Rattle.remainder.specs.Division.{check_bits}
use Rattle.ranges.specs.Ranges.{is_coefficient, every}
use Rattle.ranges.proofs.Laws.{every_append, every-same}
use Rattle.remainder.proofs.Errors.{check-length, check_bits_right}
use Rattle.layout.specs.Frame.{training_sync, final_sync, coefficient_bits, used, message, check_of, frame_bits}

-- ---- coefficients in range

-- the coefficients in use and the zeros behind them
pub used-range : (count : ℕ) (cs : List ℤ) → every is_coefficient (take count cs) ≡ true → every is_coefficient (used count cs) ≡ true
used-range count cs e =
    every_append is_coefficient (take count cs) (replicate (180 - count) (pos 0)) e (every-same is_coefficient (180 - count) (pos 0) refl)

pub used-length : (count : ℕ) (cs : List ℤ) → count ≤ 180 → length cs ≡ 180 → length (used count cs) ≡ 180
used-length count cs h l =
    length-append (take count cs) (replicate (180 - count) (pos 0))
    ∙ omega (arith, length-take-le count cs (omega arith), length-replicate (180 - count) (pos 0))

-- behind the coefficients: A, B, vendor data, reserved
module _ (a b : ℕ) (vendor reserved : List ℕ) (v : length vendor ≡ 16) (r : length reserved ≡ 67) where
  pub tail-length : length (digits_of 21 a ++ (digits_of 21 b ++ (bits_of vendor ++ reserved))) ≡ 237
  tail-length =
      length-append (digits_of 21 a) (digits_of 21 b ++ (bits_of vendor ++ reserved))
      ∙ omega (
        arith,
        digits-length 21 a,
        digits-length 21 b,
        bits-length vendor,
        length-append (digits_of 21 b) (bits_of vendor ++ reserved),
        length-append (bits_of vendor) reserved,
      )

  pub message-length : (cs : List ℤ) → length cs ≡ 180 → length (message cs a b vendor reserved) ≡ 4197
  unfolding message
  message-length cs l =
      length-append (coefficient_bits cs) (digits_of 21 a ++ (digits_of 21 b ++ (bits_of vendor ++ reserved)))
      ∙ omega (arith, number-length 22 cs, tail-length)

pub tail-bits : (a b : ℕ) (vendor reserved : List ℕ) → Bits reserved → Bits (digits_of 21 a ++ (digits_of 21 b ++ (bits_of vendor ++ reserved)))
tail-bits a b vendor reserved h =
    append_bits (digits_of 21 a) (digits_of 21 b ++ (bits_of vendor ++ reserved)) (digits-bits 21 a)
    (append_bits (digits_of 21 b) (bits_of vendor ++ reserved) (digits-bits 21 b) (append_bits (bits_of vendor) reserved (bits-bits vendor) h))

pub message-bits : (cs : List ℤ) (a b : ℕ) (vendor reserved : List ℕ) → Bits reserved → Bits (message cs a b vendor reserved)
unfolding message
message-bits cs a b vendor reserved h =
    append_bits (coefficient_bits cs) (digits_of 21 a ++ (digits_of 21 b ++ (bits_of vendor ++ reserved))) (number-bits 22 cs) (tail-bits a b vendor reserved h)

-- put as a number whose lowest digit is c1
pub check-put : (r : ℕ) → digits_of 16 (value_of (check_bits 16 r)) ≡ check_bits 16 r
check-put r = ap (λ (n : ℕ). digits_of n (value_of (check_bits 16 r))) (sym (check-length 16 r)) ∙ digits_value (check_bits 16 r) (check_bits_right 16 r)

module _ (sync m : List ℕ) (s : length sync ≡ 14) (l : length m ≡ 4197) where
  pub frame-length : length (frame_bits sync m) ≡ 4232
  unfolding frame_bits
  frame-length =
      length-append sync (m ++ (check_bits 16 (check_of m) ++ replicate 5 0))
      ∙ omega (
        arith,
        length-append m (check_bits 16 (check_of m) ++ replicate 5 0),
        length-append (check_bits 16 (check_of m)) (replicate 5 0),
        check-length 16 (check_of m),
      )

pub frame-bits : (sync m : List ℕ) → Bits sync → Bits m → Bits (frame_bits sync m)
unfolding frame_bits
frame-bits sync m h k =
    append_bits sync (m ++ (check_bits 16 (check_of m) ++ replicate 5 0)) h
    (append_bits m (check_bits 16 (check_of m) ++ replicate 5 0) k
    (append_bits (check_bits 16 (check_of m)) (replicate 5 0) (check_bits_right 16 (check_of m)) (zeros-bits 5)))

-- ---- the sync words

pub training-digits : digits_of 14 0x359f ≡ training_sync
unfolding training_sync digits_of
training-digits = refl

pub final-digits : digits_of 14 0x3e6b ≡ final_sync
unfolding final_sync digits_of
final-digits = refl

pub training-value : value_of training_sync ≡ 0x359f
unfolding training_sync value_of
training-value = refl

pub final_value : value_of final_sync ≡ 0x3e6b
unfolding final_sync value_of
final_value = refl

pub training-length : length training_sync ≡ 14
unfolding training_sync
training-length = refl

pub final-length : length final_sync ≡ 14
unfolding final_sync
final-length = refl

pub training-bits : Bits training_sync
training-bits = subst Bits training-digits (digits-bits 14 0x359f)

pub final-bits : Bits final_sync
final-bits = subst Bits final-digits (digits-bits 14 0x3e6b)
