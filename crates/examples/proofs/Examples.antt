-- The one claim over the table: in every row the definitions that the contracts cite give what is due. Assumes nothing.
use mathlib.Core.Path.{◌≡◌, refl, sym}
use mathlib.Core.Bool.{true}
use lib.IntN.{ℤ, pos, neg_ℤ, -ℤ-+ℤ_cancel}
use lib.Ieee.{fits}
use lib.ListN.{drop}
use Rattle.octets.specs.Bits.{digits_of, value_of, bits_of, octets_of}
use Rattle.octets.specs.Signed.{twos_of, number_bits}
use Rattle.remainder.specs.Register.{register_of}
use Rattle.layout.specs.Frame.{training_sync, final_sync, message}
use Rattle.recurrence.specs.Run.{run_of}
use Rattle.symbol.specs.Encoder.{ones_left, sent_after, codes_of}
use Rattle.samples.specs.Samples.{is_signal}
use Rattle.samples.specs.Shaper.{Exactly}
use Rattle.samples.proofs.Rounding.{rounds-nearest}
use Rattle.precoder.specs.Precoder.{exact_sum, Sends}
use Rattle.precoder.proofs.Signals.{sends-output}
use Rattle.examples.specs.Calls.{places, given, whole, levels, ones_from, exponents}
use Rattle.examples.specs.Table.{first, lowest, furthest, minus_eighth, table, Claim, Hold}

-- the float of the eleventh
float : Exactly minus_eighth (neg_ℤ (pos 16384))
unfolding fits
float = record { is_32_bit = tt; value = (refl, refl) }

-- the thirteenth for every x: v is 1,440 times 262,144, so x goes out as itself
thirteenth : (x : ℤ) → is_signal x ≡ true → Sends lowest furthest x x
unfolding exact_sum
thirteenth x h =
    record {
      v = pos 377487360;
      rounds = rounds-nearest (exact_sum 180 lowest furthest);
      folds = record { d = pos 1440; is = sym (-ℤ-+ℤ_cancel x (pos 377487360)); signal = h };
    }

-- v and y as the code computes them are right by precoder's laws; here they are seen to be the numbers due
pub examples : Hold table
unfolding table Claim Hold given whole levels places ones_from exponents digits_of value_of bits_of octets_of twos_of number_bits register_of
    training_sync final_sync message run_of ones_left sent_after codes_of exact_sum
examples =
    let ten = sends-output (first (pos 65536)) (first (pos 73728)) (pos 73728) in
    let eleven = sends-output (first (neg_ℤ (pos 131072))) (first (pos 122880)) (pos 122880) in
    let up = rounds-nearest (exact_sum 180 (first (pos 1)) (first (pos 65536))) in
    let even = rounds-nearest (exact_sum 180 (first (pos 1)) (first (neg_ℤ (pos 65536)))) in
    let down = rounds-nearest (exact_sum 180 (first (pos 1)) (first (neg_ℤ (pos 65537)))) in
    let far = rounds-nearest (exact_sum 180 lowest furthest) in
    let last : Hold (drop 13 table) = (ten, (eleven, (float, (up, (even, (down, (far, (thirteenth, tt)))))))) in
    (refl, (refl, (refl, (refl, (refl, (refl, (refl, (refl, (refl, (refl, (refl, (refl, (refl, last)))))))))))))
