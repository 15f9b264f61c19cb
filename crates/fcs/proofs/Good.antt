-- RFC 1662's good value: what octets and their check sequence leave together, and nothing but their check sequence does. So a reader may check either way.
-- Assumes nothing.
use mathlib.Core.Path.{◌≡◌, refl, sym, ap, ◌∙◌}
use mathlib.Core.List.{List, ◌++◌}
use Prim.Native.Nat.{ℕ, ◌-◌, ◌^◌, ◌<◌}
use native.Mathlib.Omega.{arith}
use lib.Bits.{bit_xor}
use lib.Dec.{lit≤}
use lib.ListN.{length}
use Rattle.octets.specs.Bits.{digits_of, value_of, bits_of, octets_of}
use Rattle.octets.proofs.Digits.{turned_lt}
use Rattle.octets.proofs.Laws.{Octets, bits-bits, bits-length, bits-octets, octets-are, octets-bits}
use Rattle.octets.proofs.Turn.{turn_of, turn-digits}
use Rattle.octets.proofs.Words.{bits-append}
use Rattle.octets.proofs.Xor.{back}
use Rattle.remainder.specs.Division.{check_bits, generator}
use Rattle.remainder.specs.Register.{register_of}
use Rattle.remainder.proofs.Division.{register-append}
use Rattle.remainder.proofs.Errors.{check_bits_right, check-length, generator-degree, generator-odd}
use Rattle.remainder.proofs.Quotient.{register-lt, start-in}
use Rattle.remainder.proofs.Start.{run-one}
use Rattle.fcs.specs.Sequence.{ones, register, sequence_of, good}
use Rattle.fcs.proofs.Laws.{sequence-length, sequence-octets, turned-over, over-round}

left_lt : (s : List ℕ) → register s < 2 ^ 16
left_lt s = register-lt 16 generator (lit≤ tt) generator-degree ones (bits_of s) (lit≤ tt) (bits-bits s)

-- the register goes on behind octets
register-more : (s c : List ℕ) → register (s ++ c) ≡ register_of 16 generator (register s) (bits_of c)
register-more s c = ap (register_of 16 generator ones) (bits-append s c) ∙ register-append 16 generator ones (bits_of s) (bits_of c)

-- as bits, the check sequence is what is left, turned round, and sixteen ones
sequence-bits : (s : List ℕ) → bits_of (sequence_of s) ≡ digits_of 16 (bit_xor ones (turn_of 16 (register s)))
unfolding sequence_of
sequence-bits s =
    let r = register s in
    bits-octets 2 (check_bits 16 (ones - r)) (check-length 16 (ones - r)) (check_bits_right 16 (ones - r)) ∙ sym (turn-digits 16 (ones - r))
    ∙ ap (digits_of 16) (over-round r (left_lt s) ∙ sym (turned-over 16 (turn_of 16 r) (turned_lt 16 r)))

-- so what was left goes, and sixteen ones stay
pub good_left : (s : List ℕ) → register (s ++ sequence_of s) ≡ good
unfolding register_of digits_of
good_left s =
    let r = register s in
    let t = turn_of 16 r in
    register-more s (sequence_of s) ∙ ap (register_of 16 generator r) (sequence-bits s)
    ∙ start-in 16 generator (lit≤ tt) generator-degree 16 r (bit_xor ones t) (lit≤ tt) (left_lt s)
    ∙ ap (λ (x : ℕ). register_of 16 generator 0 (digits_of 16 x)) (back ones t)

-- and two octets that leave the good value are the check sequence
pub good-only : (s c : List ℕ) → length c ≡ 2 → Octets c → register (s ++ c) ≡ good → c ≡ sequence_of s
good-only s c l o e =
    let d = sequence_of s in
    let b : bits_of c ≡ bits_of d =
    run-one 16 generator (lit≤ tt) generator-degree generator-odd (register s) (bits_of c) (bits_of d) (left_lt s) (bits-bits c) (bits-bits d)
    (omega (arith, bits-length c, bits-length d, sequence-length s)) (sym (register-more s c) ∙ e ∙ sym (good_left s) ∙ register-more s d)
    (omega (arith, bits-length c)) in
    octets-are c (bits_of d) 2 l o b ∙ ap (λ (n : ℕ). octets_of n (bits_of d)) (sym (sequence-length s)) ∙ octets-bits d (sequence-octets s)

-- as RFC 1662 keeps its register: F0B8
pub good-turned : turn_of 16 good ≡ 0xF0B8
unfolding value_of digits_of
good-turned = refl
