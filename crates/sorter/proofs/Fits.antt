-- A card's texts fit the sorter's rooms, so that nothing is cut there. Assumes nothing.
use mathlib.Core.Bool.{Bool, true, false, cond}
use mathlib.Core.List.{List}
use Prim.Native.Nat.{ℕ, zero, suc, ◌+◌, ◌≤◌}
use native.Mathlib.Omega.{arith}
use lib.Dec.{lit≤}
use lib.ListN.{length, drop}
use Rattle.answer.specs.Answer.{answer}
use Rattle.octets.specs.Bits.{bits_of}
use Rattle.octets.proofs.Digits.{Bits, drop_bits, value-part}
use Rattle.octets.proofs.Laws.{bits-bits, octets-length}
use Rattle.octets.proofs.Numbers.{numbers-length}
use Rattle.layout.specs.Places.{coefficients_field, vendor_field}
use Rattle.layout.specs.Frame.{training_sync, field_of, coefficients_of}
use Rattle.layout.specs.Refusals.{has_sync, check_refusals}
use Rattle.highest.proofs.Laws.{highest-within}
use Rattle.card.specs.Ranks.{unreadable, good}
use Rattle.cardline.specs.Line.{card_line, reference_line}
use Rattle.cardline.proofs.Fits.{line-length, training-length, final-length, none-length, reference-length}
use Rattle.verdict.specs.declared.Customer.{Customer}
use Rattle.verdict.specs.Verdict.{octets_of, refused_verdict, training_verdict, final_verdict, judged, verdict_of}
use Rattle.verdict.proofs.Ranks.{within}

-- a card's line is at most 900 octets longer than its name
pub line-fits : (name frame : List ℕ) (k : Customer) → length (card_line name (verdict_of frame k)) ≤ length name + 900
unfolding verdict_of judged
line-fits name frame k = go (answer (check_refusals frame)) (within frame k)
  where
    B : List ℕ
    B = bits_of frame

    from : (at : ℕ) → Bits (drop at B)
    from at = drop_bits at B (bits-bits frame)

    o : ℕ
    o = octets_of frame

    small : o ≤ 530
    small = omega arith

    read_length : (t : Bool) → (cond t (training_verdict o B k) (final_verdict o B k)).rank ≤ good
        → length (card_line name (cond t (training_verdict o B k) (final_verdict o B k))) ≤ length name + 900
    read_length true r =
        line-length name (training_verdict o B k) r small
        (training-length _ _ _ _ (omega (arith, highest-within (coefficients_of B), numbers-length 22 180 (field_of coefficients_field B)))
        (omega (arith, value-part 21 (drop 3974 B) (from 3974))) (omega (arith, value-part 21 (drop 3995 B) (from 3995)))
        (octets-length 16 (field_of vendor_field B)))
    read_length false r = line-length name (final_verdict o B k) r small (final-length _ (octets-length 16 (field_of vendor_field B)))

    go : (n : ℕ) → (judged n o B k).rank ≤ good → length (card_line name (judged n o B k)) ≤ length name + 900
    go zero r = read_length (has_sync training_sync B) r
    go (suc n) r = line-length name (refused_verdict (suc n) o k) r small none-length

pub unread-fits : (name : List ℕ) (k : Customer) → length (card_line name (refused_verdict unreadable 0 k)) ≤ length name + 900
unread-fits name k = line-length name (refused_verdict unreadable 0 k) (lit≤ tt) (lit≤ tt) none-length

-- ---- a reference that does not serve

octets-small : (n o : ℕ) (bits : List ℕ) (k : Customer) → o ≤ 530 → (judged n o bits k).octets ≤ 530
unfolding judged
octets-small zero o bits k h = pick (has_sync training_sync bits)
  where
    pick : (t : Bool) → (cond t (training_verdict o bits k) (final_verdict o bits k)).octets ≤ 530
    pick true = h
    pick false = h
octets-small (suc n) o bits k h = h

pub reference-fits : (name frame : List ℕ) (k : Customer) → length (reference_line name (verdict_of frame k)) ≤ length name + 600
unfolding verdict_of
reference-fits name frame k =
    reference-length name (verdict_of frame k) (within frame k) (octets-small (answer (check_refusals frame)) (octets_of frame) (bits_of frame) k (omega arith))

pub no-reference-fits : (name : List ℕ) (k : Customer) → length (reference_line name (refused_verdict unreadable 0 k)) ≤ length name + 600
no-reference-fits name k = reference-length name (refused_verdict unreadable 0 k) (lit≤ tt) (lit≤ tt)
