-- A frame whose fields writing takes is a good one: sync, pad and check bits are right. Assumes nothing.
use mathlib.Core.Path.{◌≡◌, refl, ap, ◌∙◌, subst}
use mathlib.Core.Bool.{Bool, true, false, cond, not, ◌&&◌, ◌||◌}
use mathlib.Core.List.{List}
use Prim.Native.Nat.{ℕ, ◌≤◌}
use borrow.Author.Tests.{eqb-true, ltb-false, not-false}
use lib.Dec.{eqb, ltb}
use lib.IntN.{ℤ}
use lib.ListN.{length, drop}
use Rattle.answer.specs.Answer.{Refusal, answer}
use Rattle.answer.proofs.Laws.{none}
use Rattle.octets.specs.Bits.{value_of, bits_of, octets_of}
use Rattle.octets.proofs.Digits.{Bits}
use Rattle.octets.proofs.Laws.{Octets, bits-bits}
use Rattle.octets.proofs.Words.{octets-octets}
use Rattle.layout.specs.Places.{pad_field}
use Rattle.layout.specs.Frame.{training_bits, final_bits, field_of}
use Rattle.layout.specs.Refusals.{write_refusals, RightCheck, bit_refusals}
use Rattle.layout.proofs.RoundTrip.{training-laid, training-answers, final-laid, final-answers, sound}
use Rattle.layout.proofs.Check.{check_right}
use Rattle.sender.specs.Promises.{frame_octets}

module _ (kind count : ℕ) (cs : List ℤ) (a b : ℕ) (vendor frame : List ℕ) where
  abbrev R : List Refusal
  R = write_refusals kind count cs a b vendor frame

  -- nothing was refused
  module _ (e : answer R ≡ 0) where
    first : (eqb (length cs) 180 ≡ true) × (answer (drop 1 R) ≡ 0)
    first = let x = none 0 (not (eqb (length cs) 180)) (drop 1 R) e in (not-false _ x.0, x.1)

    second : (eqb (length vendor) 16 ≡ true) × (answer (drop 2 R) ≡ 0)
    second = let x = none 0 (not (eqb (length vendor) 16)) (drop 2 R) first.1 in (not-false _ x.0, x.1)

    third : (eqb (length frame) 529 ≡ true) × (answer (drop 3 R) ≡ 0)
    third = let x = none 0 (not (eqb (length frame) 529)) (drop 3 R) second.1 in (not-false _ x.0, x.1)

    count-right : (eqb kind 0 && (ltb count 128 || ltb 180 count)) ≡ false
    count-right =
        let y = none 1 (ltb 1 kind) (drop 4 R) third.1 in
        (none 2 (eqb kind 0 && (ltb count 128 || ltb 180 count)) (drop 5 R) y.1).0

    pub coefficients-whole : length cs ≡ 180
    coefficients-whole = eqb-true _ _ first.0

    pub vendor-whole : length vendor ≡ 16
    vendor-whole = eqb-true _ _ second.0

    pub room_whole : length frame ≡ 529
    room_whole = eqb-true _ _ third.0

    few : (eqb kind 0 ≡ true) → count ≤ 180
    few t = ltb-false 180 count (over (ltb count 128) (ltb 180 count) (rw t at count-right))
      where
        over : (p q : Bool) → (p || q) ≡ false → q ≡ false
        over true q f = absurd (mathlib.Core.Bool.true≢false f)
        over false q f = f

    pub count-few : kind ≡ 0 → count ≤ 180
    count-few k = few (ap (λ (n : ℕ). eqb n 0) k)

    -- reading its bits refuses nothing
    pub good : answer (bit_refusals (bits_of (frame_octets kind count cs a b vendor))) ≡ 0
    good = go (eqb kind 0) refl
      where
        l : length cs ≡ 180
        l = coefficients-whole

        v : length vendor ≡ 16
        v = vendor-whole

        go : (t : Bool) → eqb kind 0 ≡ t
            → answer (bit_refusals (bits_of (octets_of 529 (cond t (training_bits count cs a b vendor) (final_bits vendor))))) ≡ 0
        go true t = ap (λ (s : List ℕ). answer (bit_refusals s)) (training-laid count cs a b vendor (few t) l v) ∙ (training-answers count cs a b vendor (few t) l v).0
        go false t = ap (λ (s : List ℕ). answer (bit_refusals s)) (final-laid vendor v) ∙ (final-answers vendor v).0

    -- its octets are octets
    pub frame_small : Octets (frame_octets kind count cs a b vendor)
    frame_small = go (eqb kind 0) refl
      where
        l : length cs ≡ 180
        l = coefficients-whole

        v : length vendor ≡ 16
        v = vendor-whole

        laid-small : (bits : List ℕ) → bits_of (octets_of 529 bits) ≡ bits → Octets (octets_of 529 bits)
        laid-small bits e = octets-octets 529 bits (subst Bits e (bits-bits (octets_of 529 bits)))

        go : (t : Bool) → eqb kind 0 ≡ t → Octets (octets_of 529 (cond t (training_bits count cs a b vendor) (final_bits vendor)))
        go true t = laid-small _ (training-laid count cs a b vendor (few t) l v)
        go false t = laid-small _ (final-laid vendor v)

    pub frame-check : RightCheck (bits_of (frame_octets kind count cs a b vendor))
    frame-check = check_right (bits_of (frame_octets kind count cs a b vendor)) (bits-bits (frame_octets kind count cs a b vendor)) good

    pub pad-clear : value_of (field_of pad_field (bits_of (frame_octets kind count cs a b vendor))) ≡ 0
    pad-clear = (sound (bits_of (frame_octets kind count cs a b vendor)) good).clear
