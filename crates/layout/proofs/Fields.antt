-- Each field of a frame stands at its place. Assumes nothing.
use mathlib.Core.Path.{◌≡◌, sym, ap, ◌∙◌}
use mathlib.Core.List.{List, [], ◌∷◌, ◌++◌, append_assoc, append-nil}
use Prim.Native.Nat.{ℕ, ◌*◌}
use lib.IntN.{ℤ}
use lib.ListN.{length, get_or, replicate}
use Rattle.octets.specs.Bits.{digits_of, bits_of}
use Rattle.octets.proofs.Digits.{digits-length}
use Rattle.octets.proofs.Laws.{bits-length}
use Rattle.octets.proofs.Numbers.{number-length}
use Rattle.places.specs.Places.{field_in, joined, widths_of}
use Rattle.places.proofs.Fields.{laid-back}
use Rattle.remainder.specs.Division.{check_bits}
use Rattle.layout.specs.Places.{widths, sync_field, coefficients_field, a_field, b_field, vendor_field, reserved_field, check_field, pad_field}
use Rattle.layout.specs.Frame.{coefficient_bits, message, check_of, frame_bits, field_of, message_of}
use Rattle.remainder.proofs.Errors.{check-length}

-- bits that are fields one behind the other, where the widths are known to be theirs
piece : (ws bits : List ℕ) (ps : List (List ℕ)) → ws ≡ widths_of ps → bits ≡ joined ps → (k : ℕ) → field_in ws k bits ≡ get_or ps k []
piece ws bits ps e f k = ap (field_in ws k) f ∙ laid-back ws ps e k

module _ (word m : List ℕ) (s : length word ≡ 14) (l : length m ≡ 4197) where
  abbrev F : List ℕ
  F = frame_bits word m

  abbrev c : List ℕ
  c = check_bits 16 (check_of m)

  -- sync, the message, its check bits and the pad
  quarter : (k : ℕ) → field_in (14 ∷ 4197 ∷ 16 ∷ 5 ∷ []) k F ≡ get_or (word ∷ m ∷ c ∷ replicate 5 0 ∷ []) k []
  unfolding frame_bits
  quarter =
      piece (14 ∷ 4197 ∷ 16 ∷ 5 ∷ []) F (word ∷ m ∷ c ∷ replicate 5 0 ∷ []) (rw (s, l, check-length 16 (check_of m)))
      (ap (λ (e : List ℕ). word ++ (m ++ (c ++ e))) (sym (append-nil (replicate 5 0))))

  pub sync-field : field_of sync_field F ≡ word
  sync-field = quarter 0

  pub message-field : message_of F ≡ m
  message-field = quarter 1

  pub check-field : field_of check_field F ≡ c
  check-field = quarter 2

  pub pad-field : field_of pad_field F ≡ replicate 5 0
  pad-field = quarter 3

module _ (cs : List ℤ) (a b : ℕ) (given rest : List ℕ) (l : length cs ≡ 180) (v : length given ≡ 16) (r : length rest ≡ 67) where
  abbrev m : List ℕ
  m = message cs a b given rest

  module _ (word : List ℕ) (s : length word ≡ 14) where
    abbrev pieces : List (List ℕ)
    pieces = word ∷ coefficient_bits cs ∷ digits_of 21 a ∷ digits_of 21 b ∷ bits_of given ∷ rest ∷ check_bits 16 (check_of m) ∷ replicate 5 0 ∷ []

    their-lengths : widths ≡ widths_of pieces
    their-lengths =
        rw (
          s,
          number-length 22 cs ∙ ap (λ (n : ℕ). 22 * n) l,
          digits-length 21 a,
          digits-length 21 b,
          bits-length given ∙ ap (λ (n : ℕ). 8 * n) v,
          r,
          check-length 16 (check_of m),
        )

    -- every field is its piece
    pub field : (k : ℕ) → field_of k (frame_bits word m) ≡ get_or pieces k []
    unfolding frame_bits message
    field = piece widths (frame_bits word m) pieces their-lengths (simp (append_assoc, append-nil))

    pub coefficients-field : field_of coefficients_field (frame_bits word m) ≡ coefficient_bits cs
    coefficients-field = field coefficients_field

    pub a-field : field_of a_field (frame_bits word m) ≡ digits_of 21 a
    a-field = field a_field

    pub b-field : field_of b_field (frame_bits word m) ≡ digits_of 21 b
    b-field = field b_field

    pub vendor-field : field_of vendor_field (frame_bits word m) ≡ bits_of given
    vendor-field = field vendor_field

    pub reserved-field : field_of reserved_field (frame_bits word m) ≡ rest
    reserved-field = field reserved_field
