-- What is written is read back; what is read with answer 0, its reserved bits zero, is what writing its fields gives; any message under its own
-- check bits answers 0. All over the definitions. Assumes nothing.
use mathlib.Core.Path.{◌≡◌, refl, sym, ap, ap₂, ◌∙◌}
use mathlib.Core.Bool.{Bool, true, false, ◌||◌}
use mathlib.Core.List.{List, ◌++◌, reverse, reverse-reverse}
use Prim.Native.Nat.{ℕ, zero, ◌+◌, ◌^◌, ◌≤◌, ◌<◌}
use native.Mathlib.Nat.{mod-eq_of_lt}
use native.Mathlib.Omega.{arith}
use borrow.Author.Tests.{eq-eqb, eqb-true, not-false}
use lib.Dec.{eqb, lit≤}
use lib.IntN.{ℤ, pos}
use lib.ListN.{length, get_or, take, drop, replicate, length-drop, length-replicate, length-reverse}
use lib.Seq.{take_all, length-take-le}
use lib.Signed.{mag}
use Rattle.answer.specs.Answer.{answer}
use Rattle.answer.proofs.Laws.{none}
use Rattle.octets.specs.Bits.{digits_of, value_of, bits_of, octets_of, part}
use Rattle.octets.specs.Signed.{numbers_in}
use Rattle.octets.proofs.Digits.{Bits, digits_value, value-digits, value-one, take-bits, drop_bits, zeros-bits, zeros-value, reverse_bits}
use Rattle.octets.proofs.Laws.{Octets, bits-octets, octets-bits, octets-length}
use Rattle.octets.proofs.Numbers.{numbers-length, numbers-back, numbers-again}
use Rattle.places.proofs.Fields.{span-split, span-fields, span-all}
use Rattle.remainder.specs.Division.{polynomial, check_bits, generator}
use Rattle.remainder.proofs.Division.{exists}
use Rattle.remainder.proofs.Errors.{check-value, generator-degree}
use Rattle.layout.specs.Places.{widths, sync_field, coefficients_field, a_field, b_field, vendor_field, reserved_field, check_field, pad_field}
use Rattle.layout.specs.Frame.{training_sync, final_sync, coefficient_bits, used, message, check_of, frame_bits, training_bits, final_bits, field_of}
use Rattle.layout.specs.Frame.{sync_word, message_of, coefficients_of}
use Rattle.ranges.specs.Ranges.{is_coefficient, every}
use Rattle.ranges.proofs.Laws.{mag-at}
use Rattle.layout.specs.Refusals.{has_sync, bit_refusals}
use Rattle.layout.proofs.Laws.{used-length, used-range, message-length, message-bits, frame-length, frame-bits, training-length, final-length}
use Rattle.layout.proofs.Laws.{training-bits, final-bits}
use Rattle.layout.proofs.Fields.{sync-field, message-field, check-field, pad-field, coefficients-field, a-field, b-field, vendor-field, reserved-field}

-- ---- a frame with any message has the right check bits and a clear pad

module _ (word m : List ℕ) (s : length word ≡ 14) (l : length m ≡ 4197) (bw : Bits word) (bm : Bits m) where
  abbrev F : List ℕ
  F = frame_bits word m

  pub laid_in : bits_of (octets_of 529 F) ≡ F
  laid_in = bits-octets 529 F (frame-length word m s l) (frame-bits word m bw bm)

  check-lt : check_of m < 2 ^ 16
  check-lt = (exists 16 generator (lit≤ tt) generator-degree m bm).below

  pub check_right : polynomial (field_of check_field F) ≡ check_of (message_of F)
  check_right = ap polynomial (check-field word m s l) ∙ check-value 16 (check_of m) check-lt ∙ sym (ap check_of (message-field word m s l))

  pub pad-clear : value_of (field_of pad_field F) ≡ 0
  unfolding value_of
  pad-clear = ap value_of (pad-field word m s l)

  -- what is answered turns on the sync word alone
  answer-is : (has_sync training_sync F || has_sync final_sync F) ≡ true → answer (bit_refusals F) ≡ 0
  answer-is k = simp k (simp (eq-eqb _ _ pad-clear, eq-eqb _ _ check_right))

final-other : eqb (value_of final_sync) (value_of training_sync) ≡ false
unfolding final_sync training_sync value_of
final-other = refl

same : (n : ℕ) → eqb n n ≡ true
same n = eq-eqb n n refl

word-length : (t : Bool) → length (sync_word t) ≡ 14
word-length true = training-length
word-length false = final-length

word-bits : (t : Bool) → Bits (sync_word t)
word-bits true = training-bits
word-bits false = final-bits

-- the word tells the kind, and is one of the two
word-known : (t : Bool) → (eqb (value_of (sync_word t)) (value_of training_sync) ≡ t)
    × ((eqb (value_of (sync_word t)) (value_of training_sync) || eqb (value_of (sync_word t)) (value_of final_sync)) ≡ true)
word-known true = (same (value_of training_sync), ap (λ (b : Bool). b || eqb (value_of training_sync) (value_of final_sync)) (same (value_of training_sync)))
word-known false = (final-other, ap₂ ◌||◌ final-other (same (value_of final_sync)))

-- ANY MESSAGE under its own check bits answers 0, behind either sync word, and is known by that word: reserved bits may be any, and so may
-- all of a final frame's payload
module _ (t : Bool) (m : List ℕ) (l : length m ≡ 4197) (bm : Bits m) where
  pub free : (answer (bit_refusals (frame_bits (sync_word t) m)) ≡ 0) × (has_sync training_sync (frame_bits (sync_word t) m) ≡ t)
  free =
      let e = ap value_of (sync-field (sync_word t) m (word-length t) l) in
      let k = word-known t in (
        answer-is (sync_word t) m (word-length t) l (word-bits t) bm
            (ap (λ (v : ℕ). eqb v (value_of training_sync) || eqb v (value_of final_sync)) e ∙ k.1),
        ap (λ (v : ℕ). eqb v (value_of training_sync)) e ∙ k.0,
      )

  -- in octets too
  pub free-laid : bits_of (octets_of 529 (frame_bits (sync_word t) m)) ≡ frame_bits (sync_word t) m
  free-laid = laid_in (sync_word t) m (word-length t) l (word-bits t) bm

-- ---- coefficients there and back

range-mag : (cs : List ℤ) → every is_coefficient cs ≡ true → (i : ℕ) → mag (get_or cs i (pos 0)) < 2 ^ 21
range-mag cs e i = omega (arith, mag-at 2097151 cs i e)

-- ---- a training frame that was written

module _ (count : ℕ) (cs : List ℤ) (a b : ℕ) (v : List ℕ) (n : count ≤ 180) (l : length cs ≡ 180) (lv : length v ≡ 16) where
  abbrev U : List ℤ
  U = used count cs

  abbrev M : List ℕ
  M = message U a b v (replicate 67 0)

  abbrev T : List ℕ
  T = training_bits count cs a b v

  U-length : length U ≡ 180
  U-length = used-length count cs n l

  M-length : length M ≡ 4197
  M-length = message-length a b v (replicate 67 0) lv refl U U-length

  M-bits : Bits M
  M-bits = message-bits U a b v (replicate 67 0) (zeros-bits 67)

  pub training-laid : bits_of (octets_of 529 T) ≡ T
  unfolding training_bits
  training-laid = laid_in training_sync M training-length M-length training-bits M-bits

  pub training-answers : (answer (bit_refusals T) ≡ 0) × (has_sync training_sync T ≡ true)
  unfolding training_bits
  training-answers = free true M M-length M-bits

  -- a field that holds a word's digits gives the word back
  word_back : (k w : ℕ) → field_of k T ≡ digits_of 21 w → w ≤ 2097151 → value_of (field_of k T) ≡ w
  word_back k w e h = ap value_of e ∙ value-digits 21 w ∙ mod-eq_of_lt (omega arith)

  pub a_back : a ≤ 2097151 → value_of (field_of a_field T) ≡ a
  unfolding training_bits
  a_back = word_back a_field a (a-field U a b v (replicate 67 0) U-length lv refl training_sync training-length)

  pub b-back : b ≤ 2097151 → value_of (field_of b_field T) ≡ b
  unfolding training_bits
  b-back = word_back b_field b (b-field U a b v (replicate 67 0) U-length lv refl training_sync training-length)

  pub vendor-back : Octets v → octets_of 16 (field_of vendor_field T) ≡ v
  unfolding training_bits
  vendor-back h =
      ap (octets_of 16) (vendor-field U a b v (replicate 67 0) U-length lv refl training_sync training-length)
      ∙ ap (λ (k : ℕ). octets_of k (bits_of v)) (sym lv) ∙ octets-bits v h

  pub reserved-back : field_of reserved_field T ≡ replicate 67 0
  unfolding training_bits
  reserved-back = reserved-field U a b v (replicate 67 0) U-length lv refl training_sync training-length

  pub used-back : every is_coefficient (take count cs) ≡ true → coefficients_of T ≡ U
  unfolding training_bits
  used-back h =
      ap (numbers_in 22 180) (coefficients-field U a b v (replicate 67 0) U-length lv refl training_sync training-length)
      ∙ ap (λ (k : ℕ). numbers_in 22 k (coefficient_bits U)) (sym U-length) ∙ numbers-back 22 (lit≤ tt) U (range-mag U (used-range count cs h))

-- ---- a final frame that was written

module _ (v : List ℕ) (lv : length v ≡ 16) where
  abbrev Z : List ℤ
  Z = replicate 180 (pos 0)

  abbrev N : List ℕ
  N = message Z 0 0 v (replicate 67 0)

  N-length : length N ≡ 4197
  N-length = message-length 0 0 v (replicate 67 0) lv refl Z (length-replicate 180 (pos 0))

  N-bits : Bits N
  N-bits = message-bits Z 0 0 v (replicate 67 0) (zeros-bits 67)

  pub final-laid : bits_of (octets_of 529 (final_bits v)) ≡ final_bits v
  unfolding final_bits
  final-laid = laid_in final_sync N final-length N-length final-bits N-bits

  pub final-answers : (answer (bit_refusals (final_bits v)) ≡ 0) × (has_sync training_sync (final_bits v) ≡ false)
  unfolding final_bits
  final-answers = free false N N-length N-bits

  pub final-vendor : Octets v → octets_of 16 (field_of vendor_field (final_bits v)) ≡ v
  unfolding final_bits
  final-vendor h =
      ap (octets_of 16) (vendor-field Z 0 0 v (replicate 67 0) (length-replicate 180 (pos 0)) lv refl final_sync final-length)
      ∙ ap (λ (k : ℕ). octets_of k (bits_of v)) (sym lv) ∙ octets-bits v h

-- ---- a frame that reads with answer 0

-- what an answer of 0 says of a frame's bits
pub record Sound (B : List ℕ) : Type 0 where
  pub known : (has_sync training_sync B || has_sync final_sync B) ≡ true
  pub clear : value_of (field_of pad_field B) ≡ 0
  pub checked : polynomial (field_of check_field B) ≡ check_of (message_of B)

pub sound : (B : List ℕ) → answer (bit_refusals B) ≡ 0 → Sound B
sound B e =
    let five = none 4 _ (drop 1 (bit_refusals B)) e in
    let six = none 5 _ (drop 2 (bit_refusals B)) five.1 in
    let seven = none 6 _ (drop 3 (bit_refusals B)) six.1 in
    record { known = not-false _ five.0; clear = eqb-true _ _ (not-false _ six.0); checked = eqb-true _ _ (not-false _ seven.0) }

module _ (B : List ℕ) (l : length B ≡ 4232) (h : Bits B) where
  pub field-length : (at n : ℕ) → at + n ≤ 4232 → length (part at n B) ≡ n
  field-length at n k = length-take-le n (drop at B) (omega (arith, length-drop at B))

  pub field-bits : (at n : ℕ) → Bits (part at n B)
  field-bits at n = take-bits n (drop at B) (drop_bits at B h)

  -- the frame is its parts, one behind the other
  parts : B ≡ field_of sync_field B ++ (message_of B ++ (field_of check_field B ++ field_of pad_field B))
  parts =
      sym (span-all widths B l) ∙ span-split widths B 0 1 8 (lit≤ tt) (lit≤ tt)
      ∙ ap (λ (x : List ℕ). field_of sync_field B ++ x)
      (span-split widths B 1 6 8 (lit≤ tt) (lit≤ tt) ∙ ap (λ (x : List ℕ). message_of B ++ x) (span-split widths B 6 7 8 (lit≤ tt) (lit≤ tt)))

  message-parts : message_of B ≡ field_of coefficients_field B ++ (field_of a_field B ++ (field_of b_field B ++ (field_of vendor_field B ++ field_of reserved_field B)))
  message-parts =
      span-fields widths B 5 1
      ∙ ap (λ (x : List ℕ). field_of coefficients_field B ++ (field_of a_field B ++ (field_of b_field B ++ (field_of vendor_field B ++ x))))
      (mathlib.Core.List.append-nil (field_of reserved_field B))

  -- a field is the digits of its value
  field-digits : (at n : ℕ) → at + n ≤ 4232 → digits_of n (value_of (part at n B)) ≡ part at n B
  field-digits at n k = ap (λ (i : ℕ). digits_of i (value_of (part at n B))) (sym (field-length at n k)) ∙ digits_value (part at n B) (field-bits at n)

  -- the message is that of its own fields
  pub message-is : message_of B ≡ message (coefficients_of B) (value_of (field_of a_field B)) (value_of (field_of b_field B))
      (octets_of 16 (field_of vendor_field B)) (field_of reserved_field B)
  unfolding message
  message-is =
      message-parts
      ∙ ap₂ ◌++◌ (sym (numbers-again 22 (lit≤ tt) 180 (field_of coefficients_field B) (field-length 14 3960 (lit≤ tt)) (field-bits 14 3960)))
      (ap₂ ◌++◌ (sym (field-digits 3974 21 (lit≤ tt)))
      (ap₂ ◌++◌ (sym (field-digits 3995 21 (lit≤ tt)))
      (ap (λ (x : List ℕ). x ++ field_of reserved_field B)
      (sym (bits-octets 16 (field_of vendor_field B) (field-length 4016 128 (lit≤ tt)) (field-bits 4016 128))))))

  -- a field of value 0 is zeros
  pub zeros-are : (at n : ℕ) → at + n ≤ 4232 → value_of (part at n B) ≡ 0 → part at n B ≡ replicate n 0
  zeros-are at n k e =
      value-one (part at n B) (replicate n 0) (field-bits at n) (zeros-bits n) (field-length at n k ∙ sym (length-replicate n zero)) (e ∙ sym (zeros-value n))

  -- where the check bits are right and the pad is clear, the frame is sync and message, written
  pub frame_is : Sound B → B ≡ frame_bits (field_of sync_field B) (message_of B)
  unfolding frame_bits
  frame_is s =
      let K = field_of check_field B in
      let k : K ≡ check_bits 16 (check_of (message_of B)) =
      sym (reverse-reverse K) ∙ ap reverse (sym (digits_value (reverse K) (reverse_bits K (field-bits 4211 16))) ∙ ap₂ digits_of
      (length-reverse K ∙ field-length 4211 16 (lit≤ tt)) s.checked) in
      parts ∙ ap₂ (λ (x y : List ℕ). field_of sync_field B ++ (message_of B ++ (x ++ y))) k (zeros-are 4227 5 (lit≤ tt) s.clear)

  -- the sync word of a training frame
  pub training-sync : has_sync training_sync B ≡ true → field_of sync_field B ≡ training_sync
  training-sync t = value-one (field_of sync_field B) training_sync (field-bits 0 14) training-bits (field-length 0 14 (lit≤ tt) ∙ sym training-length)
      (eqb-true _ _ t)

  pub final-sync : has_sync final_sync B ≡ true → field_of sync_field B ≡ final_sync
  final-sync t = value-one (field_of sync_field B) final_sync (field-bits 0 14) final-bits (field-length 0 14 (lit≤ tt) ∙ sym final-length) (eqb-true _ _ t)

  -- what writing the frame's own fields with count 180 gives
  abbrev again : List ℕ
  again = training_bits 180 (coefficients_of B) (value_of (field_of a_field B)) (value_of (field_of b_field B)) (octets_of 16 (field_of vendor_field B))

  -- a training frame that answers 0 is that, where its reserved bits are zero
  pub training-again : Sound B → has_sync training_sync B ≡ true → value_of (field_of reserved_field B) ≡ 0 → B ≡ again
  unfolding training_bits
  training-again s t z =
      let cs = coefficients_of B in
      let all : used 180 cs ≡ cs = mathlib.Core.List.append-nil (take 180 cs)
      ∙ take_all 180 cs (omega (arith, numbers-length 22 180 (field_of coefficients_field B))) in
      frame_is s
      ∙ ap₂ frame_bits (training-sync t)
      (message-is
      ∙ ap₂ (λ (c : List ℤ) (r : List ℕ). message c (value_of (field_of a_field B)) (value_of (field_of b_field B)) (octets_of 16 (field_of vendor_field B)) r) (sym all)
      (zeros-are 4144 67 (lit≤ tt) z))

  -- and where one is set it is not
  pub only-clear-again : B ≡ again → value_of (field_of reserved_field B) ≡ 0
  only-clear-again e =
      ap (λ (x : List ℕ). value_of (field_of reserved_field x)) e
      ∙ ap value_of (reserved-back 180 (coefficients_of B) (value_of (field_of a_field B)) (value_of (field_of b_field B)) (octets_of 16 (field_of vendor_field B)) (lit≤ tt)
      (numbers-length 22 180 (field_of coefficients_field B)) (octets-length 16 (field_of vendor_field B)))
      ∙ zeros-value 67
