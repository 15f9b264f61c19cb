-- Laws of writing a frame, field behind field. Assumes nothing.
use mathlib.Core.Path.{◌≡◌, refl, sym, ap, ap₂, ◌∙◌, subst}
use mathlib.Core.List.{List, ◌++◌, append_assoc, reverse}
use Prim.Native.Nat.{ℕ, ◌+◌, ◌-◌, ◌*◌, ◌≤◌, ◌<◌}
use native.Mathlib.Omega.{arith}
use lib.Dec.{lit≤}
use lib.IntN.{ℤ, pos}
use lib.ListN.{length, get_or, take, drop, replicate, length-append, length-drop, get_or-append, get_or-replicate}
use lib.Seq.{get_or-take, get_or-append-add, length-take-le, sets-eq, take_at, take_all, take-add}
use Rattle.octets.specs.Bits.{digits_of, value_of, bits_of, octets_of, part, laid}
use Rattle.octets.proofs.Digits.{Bits, append_bits, digits-length, digits-bits, zeros-bits, take-bits, drop_bits}
use Rattle.octets.proofs.Laws.{bits-length, bits-bits, laid-bits, laid_next, laid_end}
use Rattle.octets.proofs.Numbers.{number-length, number-bits, number_append, number-zeros}
use Rattle.octets.proofs.Fields.{part-is}
use Rattle.remainder.specs.Division.{check_bits, generator}
use Rattle.remainder.specs.Promises.{CheckBits}
use Rattle.remainder.proofs.Division.{computed}
use Rattle.remainder.proofs.Errors.{generator-degree, check-length, check_bits_right}
use Rattle.layout.specs.Frame.{training_sync, final_sync, coefficient_bits, used, message, check_of, frame_bits, training_bits, final_bits}
use Rattle.layout.proofs.Laws.{used-length, tail-length, tail-bits, check-put, training-digits, final-digits}
use Rattle.layout.proofs.Laws.{training-length, final-length, training-bits, final-bits}

-- ---- the coefficients in use

module _ (count : ℕ) (cs : List ℤ) (n : count ≤ 180) (l : length cs ≡ 180) where
  head-length : length (take count cs) ≡ count
  head-length = length-take-le count cs (omega arith)

  pub used-at : (k : ℕ) → k < count → get_or cs k (pos 0) ≡ get_or (used count cs) k (pos 0)
  used-at k h =
      sym (get_or-append (take count cs) (replicate (180 - count) (pos 0)) (pos 0) k (omega (arith, head-length)) ∙ get_or-take count cs k (pos 0) h)

  pub unused-at : (k : ℕ) → count ≤ k → k < 180 → pos 0 ≡ get_or (used count cs) k (pos 0)
  unused-at k h m =
      let e : k ≡ length (take count cs) + (k - count) = omega (arith, head-length) in
      sym (ap (λ (i : ℕ). get_or (used count cs) i (pos 0)) e
      ∙ get_or-append-add (take count cs) (replicate (180 - count) (pos 0)) (k - count) (pos 0)
      ∙ get_or-replicate (180 - count) (k - count) (pos 0) (pos 0) (omega arith))

-- those in use, and zeros behind them
module _ (f : List ℕ) (cs : List ℤ) (count : ℕ) (n : count ≤ 180) (l : length cs ≡ 180) where
  used-bits : coefficient_bits (take count cs) ++ replicate (3960 - 22 * count) 0 ≡ coefficient_bits (used count cs)
  used-bits =
      let m : 3960 - 22 * count ≡ 22 * (180 - count) = omega arith in
      sym (number_append 22 (take count cs) (replicate (180 - count) (pos 0))
      ∙ ap (λ (x : List ℕ). coefficient_bits (take count cs) ++ x) (number-zeros 22 (180 - count) ∙ ap (λ (k : ℕ). replicate k 0) (sym m)))

  pub coefficients-put : (s t : List ℕ) → s ≡ laid f 14 (coefficient_bits (take count cs))
      → t ≡ laid s (14 + 22 * count) (replicate (3960 - 22 * count) 0) → t ≡ laid f 14 (coefficient_bits (used count cs))
  coefficients-put s t e₁ e₂ =
      let U = coefficient_bits (take count cs) in
      let p : 14 + length U ≡ 14 + 22 * count = ap (λ (k : ℕ). 14 + k) (number-length 22 (take count cs) ∙ ap (λ (k : ℕ). 22 * k) (head-length count cs n l)) in
      laid_next f 14 U (replicate (3960 - 22 * count) 0) (14 + 22 * count) (number-bits 22 (take count cs)) p e₁ e₂ ∙ ap (laid f 14) used-bits

-- ---- field behind field

-- what `finish` puts behind sync and coefficients
module _ (s v : List ℕ) (a b : ℕ) (l : length s ≡ 529) (lv : length v ≡ 16) where
  abbrev B : List ℕ
  B = bits_of s

  abbrev T : List ℕ
  T = digits_of 21 a ++ (digits_of 21 b ++ (bits_of v ++ replicate 67 0))

  B-length : length B ≡ 4232
  B-length = bits-length s ∙ ap (λ (n : ℕ). 8 * n) l

  T-length : length T ≡ 237
  T-length = tail-length a b v (replicate 67 0) lv refl

  T-bits : Bits T
  T-bits = tail-bits a b v (replicate 67 0) (zeros-bits 67)

  -- the four fields under the check bits
  pub four : (s₁ s₂ s₃ s₄ : List ℕ) → s₁ ≡ laid s 3974 (digits_of 21 a) → s₂ ≡ laid s₁ 3995 (digits_of 21 b)
      → s₃ ≡ laid s₂ 4016 (part 0 128 (bits_of v)) → s₄ ≡ laid s₃ 4144 (replicate 67 0) → s₄ ≡ laid s 3974 T
  four s₁ s₂ s₃ s₄ e₁ e₂ e₃ e₄ =
      let Da = digits_of 21 a in
      let Db = digits_of 21 b in
      let Vb = bits_of v in
      let all : part 0 128 Vb ≡ Vb = take_all 128 Vb (omega (arith, bits-length v)) in
      let n₁ : 3974 + length Da ≡ 3995 = omega (arith, digits-length 21 a) in
      let n₂ : 3974 + length (Da ++ Db) ≡ 4016 = omega (arith, length-append Da Db, digits-length 21 a, digits-length 21 b) in
      let n₃ : 3974 + length (Da ++ Db ++ Vb) ≡ 4144 = omega (arith, length-append (Da ++ Db) Vb, n₂, bits-length v) in
      let b₂ = append_bits Da Db (digits-bits 21 a) (digits-bits 21 b) in
      let f₂ = laid_next s 3974 Da Db 3995 (digits-bits 21 a) n₁ e₁ e₂ in
      let f₃ = laid_next s 3974 (Da ++ Db) Vb 4016 b₂ n₂ f₂ (e₃ ∙ ap (laid s₂ 4016) all) in
      laid_next s 3974 (Da ++ Db ++ Vb) (replicate 67 0) 4144 (append_bits (Da ++ Db) Vb b₂ (bits-bits v)) n₃ f₃ e₄
      ∙ ap (laid s 3974) (append_assoc (Da ++ Db) Vb (replicate 67 0) ∙ append_assoc Da Db (Vb ++ replicate 67 0))

  -- sync and coefficients as they stand
  abbrev S : List ℕ
  S = part 0 14 B

  abbrev C : List ℕ
  C = part 14 3960 B

  S-length : length S ≡ 14
  S-length = length-take-le 14 B (omega (arith, B-length))

  C-length : length C ≡ 3960
  C-length = length-take-le 3960 (drop 14 B) (omega (arith, length-drop 14 B, B-length))

  front : take 3974 B ≡ S ++ C
  front = take-add 14 3960 B

  CT-length : length (C ++ T) ≡ 4197
  CT-length = length-append C T ∙ ap₂ ◌+◌ C-length T-length

  CT-bits : Bits (C ++ T)
  CT-bits = append_bits C T (take-bits 3960 (drop 14 B) (drop_bits 14 B (bits-bits s))) T-bits

  -- the bits that the check bits run over
  pub under-check : (s₄ : List ℕ) → s₄ ≡ laid s 3974 T → part 14 4197 (bits_of s₄) ≡ C ++ T
  under-check s₄ e =
      let R = drop (3974 + length T) B in
      ap (part 14 4197)
      (ap bits_of e ∙ laid-bits s 3974 T T-bits ∙ sets-eq T B 3974 (omega (arith, B-length, T-length))
      ∙ ap (λ (l : List ℕ). l ++ T ++ R) front ∙ ap (λ (l : List ℕ). l ++ R) (append_assoc S C T) ∙ append_assoc S (C ++ T) R)
      ∙ part-is S (C ++ T) R 14 4197 S-length CT-length

  -- all of it
  pub finished : (s₄ s₅ s₆ : List ℕ) (r c : ℕ) → s₄ ≡ laid s 3974 T → CheckBits s₄ 14 4197 r → c ≡ value_of (reverse (digits_of 16 r))
      → s₅ ≡ laid s₄ 4211 (digits_of 16 c) → s₆ ≡ laid s₅ 4227 (replicate 5 0) → s₆ ≡ octets_of 529 (frame_bits S (C ++ T))
  unfolding frame_bits
  finished s₄ s₅ s₆ r c e₄ d t e₅ e₆ =
      let K = check_bits 16 (check_of (C ++ T)) in
      let Z : List ℕ = replicate 5 0 in
      let m = under-check s₄ e₄ in
      let r-is : r ≡ check_of (C ++ T) =
      computed 16 generator (lit≤ tt) generator-degree (part 14 4197 (bits_of s₄)) r (subst Bits (sym m) CT-bits) d ∙ ap check_of m in
      let put : digits_of 16 c ≡ K = ap (digits_of 16) t ∙ check-put r ∙ ap (check_bits 16) r-is in
      let n₅ : 3974 + length T ≡ 4211 = omega (arith, T-length) in
      let n₆ : 3974 + length (T ++ K) ≡ 4227 = omega (arith, length-append T K, T-length, check-length 16 (check_of (C ++ T))) in
      let f₅ = laid_next s 3974 T K 4211 T-bits n₅ e₄ (e₅ ∙ ap (laid s₄ 4211) put) in
      let f₆ = laid_next s 3974 (T ++ K) Z 4227 (append_bits T K T-bits (check_bits_right 16 (check_of (C ++ T)))) n₆ f₅ e₆ in
      let n : 3974 + length (T ++ K ++ Z) ≡ 8 * length s = omega (arith, length-append (T ++ K) Z, n₆, l) in
      f₆ ∙ laid_end s 3974 (T ++ K ++ Z) n
      ∙ ap₂ octets_of l
      (ap₂ ◌++◌ front (append_assoc T K Z) ∙ append_assoc S C (T ++ (K ++ Z)) ∙ ap (λ (x : List ℕ). S ++ x) (sym (append_assoc C T (K ++ Z))))

-- ---- the two frames

-- sync, then 3,960 bits, then what `finish` puts
module _ (f v word X : List ℕ) (a b : ℕ) (lf : length f ≡ 529) (lw : length word ≡ 14) (lx : length X ≡ 3960) (bw : Bits word) (bx : Bits X) where
  parts-put : (s : List ℕ) → s ≡ laid f 0 (word ++ X) → (part 0 14 (bits_of s) ≡ word) × (part 14 3960 (bits_of s) ≡ X)
  parts-put s e =
      let W = word ++ X in
      let R = drop (0 + length W) (bits_of f) in
      let n : length W ≡ 3974 = length-append word X ∙ ap₂ ◌+◌ lw lx in
      let c : bits_of s ≡ word ++ (X ++ R) =
      ap bits_of e ∙ laid-bits f 0 W (append_bits word X bw bx) ∙ sets-eq W (bits_of f) 0 (omega (arith, bits-length f)) ∙ append_assoc word X R in
      (ap (part 0 14) c ∙ take_at word (X ++ R) 14 lw, ap (part 14 3960) c ∙ part-is word X R 14 3960 lw lx)

  pub put : (s₁ s₂ t : List ℕ) → s₁ ≡ laid f 0 word → s₂ ≡ laid s₁ 14 X
      → t ≡ octets_of 529 (frame_bits (part 0 14 (bits_of s₂)) (part 14 3960 (bits_of s₂) ++ (digits_of 21 a ++ (digits_of 21 b ++ (bits_of v ++ replicate 67 0)))))
      → t ≡ octets_of 529 (frame_bits word (X ++ (digits_of 21 a ++ (digits_of 21 b ++ (bits_of v ++ replicate 67 0)))))
  put s₁ s₂ t e₁ e₂ e =
      let n : 0 + length word ≡ 14 = omega arith in
      let p = parts-put s₂ (laid_next f 0 word X 14 bw n e₁ e₂) in
      e ∙ ap₂ (λ (x y : List ℕ). octets_of 529 (frame_bits x (y ++ (digits_of 21 a ++ (digits_of 21 b ++ (bits_of v ++ replicate 67 0)))))) p.0 p.1

module _ (f v : List ℕ) (lf : length f ≡ 529) (s₁ s₂ t : List ℕ) where
  pub training-put : (count : ℕ) (cs : List ℤ) (a b : ℕ) → count ≤ 180 → length cs ≡ 180
      → s₁ ≡ laid f 0 (digits_of 14 0x359f) → s₂ ≡ laid s₁ 14 (coefficient_bits (used count cs))
      → t ≡ octets_of 529 (frame_bits (part 0 14 (bits_of s₂)) (part 14 3960 (bits_of s₂) ++ (digits_of 21 a ++ (digits_of 21 b ++ (bits_of v ++ replicate 67 0)))))
      → t ≡ octets_of 529 (training_bits count cs a b v)
  unfolding training_bits message
  training-put count cs a b h l e₁ e₂ e =
      let U = used count cs in
      put f v training_sync (coefficient_bits U) a b lf training-length (number-length 22 U ∙ ap (λ (n : ℕ). 22 * n) (used-length count cs h l)) training-bits
      (number-bits 22 U) s₁ s₂ t (e₁ ∙ ap (laid f 0) training-digits) e₂ e

  pub final-put : s₁ ≡ laid f 0 (digits_of 14 0x3e6b) → s₂ ≡ laid s₁ 14 (replicate 3960 0)
      → t ≡ octets_of 529 (frame_bits (part 0 14 (bits_of s₂)) (part 14 3960 (bits_of s₂) ++ (digits_of 21 0 ++ (digits_of 21 0 ++ (bits_of v ++ replicate 67 0)))))
      → t ≡ octets_of 529 (final_bits v)
  unfolding final_bits message
  final-put e₁ e₂ e =
      let Z : List ℤ = replicate 180 (pos 0) in
      put f v final_sync (coefficient_bits Z) 0 0 lf final-length (number-length 22 Z) final-bits (number-bits 22 Z) s₁ s₂ t
      (e₁ ∙ ap (laid f 0) final-digits) (e₂ ∙ ap (laid s₁ 14) (sym (number-zeros 22 180))) e
