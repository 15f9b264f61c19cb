-- Laws of numbers in two's complement one after the other, over the width. Assumes nothing.
use mathlib.Core.Path.{◌≡◌, refl, sym, ap, ap₂, ◌∙◌, subst}
use mathlib.Core.List.{List, [], ◌∷◌, ◌++◌, append_assoc, append-nil}
use Prim.Native.Nat.{ℕ, zero, suc, ◌+◌, ◌-◌, ◌*◌, ◌^◌, ◌≤◌, ◌<◌}
use native.Mathlib.Nat.{mod-eq_of_lt, mul-suc, mul-zero}
use native.Mathlib.Numerals.{add-one}
use native.Mathlib.Omega.{arith}
use lib.IntN.{ℤ, pos}
use lib.ListN.{length, get_or, take, drop, replicate, length-append, length-drop, take-append-drop, replicate-append-replicate}
use lib.Pow.{pow_pos}
use lib.Seq.{take_at, drop_at, length-take-le, take-suc}
use lib.Signed.{mag}
use Rattle.octets.specs.Bits.{digits_of, value_of, laid}
use Rattle.octets.specs.Signed.{signed_of, twos_of, number_bits, numbers_in}
use Rattle.octets.proofs.Digits.{Bits, nil-bits, append_bits, take-bits, drop_bits, digits-length, digits-bits, digits_value, value-digits, value-lt, zeros-digits}
use Rattle.octets.proofs.Complement.{twos-lt, signed-twos, twos-signed}
use Rattle.octets.proofs.Laws.{laid_next}

module _ (w : ℕ) where
  pub number-length : (zs : List ℤ) → length (number_bits w zs) ≡ w * length zs
  unfolding number_bits
  number-length [] = sym (mul-zero w)
  number-length (z ∷ zs) =
      length-append (digits_of w (twos_of w z)) (number_bits w zs)
      ∙ ap₂ ◌+◌ (digits-length w (twos_of w z)) (number-length zs) ∙ omega (arith, mul-suc w (length zs))

  pub number-bits : (zs : List ℤ) → Bits (number_bits w zs)
  unfolding number_bits
  number-bits [] = nil-bits
  number-bits (z ∷ zs) = append_bits (digits_of w (twos_of w z)) (number_bits w zs) (digits-bits w (twos_of w z)) (number-bits zs)

  pub number_append : (xs ys : List ℤ) → number_bits w (xs ++ ys) ≡ number_bits w xs ++ number_bits w ys
  unfolding number_bits
  number_append [] ys = refl
  number_append (x ∷ xs) ys =
      ap (λ (l : List ℕ). digits_of w (twos_of w x) ++ l) (number_append xs ys)
      ∙ sym (append_assoc (digits_of w (twos_of w x)) (number_bits w xs) (number_bits w ys))

  pub number-none : [] ≡ number_bits w []
  unfolding number_bits
  number-none = refl

  -- numbers that are zero
  pub number-zeros : (m : ℕ) → number_bits w (replicate m (pos 0)) ≡ replicate (w * m) 0
  unfolding number_bits twos_of
  number-zeros zero = ap (λ (k : ℕ). replicate k 0) (sym (mul-zero w))
  number-zeros (suc m) =
      let n : w + w * m ≡ w * suc m = omega (arith, mul-suc w m) in
      ap₂ ◌++◌ (ap (digits_of w) (mod-eq_of_lt (pow_pos w)) ∙ zeros-digits w) (number-zeros m)
      ∙ replicate-append-replicate w (w * m) 0 ∙ ap (λ (k : ℕ). replicate k 0) n

  number-one : (z : ℤ) → number_bits w (z ∷ []) ≡ digits_of w (twos_of w z)
  unfolding number_bits
  number-one z = append-nil (digits_of w (twos_of w z))

  -- one number more
  pub number_more : (zs : List ℤ) (k : ℕ) → k < length zs
      → number_bits w (take (k + 1) zs) ≡ number_bits w (take k zs) ++ digits_of w (twos_of w (get_or zs k (pos 0)))
  number_more zs k h =
      let z = get_or zs k (pos 0) in
      sym (ap (λ (l : List ℕ). number_bits w (take k zs) ++ l) (sym (number-one z)) ∙ sym (number_append (take k zs) (z ∷ []))
      ∙ ap (number_bits w) (sym (take-suc zs k (pos 0) h) ∙ ap (λ (i : ℕ). take i zs) (sym (add-one k))))

  -- one number more, laid behind the first k of zs
  pub number-next : (s₀ : List ℕ) (at : ℕ) (zs : List ℤ) (k p : ℕ) {s t : List ℕ} → k < length zs → at + w * k ≡ p → s ≡ laid s₀ at (number_bits w (take k zs))
      → t ≡ laid s p (digits_of w (twos_of w (get_or zs k (pos 0)))) → t ≡ laid s₀ at (number_bits w (take (k + 1) zs))
  number-next s₀ at zs k p h m e g =
      let z = get_or zs k (pos 0) in
      let L = number_bits w (take k zs) in
      let n : at + length L ≡ p = ap (λ (i : ℕ). at + i) (number-length (take k zs) ∙ ap (λ (i : ℕ). w * i) (length-take-le k zs (omega arith))) ∙ m in
      laid_next s₀ at L (digits_of w (twos_of w z)) p (number-bits (take k zs)) n e g ∙ ap (laid s₀ at) (sym (number_more zs k h))

  pub numbers-length : (n : ℕ) (bits : List ℕ) → length (numbers_in w n bits) ≡ n
  unfolding numbers_in
  numbers-length zero bits = refl
  numbers-length (suc n) bits = ap suc (numbers-length n (drop w bits))

  -- there and back
  module _ (hw : 1 ≤ w) where
    pub numbers-back : (zs : List ℤ) → ((i : ℕ) → mag (get_or zs i (pos 0)) < 2 ^ (w - 1)) → numbers_in w (length zs) (number_bits w zs) ≡ zs
    unfolding numbers_in number_bits
    numbers-back [] h = refl
    numbers-back (z ∷ zs) h =
        let D = digits_of w (twos_of w z) in
        ap₂ (λ (x : ℤ) (y : List ℤ). x ∷ y)
        (ap (λ (x : List ℕ). signed_of w (value_of x)) (take_at D (number_bits w zs) w (digits-length w (twos_of w z)))
        ∙ ap (signed_of w) (value-digits w (twos_of w z) ∙ mod-eq_of_lt (twos-lt w z))
        ∙ signed-twos w z hw (h 0))
        (ap (numbers_in w (length zs)) (drop_at D (number_bits w zs) w (digits-length w (twos_of w z))) ∙ numbers-back zs (λ i. h (suc i)))

    pub numbers-again : (n : ℕ) (bits : List ℕ) → length bits ≡ w * n → Bits bits → number_bits w (numbers_in w n bits) ≡ bits
    unfolding numbers_in number_bits
    numbers-again zero [] e h = refl
    numbers-again zero (b ∷ bs) e h = absurd (omega (arith, mul-zero w))
    numbers-again (suc n) bits e h =
        let T = take w bits in
        let l : length T ≡ w = length-take-le w bits (omega (arith, mul-suc w n)) in
        let lt : value_of T < 2 ^ w = subst (λ (k : ℕ). value_of T < 2 ^ k) l (value-lt T (take-bits w bits h)) in
        ap₂ ◌++◌
        (ap (digits_of w) (twos-signed w (value_of T) hw lt) ∙ ap (λ (k : ℕ). digits_of k (value_of T)) (sym l) ∙ digits_value T (take-bits w bits h))
        (numbers-again n (drop w bits) (length-drop w bits ∙ omega (arith, mul-suc w n)) (drop_bits w bits h))
        ∙ take-append-drop w bits
