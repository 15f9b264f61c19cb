-- Every error of one, two or three bits, and every burst of up to k, in a message with its k check bits is seen: for every generator of degree
-- k with a constant term, for bursts over any length, for up to three bits where D + 1 divides it and over any length that it keeps apart.
-- Assumes nothing.
use mathlib.Core.Path.{◌≡◌, sym, ap, ap₂, ◌∙◌, subst}
use mathlib.Core.Logic.{◌⊎◌, inl, inr}
use mathlib.Core.List.{List, ◌++◌}
use Prim.Native.Nat.{ℕ, zero, suc, ◌+◌, ◌*◌, ◌%◌, ◌^◌, ◌≤◌, ◌<◌}
use native.Mathlib.Omega.{arith}
use lib.Bits.{bit_xor, xor_lt, xor_self, xor_zero_l}
use lib.ListN.{length, drop, length-append, length-take}
use lib.Pow.{pow_mono}
use Rattle.octets.specs.Bits.{part}
use Rattle.octets.proofs.Digits.{Bits, take-bits, drop_bits, append_bits}
use Rattle.octets.proofs.Xor.{xor-swap, back}
use Rattle.remainder.specs.Division.{times, polynomial, Degree, RemainderFrom, Multiple, generator}
use Rattle.remainder.proofs.Division.{add, distrib}
use Rattle.remainder.proofs.Errors.{polynomial-lt, polynomial-append, short, generator-degree, generator-odd}
use Rattle.distance.specs.Errors.{distance, most, longest, reach, Same, Apart, FewBits, BurstBits}
use Rattle.distance.proofs.Between.{between, ones, between-length, between-bits, between_ones, between-polynomial, within-sum}
use Rattle.distance.proofs.Weight.{no_ones, two-ones, multiple-even, generator-even}
use Rattle.distance.proofs.Order.{pair, generator-apart}

-- ---- two lists of bits of one length leave different remainders

module _ (g : ℕ) (o : g % 2 ≡ 1) (B C : List ℕ) (l : length B ≡ length C) (h : Bits B) (c : Bits C) where
  abbrev E : List ℕ
  E = between B C

  E-bits : Bits E
  E-bits = between-bits B C h c

  E-sum : polynomial E ≡ bit_xor (polynomial B) (polynomial C)
  E-sum = between-polynomial B C l h c

  -- where one, two or three bits differ, of as many as the generator keeps apart
  pub few-differ : Multiple 3 g → (n : ℕ) → Apart g n → length B ≤ n → FewBits B C → Same g B C → ⊥
  few-differ v n a k f s = pick (distance B C) (between_ones B C h c) f.some f.few
    where
      G : Multiple g (polynomial E)
      G = subst (Multiple g) (sym E-sum) s

      pick : (d : ℕ) → ones E ≡ d → 1 ≤ d → d ≤ most → ⊥
      pick zero e p q = omega arith
      pick (suc zero) e p q = omega (arith, multiple-even g v E E-bits G)
      pick (suc (suc zero)) e p q =
          let t = two-ones E E-bits e in
          pair g n o a t.far t.power t.some (omega (arith, t.within, between-length B C l)) (subst (Multiple g) t.both G)
      pick (suc (suc (suc zero))) e p q = omega (arith, multiple-even g v E E-bits G)
      pick (suc (suc (suc (suc d)))) e p q = omega arith

  -- where a burst of up to k differs, whatever the length
  pub burst-differ : (k : ℕ) → Degree g k → (n : ℕ) → n ≤ k → BurstBits n B C → Same g B C → ⊥
  burst-differ k d n u f s =
      let at = f.start in
      let b = bit_xor (polynomial (part at n B)) (polynomial (part at n C)) in
      let i = length (drop (at + n) B) in
      let e : bit_xor (polynomial B) (polynomial C) ≡ b * 2 ^ i = within-sum at n B C l f.near h c in
      let z : b ≡ 0 = short k g d o b i (xor_lt k _ _ (low B h) (low C c)) (subst (Multiple g) e s) in
      omega (arith, f.some, between_ones B C h c, no_ones E (E-sum ∙ e ∙ ap (λ (x : ℕ). x * 2 ^ i) z ∙ omega arith))
    where
      -- so few bits make a polynomial of a degree below k
      low : (X : List ℕ) → Bits X → polynomial (part f.start n X) < 2 ^ k
      low X x =
          let P = part f.start n X in
          let m : length P ≤ k = omega (arith, length-take n (drop f.start X)) in
          omega (arith, polynomial-lt P (take-bits n (drop f.start X) (drop_bits f.start X x)), pow_mono m)

-- the generator of SCOPE: up to three bits and bursts of up to 16, of at most 32,767 bits
pub scope-differ : (B C : List ℕ) → length B ≡ length C → Bits B → Bits C → length B ≤ reach → FewBits B C ⊎ BurstBits longest B C
    → Same generator B C → ⊥
scope-differ B C l h c n (inl f) = few-differ generator generator-odd B C l h c generator-even reach generator-apart n f
scope-differ B C l h c n (inr f) = burst-differ generator generator-odd B C l h c 16 generator-degree longest (omega arith) f

-- ---- so of a message m with right check bits c, and m' with c' that it came to be, not both are right

-- what stands above both, as a start does, takes itself away
same_sum : (S p q x y T U : ℕ) → bit_xor S p ≡ bit_xor T x → bit_xor S q ≡ bit_xor U y → bit_xor (bit_xor p x) (bit_xor q y) ≡ bit_xor T U
same_sum S p q x y T U a b =
    let both : bit_xor p q ≡ bit_xor (bit_xor T U) (bit_xor x y) =
    sym (xor-swap S p S q ∙ ap (λ (n : ℕ). bit_xor n (bit_xor p q)) (xor_self S) ∙ xor_zero_l (bit_xor p q)) ∙ ap₂ bit_xor a b ∙ xor-swap T x U y in
    xor-swap p x q y ∙ ap (λ (n : ℕ). bit_xor n (bit_xor x y)) both ∙ back (bit_xor T U) (bit_xor x y)

module _ (k g start : ℕ) (d : Degree g k) (o : g % 2 ≡ 1) (m c m' c' : List ℕ) (hm : Bits m) (hc : Bits c) (hm' : Bits m') (hc' : Bits c')
    (e : length c ≡ k) (e' : length c' ≡ k) (l : length m ≡ length m')
    (p : RemainderFrom k g start m (polynomial c)) (q : RemainderFrom k g start m' (polynomial c')) where
  both_right : Same g (m ++ c) (m' ++ c')
  both_right =
      let S = start * 2 ^ length m in
      let T = p.quotient in
      let U = q.quotient in
      let q' : bit_xor S (polynomial m' * 2 ^ k) ≡ bit_xor (times U g) (polynomial c') =
      ap (λ (n : ℕ). bit_xor (start * 2 ^ n) (polynomial m' * 2 ^ k)) l ∙ q.divided in
      record {
        quotient = add T U;
        product =
            ap₂ bit_xor (whole m c hc e) (whole m' c' hc' e')
            ∙ same_sum S (polynomial m * 2 ^ k) (polynomial m' * 2 ^ k) (polynomial c) (polynomial c') (times T g) (times U g) p.divided q'
            ∙ distrib T U g;
      }
    where
      whole : (m c : List ℕ) → Bits c → length c ≡ k → polynomial (m ++ c) ≡ bit_xor (polynomial m * 2 ^ k) (polynomial c)
      whole m c h e = polynomial-append m c h ∙ ap (λ (n : ℕ). bit_xor (polynomial m * 2 ^ n) (polynomial c)) e

  long : (m c : List ℕ) → length c ≡ k → length (m ++ c) ≡ length m + k
  long m c e = length-append m c ∙ ap (λ (n : ℕ). length m + n) e

  even-long : length (m ++ c) ≡ length (m' ++ c')
  even-long = long m c e ∙ ap (λ (n : ℕ). n + k) l ∙ sym (long m' c' e')

  -- up to three bits, over any length that the generator keeps apart
  pub few-seen : Multiple 3 g → (n : ℕ) → Apart g n → length m + k ≤ n → FewBits (m ++ c) (m' ++ c') → ⊥
  few-seen v n a u f =
      few-differ g o (m ++ c) (m' ++ c') even-long (append_bits m c hm hc) (append_bits m' c' hm' hc') v n a
      (subst (λ (x : ℕ). x ≤ n) (sym (long m c e)) u) f both_right

  -- a burst of up to k, over any length
  pub burst-seen : (n : ℕ) → n ≤ k → BurstBits n (m ++ c) (m' ++ c') → ⊥
  burst-seen n u f =
      burst-differ g o (m ++ c) (m' ++ c') even-long (append_bits m c hm hc) (append_bits m' c' hm' hc') k d n u f both_right
