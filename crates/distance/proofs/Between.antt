-- What lies between two lists of bits of one length: ones at the places where they differ. Assumes nothing.
use mathlib.Core.Path.{◌≡◌, refl, sym, ap, ap₂, ◌∙◌, subst}
use mathlib.Core.Bool.{cond}
use mathlib.Core.Logic.{inl, inr}
use mathlib.Core.List.{List, [], ◌∷◌, ◌++◌}
use Prim.Native.Nat.{ℕ, zero, suc, ◌+◌, ◌-◌, ◌*◌, ◌^◌, ◌<◌, min}
use native.Mathlib.Omega.{arith}
use lib.Bits.{bit_xor, xor_lt, xor_self, xor_zero_l, xor_zero_r, xor_block}
use lib.Dec.{eqb}
use lib.ListN.{length, take, drop, length-append, length-take, length-drop, take-append-drop}
use lib.Seq.{ext_get_or, get_or-take, get_or-drop, drop-drop}
use Rattle.octets.specs.Bits.{value_of, part}
use Rattle.octets.proofs.Digits.{Bits, nil-bits, cons-bits, take-bits, drop_bits, append_bits}
use Rattle.octets.proofs.Xor.{xor-swap, shl-xor, no-two}
use Rattle.remainder.specs.Division.{polynomial}
use Rattle.remainder.proofs.Errors.{polynomial-lt, polynomial-cons, polynomial-append}
use Rattle.distance.specs.Errors.{distance, Within}

-- ---- their sum, bit by bit

pub between : List ℕ → List ℕ → List ℕ
between [] cs = []
between (b ∷ bs) [] = []
between (b ∷ bs) (c ∷ cs) = bit_xor b c ∷ between bs cs

unfoldable pub ones : List ℕ → ℕ
ones [] = 0
ones (x ∷ e) = x + ones e

pub between-length : (bs cs : List ℕ) → length bs ≡ length cs → length (between bs cs) ≡ length bs
unfolding between
between-length [] cs l = refl
between-length (b ∷ bs) [] l = absurd (omega arith)
between-length (b ∷ bs) (c ∷ cs) l = ap suc (between-length bs cs (omega arith))

pub between-bits : (bs cs : List ℕ) → Bits bs → Bits cs → Bits (between bs cs)
unfolding between
between-bits [] cs h k = nil-bits
between-bits (b ∷ bs) [] h k = nil-bits
between-bits (b ∷ bs) (c ∷ cs) h k =
    cons-bits (bit_xor b c) (between bs cs) (xor_lt 1 b c (h 0) (k 0)) (between-bits bs cs (λ i. h (suc i)) (λ i. k (suc i)))

-- as many ones as there are places where they differ
pub between_ones : (bs cs : List ℕ) → Bits bs → Bits cs → ones (between bs cs) ≡ distance bs cs
unfolding between ones distance
between_ones [] cs h k = refl
between_ones (b ∷ bs) [] h k = refl
between_ones (b ∷ bs) (c ∷ cs) h k = ap₂ (λ (x n : ℕ). x + n) (one b c (h 0) (k 0)) (between_ones bs cs (λ i. h (suc i)) (λ i. k (suc i)))
  where
    one : (b c : ℕ) → b < 2 → c < 2 → bit_xor b c ≡ cond (eqb b c) 0 1
    one zero zero h k = refl
    one zero (suc zero) h k = refl
    one (suc zero) zero h k = refl
    one (suc zero) (suc zero) h k = refl
    one zero (suc (suc c)) h k = no-two c k
    one (suc zero) (suc (suc c)) h k = no-two c k
    one (suc (suc b)) c h k = no-two b h

-- its polynomial is the sum of theirs
pub between-polynomial : (bs cs : List ℕ) → length bs ≡ length cs → Bits bs → Bits cs
    → polynomial (between bs cs) ≡ bit_xor (polynomial bs) (polynomial cs)
unfolding between value_of
between-polynomial [] [] l h k = refl
between-polynomial [] (c ∷ cs) l h k = absurd (omega arith)
between-polynomial (b ∷ bs) [] l h k = absurd (omega arith)
between-polynomial (b ∷ bs) (c ∷ cs) l h k =
    let n = length bs in
    let e : length cs ≡ n = omega arith in
    let p = polynomial-lt bs (λ i. h (suc i)) in
    let q : polynomial cs < 2 ^ n = subst (λ (m : ℕ). polynomial cs < 2 ^ m) e (polynomial-lt cs (λ i. k (suc i))) in
    polynomial-cons (bit_xor b c) (between bs cs)
    ∙ ap₂ (λ (m s : ℕ). bit_xor b c * 2 ^ m + s) (between-length bs cs (sym e)) (between-polynomial bs cs (sym e) (λ i. h (suc i)) (λ i. k (suc i)))
    ∙ sym (xor_block n b c (polynomial bs) (polynomial cs) p q)
    ∙ sym (ap₂ bit_xor (polynomial-cons b bs) (polynomial-cons c cs ∙ ap (λ (m : ℕ). c * 2 ^ m + polynomial cs) e))

-- ---- where they differ only at n places from `at` on, that sum is the one of those places, times a power of D

module _ (at n : ℕ) (B C : List ℕ) (l : length B ≡ length C) (w : Within at n B C) where
  pub before : take at B ≡ take at C
  before =
      ext_get_or 0 (take at B) (take at C) (length-take at B ∙ ap (min at) l ∙ sym (length-take at C))
      (λ i h. let k : i < at = omega (arith, length-take at B) in get_or-take at B i 0 k ∙ w i (inl k) ∙ sym (get_or-take at C i 0 k))

  pub behind : drop (at + n) B ≡ drop (at + n) C
  behind =
      ext_get_or 0 (drop (at + n) B) (drop (at + n) C) (length-drop (at + n) B ∙ ap (λ (m : ℕ). m - (at + n)) l ∙ sym (length-drop (at + n) C))
      (λ i h. get_or-drop (at + n) B i 0 ∙ w (at + n + i) (inr (omega arith)) ∙ sym (get_or-drop (at + n) C i 0))

  pub within-sum : Bits B → Bits C
      → bit_xor (polynomial B) (polynomial C) ≡ bit_xor (polynomial (part at n B)) (polynomial (part at n C)) * 2 ^ length (drop (at + n) B)
  within-sum h k =
      let S = take at B in
      let D = drop (at + n) B in
      let Y = part at n B in
      let W = part at n C in
      let j = length D in
      let d : length (drop at C) ≡ length (drop at B) = length-drop at C ∙ ap (λ (m : ℕ). m - at) (sym l) ∙ sym (length-drop at B) in
      let p : length W ≡ length Y = length-take n (drop at C) ∙ ap (min n) d ∙ sym (length-take n (drop at B)) in
      let s : length (W ++ D) ≡ length (Y ++ D) = length-append W D ∙ ap (λ (m : ℕ). m + j) p ∙ sym (length-append Y D) in
      ap₂ bit_xor
      (ap polynomial (parts B) ∙ laid_out S Y D (take-bits n (drop at B) (drop_bits at B h)) (drop_bits (at + n) B h))
      (ap polynomial (parts C ∙ ap₂ (λ (x y : List ℕ). x ++ (W ++ y)) (sym before) (sym behind))
      ∙ laid_out S W D (take-bits n (drop at C) (drop_bits at C k)) (drop_bits (at + n) B h)
      ∙ ap (λ (m : ℕ). bit_xor (polynomial S * 2 ^ m) (bit_xor (polynomial W * 2 ^ j) (polynomial D))) s)
      ∙ joined (polynomial S * 2 ^ length (Y ++ D)) (polynomial Y * 2 ^ j) (polynomial W * 2 ^ j) (polynomial D)
      ∙ sym (shl-xor j (polynomial Y) (polynomial W))
    where
      parts : (X : List ℕ) → X ≡ take at X ++ (part at n X ++ drop (at + n) X)
      parts X =
          sym (take-append-drop at X)
          ∙ ap (λ (x : List ℕ). take at X ++ x) (sym (take-append-drop n (drop at X)) ∙ ap (λ (x : List ℕ). part at n X ++ x) (drop-drop n at X))

      laid_out : (S Y D : List ℕ) → Bits Y → Bits D
          → polynomial (S ++ (Y ++ D)) ≡ bit_xor (polynomial S * 2 ^ length (Y ++ D)) (bit_xor (polynomial Y * 2 ^ length D) (polynomial D))
      laid_out S Y D v d =
          polynomial-append S (Y ++ D) (append_bits Y D v d) ∙ ap (bit_xor (polynomial S * 2 ^ length (Y ++ D))) (polynomial-append Y D d)

      joined : (x v w p : ℕ) → bit_xor (bit_xor x (bit_xor v p)) (bit_xor x (bit_xor w p)) ≡ bit_xor v w
      joined x v w p =
          xor-swap x (bit_xor v p) x (bit_xor w p) ∙ ap₂ bit_xor (xor_self x) (xor-swap v p w p) ∙ xor_zero_l (bit_xor (bit_xor v w) (bit_xor p p))
          ∙ ap (bit_xor (bit_xor v w)) (xor_self p) ∙ xor_zero_r (bit_xor v w)
