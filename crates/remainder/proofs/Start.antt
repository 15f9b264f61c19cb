-- What the answers of `from_start` say; what a start is, what was left of a message before; and what lies between two runs from one start that leave
-- the same. Assumes nothing.
use mathlib.Core.Path.{◌≡◌, refl, sym, ap, ap₂, subst, ◌∙◌}
use mathlib.Core.List.{List, ◌++◌, reverse, reverse-reverse}
use Prim.Native.Nat.{ℕ, suc, ◌*◌, ◌%◌, ◌^◌, ◌≤◌, ◌<◌}
use native.Mathlib.Nat.{mul_right_comm}
use native.Mathlib.Decide.{dec_le}
use native.Mathlib.Omega.{arith}
use borrow.Author.Tests.{ltb-false, leb-false, eqb-false}
use lib.Bits.{bit_xor, xor_comm, xor_lt}
use lib.Dec.{eqb, leb, ltb}
use lib.ListN.{length, drop, length-reverse}
use Rattle.answer.specs.Answer.{answer}
use Rattle.answer.proofs.Laws.{none}
use lib.Pow.{pow_mono}
use Rattle.octets.specs.Bits.{bits_of, part}
use Rattle.octets.proofs.Digits.{Bits, take-bits, drop_bits, reverse_bits, value-one}
use Rattle.octets.proofs.Laws.{bits-bits}
use Rattle.octets.proofs.Xor.{xor_assoc, xor-cancel, shl-xor, mid}
use Rattle.remainder.specs.Division.{times, polynomial, Degree, Remainder, RemainderFrom, Multiple}
use Rattle.remainder.specs.Promises.{start_refusals}
use Rattle.remainder.specs.Register.{register_of}
use Rattle.remainder.proofs.Division.{add, distrib, exists-from, small-multiple}
use Rattle.remainder.proofs.Errors.{polynomial-append, polynomial-lt, unshifted}
use Rattle.remainder.proofs.Quotient.{shl-multiple}

-- what an answer of 0 says
pub start-sound : (g k start : ℕ) → answer (start_refusals g k start) ≡ 0 → (1 ≤ k) × (k ≤ 16) × Degree g k × (start < 2 ^ k)
start-sound g k start e =
    let l = start_refusals g k start in
    let a = none 3 (eqb k 0) (drop 1 l) e in
    let b = none 3 (ltb 16 k) (drop 2 l) a.1 in
    let c = none 3 (ltb g (2 ^ k)) (drop 3 l) b.1 in
    let d = none 3 (leb (2 ^ suc k) g) (drop 4 l) c.1 in
    let f = none 3 (eqb (g % 2) 0) (drop 5 l) d.1 in
    let h = none 3 (leb (2 ^ k) start) (drop 6 l) f.1 in
    let n : k ≡ 0 → ⊥ = eqb-false k 0 a.0 in
    (omega arith, ltb-false _ _ b.0, record { reached = ltb-false _ _ c.0; within = leb-false _ _ d.0 }, leb-false _ _ h.0)

-- the remainder of a message that follows another
pub follows : (k g : ℕ) (a b : List ℕ) (start r : ℕ) → Bits b → Remainder k g a start → RemainderFrom k g start b r → Remainder k g (a ++ b) r
follows k g a b start r hb p q =
    let n = length b in
    let T = times p.quotient g in
    let M = shl-multiple g T n (record { quotient = p.quotient; product = refl }) in
    let up : polynomial a * 2 ^ n * 2 ^ k ≡ bit_xor (T * 2 ^ n) (start * 2 ^ n) =
    mul_right_comm (polynomial a) (2 ^ n) (2 ^ k) ∙ ap (λ (x : ℕ). x * 2 ^ n) p.divided ∙ shl-xor n T start in
    record {
      quotient = add M.quotient q.quotient;
      below = q.below;
      divided =
          ap (λ (x : ℕ). x * 2 ^ k) (polynomial-append a b hb) ∙ shl-xor k (polynomial a * 2 ^ n) (polynomial b)
          ∙ ap (λ (x : ℕ). bit_xor x (polynomial b * 2 ^ k)) up ∙ xor_assoc (T * 2 ^ n) (start * 2 ^ n) (polynomial b * 2 ^ k)
          ∙ ap₂ bit_xor M.product q.divided ∙ sym (xor_assoc (times M.quotient g) (times q.quotient g) r)
          ∙ ap (λ (x : ℕ). bit_xor x r) (distrib M.quotient q.quotient g);
    }

-- two runs of one length from one start, for a generator with a constant term
module _ (k g : ℕ) (hk : 1 ≤ k) (dg : Degree g k) (o : g % 2 ≡ 1) (r : ℕ) (a b : List ℕ) (hr : r < 2 ^ k) (ha : Bits a) (hb : Bits b)
    (l : length a ≡ length b) (e : register_of k g r a ≡ register_of k g r b) where
  -- where they leave the same, what lies between them is a multiple
  pub run-same : Multiple g (bit_xor (polynomial a) (polynomial b))
  run-same =
      let A = exists-from k g hk dg r a ha hr in
      let B = exists-from k g hk dg r b hb hr in
      let p = polynomial a in
      let q = polynomial b in
      let R = register_of k g r a in
      let S = r * 2 ^ length a in
      let T = times A.quotient g in
      let U = times B.quotient g in
      let f : bit_xor S (q * 2 ^ k) ≡ bit_xor U R =
      ap (λ (m : ℕ). bit_xor (r * 2 ^ m) (q * 2 ^ k)) l ∙ B.divided ∙ ap (bit_xor U) (sym e) in
      unshifted g o (bit_xor p q) k (record {
        quotient = add A.quotient B.quotient;
        product =
            shl-xor k p q ∙ sym (apart S (p * 2 ^ k) (q * 2 ^ k)) ∙ ap₂ bit_xor A.divided f
            ∙ ap₂ bit_xor (xor_comm T R) (xor_comm U R) ∙ apart R T U ∙ distrib A.quotient B.quotient g;
      })
    where
      apart : (x y z : ℕ) → bit_xor (bit_xor x y) (bit_xor x z) ≡ bit_xor y z
      apart x y z = ap (λ (w : ℕ). bit_xor w (bit_xor x z)) (xor_comm x y) ∙ mid y x z

  -- so they are the same where they have k bits or fewer
  pub run-one : length a ≤ k → a ≡ b
  run-one n =
      let p = polynomial a in
      let q = polynomial b in
      let M = run-same in
      let small = xor_lt k p q (low a ha n) (low b hb (omega arith)) in
      let z : bit_xor p q ≡ 0 = M.product ∙ small-multiple k g dg M.quotient (subst (λ (x : ℕ). x < 2 ^ k) M.product small) in
      let v = value-one (reverse a) (reverse b) (reverse_bits a ha) (reverse_bits b hb) (length-reverse a ∙ l ∙ sym (length-reverse b)) (xor-cancel p q z) in
      sym (reverse-reverse a) ∙ ap reverse v ∙ reverse-reverse b
    where
      low : (c : List ℕ) → Bits c → length c ≤ k → polynomial c < 2 ^ k
      low c h i = omega (arith, polynomial-lt c h, pow_mono i)

-- a generator has one degree
pub degree-one : (g j k : ℕ) → Degree g j → Degree g k → k ≡ j
degree-one g j k a b = pick (dec_le k j) (dec_le j k)
  where
    pick : Dec (k ≤ j) → Dec (j ≤ k) → k ≡ j
    pick (yes l) (yes m) = omega arith
    pick (yes l) (no m) = let n : suc k ≤ j = omega arith in absurd (omega (arith, pow_mono n, a.reached, b.within))
    pick (no l) m = let n : suc j ≤ k = omega arith in absurd (omega (arith, pow_mono n, a.within, b.reached))

-- what is left where nothing is refused: the register's run
pub from-done : (g k start : ℕ) (s : List ℕ) (at n r : ℕ) → answer (start_refusals g k start) ≡ 0 → r ≡ register_of k g start (part at n (bits_of s))
    → RemainderFrom k g start (part at n (bits_of s)) r
from-done g k start s at n r z e =
    let h = start-sound g k start z in
    let P = part at n (bits_of s) in
    subst (RemainderFrom k g start P) (sym e) (exists-from k g h.0 h.2 start P (take-bits n (drop at (bits_of s)) (drop_bits at (bits_of s) (bits-bits s))) h.3)
