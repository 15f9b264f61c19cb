-- Laws of the check sequence: it has two octets, it is there for all octets, and it is the only one. Assumes nothing.
use mathlib.Core.Path.{◌≡◌, refl, sym, ap, ap₂, ◌∙◌, subst}
use mathlib.Core.Bool.{Bool, true, false, not, ◌&&◌, ◌||◌, false≢true}
use mathlib.Core.List.{List, [], ◌∷◌}
use Prim.Native.Nat.{ℕ, ◌-◌, ◌*◌, ◌/◌, ◌%◌, ◌^◌, ◌≤◌, ◌<◌}
use native.Mathlib.Nat.{mod-eq_of_lt}
use native.Mathlib.Decide.{dec_le}
use native.Mathlib.Omega.{arith}
use lib.Bits.{bit_xor, bit_and, and_mask, xor_add_and, and_comm}
use lib.Dec.{lit≤, eqb, ltb}
use borrow.Author.Tests.{ltb-false, eqb-true}
use lib.ListN.{length, take, drop}
use lib.Seq.{take_all}
use Rattle.octets.specs.Bits.{digits_of, value_of, bits_of, octets_of, part}
use Rattle.octets.proofs.Digits.{digits-take, value-digits, digits-bits, turned_lt}
use Rattle.octets.proofs.Laws.{Octets, octets-length, bits-bits, bits-length}
use Rattle.octets.specs.Promises.{WordRead}
use Rattle.octets.proofs.Words.{octets-octets, octets-part, digits-drop, word-front}
use Rattle.octets.proofs.Turn.{turn_of, turn-digits, turn-xor}
use Rattle.remainder.specs.Division.{check_bits, RemainderFrom, generator}
use Rattle.remainder.proofs.Division.{exists, unique, exists-from, unique-from}
use Rattle.remainder.proofs.Errors.{check_bits_right, generator-degree}
use Rattle.remainder.proofs.Quotient.{up-over, start-in}
use Rattle.remainder.specs.Promises.{WordLeft}
use Rattle.remainder.specs.Register.{register_of}
use Rattle.fcs.specs.Promises.{Sequenced}
use Rattle.fcs.specs.Sequence.{ones, sent, Sequence, register, sequence_of}

-- it has two octets
pub sequence-length : (s : List ℕ) → length (sequence_of s) ≡ 2
unfolding sequence_of
sequence-length s = octets-length 2 (check_bits 16 (ones - register s))

pub sequence-octets : (s : List ℕ) → Octets (sequence_of s)
unfolding sequence_of
sequence-octets s = octets-octets 2 (check_bits 16 (ones - register s)) (check_bits_right 16 (ones - register s))

-- the register after octets is what is left of the division
pub register-left : (s : List ℕ) → RemainderFrom 16 generator ones (bits_of s) (register s)
register-left s = exists-from 16 generator (lit≤ tt) generator-degree ones (bits_of s) (bits-bits s) (lit≤ tt)

-- what is computed is the check sequence
pub sequence-is : (s : List ℕ) → Sequence s (sequence_of s)
unfolding sequence_of
sequence-is s =
    record {
      left = register s;
      divided = register-left s;
      as_sent = refl;
    }

-- and there is one only
pub sequence-one : (s c d : List ℕ) → Sequence s c → Sequence s d → c ≡ d
sequence-one s c d p q =
    p.as_sent ∙ ap sent (unique-from 16 generator generator-degree ones (bits_of s) p.left q.left p.divided q.divided) ∙ sym q.as_sent

pub sequence-computed : (s c : List ℕ) → Sequence s c → c ≡ sequence_of s
sequence-computed s c p = sequence-one s c (sequence_of s) p (sequence-is s)

-- ---- as the code has it

-- every bit turned over
pub turned-over : (k x : ℕ) → x < 2 ^ k → bit_xor (2 ^ k - 1) x ≡ 2 ^ k - 1 - x
turned-over k x h =
    let a : bit_and (2 ^ k - 1) x ≡ x = and_comm (2 ^ k - 1) x ∙ and_mask x k ∙ mod-eq_of_lt h in
    omega (arith, xor_add_and (2 ^ k - 1) x, a)

-- turned over and turned round, in either order
pub over-round : (x : ℕ) → x < 2 ^ 16 → turn_of 16 (ones - x) ≡ ones - turn_of 16 x
unfolding value_of digits_of
over-round x h = ap (turn_of 16) (sym (turned-over 16 x h)) ∙ turn-xor 16 ones x ∙ turned-over 16 (turn_of 16 x) (turned_lt 16 x)

-- a number of 16 bits as two octets
pub two_octets : (r : ℕ) → r < 65536 → octets_of 2 (digits_of 16 r) ≡ r % 256 ∷ r / 256 ∷ []
unfolding octets_of
two_octets r h =
    let low : value_of (take 8 (digits_of 16 r)) ≡ r % 256 = ap value_of (digits-take 8 16 r (lit≤ tt)) ∙ value-digits 8 r in
    let high : value_of (take 8 (drop 8 (digits_of 16 r))) ≡ r / 256 =
    ap (λ (l : List ℕ). value_of (take 8 l)) (digits-drop 8 8 16 r refl) ∙ ap value_of (digits-take 8 8 (r / 256) (lit≤ tt)) ∙ value-digits 8 (r / 256) ∙ omega arith in
    ap₂ (λ (a b : ℕ). a ∷ b ∷ []) low high

-- the number that the code gives is the remainder as it is sent
pub sent_is : (x : ℕ) → x < 2 ^ 16 → (ones - turn_of 16 x) % 256 ∷ (ones - turn_of 16 x) / 256 ∷ [] ≡ sent x
sent_is x h =
    sym (two_octets (ones - turn_of 16 x) (omega arith)) ∙ ap (λ (r : ℕ). octets_of 2 (digits_of 16 r)) (sym (over-round x h))
    ∙ ap (octets_of 2) (turn-digits 16 (ones - x))

-- the bits of the first n octets
pub bits-first : (s : List ℕ) (n : ℕ) → part 0 (8 * n) (bits_of s) ≡ bits_of (take n s)
bits-first s n = pick (dec_le n (length s))
  where
    pick : Dec (n ≤ length s) → part 0 (8 * n) (bits_of s) ≡ bits_of (take n s)
    pick (yes h) = sym (octets-part s 0 n (omega arith))
    pick (no h) = take_all (8 * n) (bits_of s) (omega (arith, bits-length s)) ∙ ap bits_of (sym (take_all n s (omega arith)))

-- what is left of the first n octets: the register behind them
pub long-is : (s : List ℕ) (n x t : ℕ) → RemainderFrom 16 generator ones (part 0 (8 * n) (bits_of s)) x → t ≡ turn_of 16 x → t ≡ turn_of 16 (register (take n s))
long-is s n x t f e =
    let T = take n s in
    let d = subst (λ (b : List ℕ). RemainderFrom 16 generator ones b x) (bits-first s n) f in
    e ∙ ap (turn_of 16) (unique-from 16 generator generator-degree ones (bits_of T) x (register T) d (register-left T))

-- sixteen ones are the same from either end
ones-turned : ones ≡ turn_of 16 ones
unfolding value_of digits_of
ones-turned = refl

-- and by what is left of a word
pub short-is : (s : List ℕ) (n w r : ℕ) → 2 ≤ n → n ≤ 8 → n ≤ length s → WordRead s 0 w → WordLeft (bit_xor w ones * 2 ^ (64 - 8 * n) % 2 ^ 64) r
    → r ≡ turn_of 16 (register (take n s))
short-is s n w r h k l e p =
    let x = bit_xor w ones * 2 ^ (64 - 8 * n) % 2 ^ 64 in
    let D = digits_of 64 x in
    p.turned
    ∙ ap (turn_of 16)
    (unique 16 generator generator-degree D p.left (register_of 16 generator 0 D) p.divided
    (exists 16 generator (lit≤ tt) generator-degree D (digits-bits 64 x))
    ∙ up-over 16 generator (8 * n) (bit_xor w ones) (omega arith)
    ∙ ap (λ (o : ℕ). register_of 16 generator 0 (digits_of (8 * n) (bit_xor w o))) ones-turned
    ∙ sym (start-in 16 generator (lit≤ tt) generator-degree (8 * n) ones w (omega arith) (lit≤ tt))
    ∙ ap (register_of 16 generator ones) (word-front s 0 (8 * n) w (omega arith) (omega arith) e ∙ bits-first s n))

-- ---- which way is taken

pub two-there : (l n : ℕ) → (not (ltb l n) && eqb n 2) ≡ true → (n ≤ l) × (n ≡ 2)
two-there l n e = pick (ltb l n) refl e
  where
    pick : (a : Bool) → ltb l n ≡ a → (not a && eqb n 2) ≡ true → (n ≤ l) × (n ≡ 2)
    pick false f e = (ltb-false l n f, eqb-true n 2 e)
    pick true f e = absurd (false≢true e)

pub in-word : (l n : ℕ) → (ltb l n || ltb n 2 || ltb 8 n) ≡ false → (2 ≤ n) × (n ≤ 8) × (n ≤ l)
in-word l n e = pick (ltb l n) (ltb n 2) refl refl e
  where
    pick : (a b : Bool) → ltb l n ≡ a → ltb n 2 ≡ b → (a || b || ltb 8 n) ≡ false → (2 ≤ n) × (n ≤ 8) × (n ≤ l)
    pick false false f g e = (ltb-false n 2 g, ltb-false 8 n e, ltb-false l n f)
    pick false true f g e = absurd (false≢true (sym e))
    pick true b f g e = absurd (false≢true (sym e))

-- turned over it is the check sequence, as a number
pub sequenced : (s : List ℕ) (n t : ℕ) → t ≡ turn_of 16 (register (take n s)) → Sequenced s n (ones - t)
sequenced s n t e =
    let d = register-left (take n s) in
    record {
      two_octets = omega arith;
      right =
          record {
            left = register (take n s);
            divided = d;
            as_sent = ap (λ (x : ℕ). (ones - x) % 256 ∷ (ones - x) / 256 ∷ []) e ∙ sent_is (register (take n s)) d.below;
          };
    }
