-- Laws of reading a frame. Assumes nothing.
use mathlib.Core.Path.{◌≡◌, refl, sym, ap, ap₂, ◌∙◌}
use mathlib.Core.Bool.{Bool, true, false, cond, not, ◌&&◌, true≢false}
use mathlib.Core.List.{List, ◌∷◌}
use Prim.Native.Nat.{ℕ}
use native.Mathlib.Omega.{arith}
use borrow.Author.Tests.{eq-eqb, eqb-true, not-true, not-false}
use lib.Dec.{eqb, lit≤}
use lib.IntN.{ℤ}
use lib.ListN.{length, drop, length-drop}
use lib.Seq.{length-take-le}
use Rattle.std.specs.Prelude.{Ok, Err}
use Rattle.answer.specs.Answer.{refuse, answer}
use Rattle.answer.specs.declared.Refused.{Refused}
use Rattle.answer.specs.Given.{number_of}
use Rattle.answer.proofs.Given.{refused-number}
use Rattle.answer.proofs.Laws.{kept, given}
use Rattle.answer.proofs.Order.{both}
use Rattle.octets.specs.Bits.{value_of, bits_of, octets_of, part, laid}
use Rattle.octets.specs.Promises.{Copied}
use Rattle.octets.proofs.Laws.{bits-length, laid_end}
use Rattle.bitfields.specs.Promises.{behind_of}
use Rattle.walk.specs.declared.TakenPair.{TakenPair}
use Rattle.walk.specs.Promises.{PairTaken, SignedFilled, signed_from, behind_all}
use Rattle.walk.proofs.Laws.{behind-all-is, signed-from}
use Rattle.layout.specs.Places.{a_field, b_field}
use Rattle.layout.specs.Frame.{training_sync, field_of, coefficients_of}
use Rattle.layout.specs.Refusals.{has_sync, bit_refusals, check_refusals, read_refusals}
use Rattle.reader.specs.declared.Found.{Found}
use Rattle.reader.specs.declared.Found.TheVariants.{Final}
use Rattle.reader.specs.Promises.{words_in, coefficients_left, vendor_octets, reserved_octets, reserved_left, Read}

-- ---- the walk of a training frame: coefficients from behind sync on, A and B behind those

module _ (f : List ℕ) (cs ds : List ℤ) (r : ℕ) (l : length cs ≡ 180) (p : SignedFilled f 14 22 cs ds r) where
  pub coefficients-read : ds ≡ coefficients_of (bits_of f)
  coefficients-read = p.0 ∙ ap (signed_from f 14 22) l ∙ signed-from 22 (lit≤ tt) f 14 3960 (lit≤ tt) 180 0 (lit≤ tt)

  pub words-at : r ≡ 3974
  words-at = p.1 ∙ ap (behind_all 14 22) l ∙ behind-all-is 22 (lit≤ tt) 180 14 (lit≤ tt)

pub words-read : (f : List ℕ) (at : ℕ) (w : TakenPair) → at ≡ 3974 → PairTaken f at 21 21 w
    → w ≡ record { first = value_of (field_of a_field (bits_of f)); second = value_of (field_of b_field (bits_of f)); next = 4016 }
words-read f at w e p =
    p ∙ ap (λ (i : ℕ). record {
      first = value_of (part i 21 (bits_of f));
      second = value_of (part (behind_of i 21) 21 (bits_of f));
      next = behind_of
          (behind_of i 21) 21;
    }) e

-- ---- vendor data

pub vendor-read : (f v v' : List ℕ) {at n : ℕ} → length f ≡ 529 → length v ≡ 16 → Copied v 0 f at n v' → at ≡ 4016 → n ≡ 128
    → v' ≡ vendor_octets (bits_of f)
vendor-read f v v' l lv e h k =
    let D = part 4016 128 (bits_of f) in
    let full : length D ≡ 128 = length-take-le 128 (drop 4016 (bits_of f)) (omega (arith, length-drop 4016 (bits_of f), bits-length f)) in
    e ∙ ap₂ (λ (i j : ℕ). laid v 0 (part i j (bits_of f))) h k ∙ laid_end v 0 D (omega arith) ∙ ap (λ (j : ℕ). octets_of j D) lv

-- ---- what reading promises, by cases

-- whether the three rooms have their lengths, as the code asks it
abbrev Asked : List ℤ → List ℕ → List ℕ → Bool → Type 0
Asked cs v s r = r ≡ (eqb (length cs) 180 && (eqb (length v) 16 && eqb (length s) 9))

-- rooms of which one has the wrong length are refused, whatever the frame is
pub rooms-refused : (f : List ℕ) (cs : List ℤ) (v s : List ℕ) {r : Bool} → Asked cs v s r → not r ≡ true → 1 ≡ answer (read_refusals f cs v s)
rooms-refused f cs v s e n = go (eqb (length f) 529) (eqb (length cs) 180) (eqb (length v) 16) (eqb (length s) 9) (sym e ∙ not-true _ n)
  where
    go : (p q r t : Bool) → (q && (r && t)) ≡ false
        → 1 ≡ answer (refuse 1 (not p) ∷ refuse 1 (not q) ∷ refuse 1 (not r) ∷ refuse 1 (not t) ∷ bit_refusals (bits_of f))
    go false q r t e = refl
    go true false r t e = refl
    go true true false t e = refl
    go true true true false e = refl
    go true true true true e = absurd (true≢false e)

-- the lengths of the three rooms
pub record Rooms (cs : List ℤ) (v s : List ℕ) : Type 0 where
  pub coefficients : length cs ≡ 180
  pub vendor : length v ≡ 16
  pub reserved : length s ≡ 9

pub rooms-are : (cs : List ℤ) (v s : List ℕ) {r : Bool} → Asked cs v s r → not r ≡ false → Rooms cs v s
rooms-are cs v s e n =
    let a = both (eqb (length cs) 180) (eqb (length v) 16 && eqb (length s) 9) (sym e ∙ not-false _ n) in
    let b = both (eqb (length v) 16) (eqb (length s) 9) a.1 in
    record { coefficients = eqb-true _ _ a.0; vendor = eqb-true _ _ b.0; reserved = eqb-true _ _ b.1 }

-- where the rooms have their lengths, reading refuses what checking does
pub as-checked : (f : List ℕ) (cs : List ℤ) (v s : List ℕ) → Rooms cs v s → answer (check_refusals f) ≡ answer (read_refusals f cs v s)
as-checked f cs v s m = simp (eq-eqb _ _ m.coefficients, eq-eqb _ _ m.vendor, eq-eqb _ _ m.reserved)

module _ (f : List ℕ) (cs : List ℤ) (v s : List ℕ) where
  abbrev A : ℕ
  A = answer (read_refusals f cs v s)

  abbrev B : List ℕ
  B = bits_of f

  -- a refusal
  pub refusing : (e : Refused) → number_of e ≡ A → Read f cs v s (Err e) cs v s
  refusing e h =
      record {
        answered = h;
        found = tt;
        coefficients_held = sym (kept A cs (coefficients_left B cs) y);
        vendor_held = sym (kept A v (vendor_octets B) y);
        reserved_held = sym (kept A s (reserved_left B s) y);
      }
    where
      y : A ≡ 0 → ⊥
      y z = let p = refused-number e in omega (arith, p, h, z)

  -- the room for the reserved bits after a training frame, and after a final one
  handed : has_sync training_sync B ≡ true → reserved_left B s ≡ reserved_octets B
  handed t = simp (t)

  left_alone : has_sync training_sync B ≡ false → reserved_left B s ≡ s
  left_alone t = simp (t)

  module _ (z : A ≡ 0) where
    -- a training frame
    pub training-read : (r : Found) (cs' : List ℤ) (v' s' : List ℕ) → has_sync training_sync B ≡ true
        → r ≡ words_in B → cs' ≡ coefficients_of B → v' ≡ vendor_octets B → s' ≡ reserved_octets B → Read f cs v s (Ok r) cs' v' s'
    training-read r cs' v' s' t e g h k =
        record {
          answered = sym z;
          found = e ∙ ap (λ (k : Bool). cond k (words_in B) Final) (sym t);
          coefficients_held = g ∙ ap (λ (k : Bool). cond k (coefficients_of B) cs) (sym t) ∙ sym (given A cs (coefficients_left B cs) z);
          vendor_held = h ∙ sym (given A v (vendor_octets B) z);
          reserved_held = k ∙ sym (handed t) ∙ sym (given A s (reserved_left B s) z);
        }

    -- a final frame
    pub final-read : (v' : List ℕ) → has_sync training_sync B ≡ false → v' ≡ vendor_octets B → Read f cs v s (Ok Final) cs v' s
    final-read v' t h =
        record {
          answered = sym z;
          found = ap (λ (k : Bool). cond k (words_in B) Final) (sym t);
          coefficients_held = ap (λ (k : Bool). cond k (coefficients_of B) cs) (sym t) ∙ sym (given A cs (coefficients_left B cs) z);
          vendor_held = h ∙ sym (given A v (vendor_octets B) z);
          reserved_held = sym (left_alone t) ∙ sym (given A s (reserved_left B s) z);
        }
