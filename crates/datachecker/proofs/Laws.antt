-- Laws of checking a data-mode frame: what the bits at their places say of stuffing and of the room behind the frame. Assumes nothing.
use mathlib.Core.Path.{◌≡◌, refl, sym, ap, ap₂, ◌∙◌}
use mathlib.Core.Bool.{Bool, true, false, ◌&&◌}
use mathlib.Core.List.{List, [], ◌∷◌, ◌++◌}
use Prim.Native.Nat.{ℕ, zero, suc, ◌+◌, ◌-◌, ◌*◌, ◌^◌, ◌≤◌, ◌<◌}
use native.Mathlib.Omega.{arith}
use borrow.Author.Tests.{eq-eqb, ne_eqb}
use lib.Dec.{eqb}
use lib.ListN.{length, get_or, drop, length-drop}
use lib.Seq.{length-take-le}
use Rattle.octets.specs.Bits.{value_of, bits_of, part}
use Rattle.octets.proofs.Digits.{no_value}
use Rattle.octets.proofs.Laws.{bits-length}
use Rattle.places.specs.Streams.{stream_in}
use Rattle.dataframe.specs.Table.{stuffing, unused, line_bits, room_of, table}
use Rattle.dataframe.specs.Frame.{sbid1, sbid2, stuffed_in, behind}
use Rattle.dataframe.specs.Refusals.{stuffing_right}
use Rattle.dataframe.specs.declared.Form.{Form}
use Rattle.dataframe.specs.declared.Form.TheVariants.{Synchronous, Plesiochronous}
use Rattle.dataframe.specs.declared.Room.{Room}
use Rattle.dataframe.specs.Forms.{form_number}
use Rattle.dataframe.specs.Rooms.{form_in, carried_by}
use Rattle.dataframe.proofs.Rooms.{form-known}
use Rattle.dataframe.proofs.Rows.{sbid-is, no-sbid, stuffing-is, no-stuffing, unused-is}

-- one bit, and another behind it
first_of : (p q : List ℕ) → length p ≡ 1 → get_or (p ++ q) 0 0 ≡ value_of p
unfolding value_of
first_of (b ∷ []) q e = omega arith
first_of [] q e = absurd (omega arith)
first_of (b ∷ c ∷ p) q e = absurd (omega arith)

second-of : (p q : List ℕ) → length p ≡ 1 → length q ≡ 1 → get_or (p ++ q) 1 0 ≡ value_of q
unfolding value_of
second-of (b ∷ []) (c ∷ []) e f = omega arith
second-of [] q e f = absurd (omega arith)
second-of (b ∷ c ∷ p) q e f = absurd (omega arith)
second-of (b ∷ []) [] e f = absurd (omega arith)
second-of (b ∷ []) (c ∷ d ∷ q) e f = absurd (omega arith)

empty-clear : eqb (value_of []) 0 ≡ true
empty-clear = eq-eqb (value_of []) 0 no_value

-- two marks p and q, where s is four times the first and b is the second
module _ (p q s b : ℕ) (t : Bool) (e : s ≡ 4 * p) (f : b ≡ q) where
  and-false : (4 * b ≡ s → ⊥) → (eqb p q && t) ≡ false
  and-false n = ap (λ (x : Bool). x && t) (ne_eqb p q (λ z. n (omega (arith, z, e, f))))

  and-true : 4 * b ≡ s → (eqb p q && t) ≡ t
  and-true z = ap (λ (x : Bool). x && t) (eq-eqb p q (omega (arith, z, e, f)))

four : (s b : ℕ) → 4 * b ≡ s → (s ≡ 0 → ⊥) → b ≤ 1 → s ≡ 4
four s b z n h = omega (arith, z, n, h)

-- ---- the plesiochronous form

module _ (k : ℕ) (frame : List ℕ) (m : k ≤ 289) (l : length frame ≡ 1741) where
  abbrev B : List ℕ
  B = bits_of frame

  one : (at : ℕ) → at < 13928 → length (part at 1 B) ≡ 1
  one at h = length-take-le 1 (drop at B) (omega (arith, length-drop at B, bits-length frame, l, h))

  pub sbid1-is : sbid1 1 k B ≡ value_of (part (12 * k + 23) 1 B)
  sbid1-is =
      ap (λ (x : List ℕ). get_or x 0 0) (sbid-is k B)
      ∙ first_of (part (12 * k + 23) 1 B) (part (24 * k + 35) 1 B) (one (12 * k + 23) (omega (arith, m)))

  pub sbid2-is : sbid2 1 k B ≡ value_of (part (24 * k + 35) 1 B)
  sbid2-is =
      ap (λ (x : List ℕ). get_or x 1 0) (sbid-is k B)
      ∙ second-of (part (12 * k + 23) 1 B) (part (24 * k + 35) 1 B) (one (12 * k + 23) (omega (arith, m))) (one (24 * k + 35) (omega (arith, m)))

  pub announced-is : (b r : ℕ) → b ≡ value_of (part (12 * k + 23) 1 B) → r ≡ 4 * b → r ≡ stuffed_in 1 k B
  announced-is b r e f = f ∙ ap (λ (x : ℕ). 4 * x) (e ∙ sym sbid1-is)

  -- stuffing by the two bits and the end
  right_is : (s : ℕ) → s ≡ stuffed_in 1 k B
      → stuffing_right 1 k B ≡ (eqb (sbid1 1 k B) (sbid2 1 k B) && eqb (value_of (part (48 * k + 46) s B)) (2 ^ s - 1))
  right_is s e =
      ap (λ (t : ℕ). eqb (sbid1 1 k B) (sbid2 1 k B) && eqb (value_of (stream_in stuffing (table 1 k t) B)) (2 ^ t - 1)) (sym e)
      ∙ ap (λ (x : List ℕ). eqb (sbid1 1 k B) (sbid2 1 k B) && eqb (value_of x) (2 ^ s - 1)) (stuffing-is k B s)

  module _ (s b : ℕ) (e : s ≡ stuffed_in 1 k B) (f : b ≡ value_of (part (24 * k + 35) 1 B)) where
    b-is : b ≡ sbid2 1 k B
    b-is = f ∙ sym sbid2-is

    pub differ : (4 * b ≡ s → ⊥) → false ≡ stuffing_right 1 k B
    differ n = sym (right_is s e ∙ and-false (sbid1 1 k B) (sbid2 1 k B) s b (eqb (value_of (part (48 * k + 46) s B)) (2 ^ s - 1)) e b-is n)

    pub no-stuffing-right : 4 * b ≡ s → s ≡ 0 → true ≡ stuffing_right 1 k B
    no-stuffing-right z y =
        sym (right_is s e ∙ and-true (sbid1 1 k B) (sbid2 1 k B) s b (eqb (value_of (part (48 * k + 46) s B)) (2 ^ s - 1)) e b-is z
        ∙ ap (λ (t : ℕ). eqb (value_of (part (48 * k + 46) t B)) (2 ^ t - 1)) y ∙ empty-clear)

    pub stuffing-by : (v : ℕ) → 4 * b ≡ s → (s ≡ 0 → ⊥) → b ≤ 1 → v ≡ value_of (part (48 * k + 46) 4 B) → eqb v 15 ≡ stuffing_right 1 k B
    stuffing-by v z n h g =
        ap (λ (x : ℕ). eqb x 15) g
        ∙ sym (right_is s e ∙ and-true (sbid1 1 k B) (sbid2 1 k B) s b (eqb (value_of (part (48 * k + 46) s B)) (2 ^ s - 1)) e b-is z
        ∙ ap (λ (t : ℕ). eqb (value_of (part (48 * k + 46) t B)) (2 ^ t - 1)) (four s b z n h))

-- ---- the synchronous form has no stuffing

module _ (k : ℕ) (bits : List ℕ) where
  pub none-announced : stuffed_in 0 k bits ≡ 0
  none-announced = ap (λ (x : List ℕ). 4 * get_or x 0 0) (no-sbid k bits)

  pub right-without : stuffing_right 0 k bits ≡ true
  right-without =
      ap (λ (x : List ℕ). eqb (get_or x 0 0) (get_or x 1 0) && eqb (value_of (behind stuffing 0 k bits)) (2 ^ stuffed_in 0 k bits - 1)) (no-sbid k bits)
      ∙ ap₂ (λ (x : List ℕ) (s : ℕ). eqb (value_of x) (2 ^ s - 1)) (no-stuffing k bits (stuffed_in 0 k bits)) none-announced ∙ empty-clear

-- ---- the room behind the frame

pub line-fits : (form k s : ℕ) (frame : List ℕ) → form ≤ 1 → k ≤ 289 → s ≤ 4 → length frame ≡ room_of form
    → (length frame ≤ 1741) × (line_bits form k s ≤ 8 * length frame)
line-fits zero k s frame h m t l = (omega (arith, l), omega (arith, l, m))
line-fits (suc zero) k s frame h m t l = (omega (arith, l), omega (arith, l, m, t))
line-fits (suc (suc f)) k s frame h m t l = absurd (omega arith)

pub clear-is : (form k s : ℕ) (frame : List ℕ) → form ≤ 1 → length frame ≡ room_of form → s ≡ stuffed_in form k (bits_of frame)
    → eqb (value_of (part (line_bits form k s) (8 * length frame - line_bits form k s) (bits_of frame))) 0 ≡ eqb (value_of (behind unused form k (bits_of frame))) 0
clear-is form k s frame h l e =
    let n : 8 * length frame - line_bits form k s ≡ 8 * room_of form - line_bits form k s = ap (λ (x : ℕ). 8 * x - line_bits form k s) l in
    ap (λ (x : List ℕ). eqb (value_of x) 0)
    (ap (λ (x : ℕ). part (line_bits form k s) x (bits_of frame)) n ∙ sym (unused-is k (bits_of frame) form s h)
    ∙ ap (λ (t : ℕ). stream_in unused (table form k t) (bits_of frame)) e)

-- ---- in a room whose blocks have m bits

module _ (r : Room) where
  abbrev K : ℕ
  K = r.size

  abbrev S : List ℕ
  S = r.octets.now

  -- of the synchronous form
  module _ (p : r.form ≡ Synchronous) where
    pub right-synchronous : true ≡ stuffing_right (form_in r) K (bits_of S)
    right-synchronous = sym (ap (λ (f : Form). stuffing_right (form_number f) K (bits_of S)) p ∙ right-without K (bits_of S))

  -- and of the other
  module _ (p : r.form ≡ Plesiochronous) where
    long : length S ≡ 1741
    long = r.whole ∙ ap (λ (f : Form). room_of (form_number f)) p

    back : stuffing_right 1 K (bits_of S) ≡ stuffing_right (form_in r) K (bits_of S)
    back = ap (λ (f : Form). stuffing_right (form_number f) K (bits_of S)) (sym p)

    pub announced-in : (m b : ℕ) → m ≡ 12 * K → b ≡ value_of (part (m + 23) 1 (bits_of S)) → 4 * b ≡ (carried_by r).stuffing
    announced-in m b e f =
        announced-is K S r.most long b (4 * b) (f ∙ ap (λ (x : ℕ). value_of (part (x + 23) 1 (bits_of S))) e) refl
        ∙ ap (λ (x : Form). stuffed_in (form_number x) K (bits_of S)) (sym p)

    module _ (m s b : ℕ) (e : m ≡ 12 * K) (t : s ≡ (carried_by r).stuffing) (v : b ≡ value_of (part (2 * m + 35) 1 (bits_of S))) where
      there : s ≡ stuffed_in 1 K (bits_of S)
      there = t ∙ ap (λ (x : Form). stuffed_in (form_number x) K (bits_of S)) p

      second : b ≡ value_of (part (24 * K + 35) 1 (bits_of S))
      second = let q : 2 * m + 35 ≡ 24 * K + 35 = omega arith in v ∙ ap (λ (x : ℕ). value_of (part x 1 (bits_of S))) q

      pub differ-in : (4 * b ≡ s → ⊥) → false ≡ stuffing_right (form_in r) K (bits_of S)
      differ-in n = differ K S r.most long s b there second n ∙ back

      pub none-in : 4 * b ≡ s → s ≡ 0 → true ≡ stuffing_right (form_in r) K (bits_of S)
      none-in z y = no-stuffing-right K S r.most long s b there second z y ∙ back

      pub ones-in : (q : ℕ) → 4 * b ≡ s → (s ≡ 0 → ⊥) → b ≤ 1 → q ≡ value_of (part (4 * m + 46) 4 (bits_of S)) → eqb q 15 ≡ stuffing_right (form_in r) K (bits_of S)
      ones-in q z n h g =
          let w : 4 * m + 46 ≡ 48 * K + 46 = omega arith in
          stuffing-by K S r.most long s b there second q z n h (g ∙ ap (λ (x : ℕ). value_of (part x 4 (bits_of S))) w) ∙ back

  pub clear-in : (n s : ℕ) (t : Bool) → n ≡ line_bits (form_in r) K s → s ≡ (carried_by r).stuffing
      → t ≡ eqb (value_of (part n (8 * length S - n) (bits_of S))) 0 → t ≡ eqb (value_of (behind unused (form_in r) K (bits_of S))) 0
  clear-in n s t e f g =
      g ∙ ap (λ (x : ℕ). eqb (value_of (part x (8 * length S - x) (bits_of S))) 0) e
      ∙ clear-is (form_in r) K s S (form-known r.form) r.whole f
