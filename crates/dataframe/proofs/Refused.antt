-- What it says that a room, a form and a size are not refused, and what is answered behind them. Assumes nothing.
use mathlib.Core.Path.{◌≡◌, refl, sym, ap₂, ◌∙◌}
use mathlib.Core.Bool.{Bool, true, false, not, ◌&&◌, ◌||◌}
use mathlib.Core.List.{List, [], ◌∷◌, ◌++◌}
use Prim.Native.Nat.{ℕ, zero, suc, ◌+◌, ◌*◌, ◌/◌, ◌%◌, ◌≤◌, ◌<◌}
use native.Mathlib.Decide.{dec_le}
use native.Mathlib.Nat.{mod-lt, div-add-mod}
use native.Mathlib.Omega.{arith}
use borrow.Author.Tests.{eqb-true, eq-eqb, ne_eqb, ltb-false, leb-true, le-leb, not-false}
use lib.Dec.{eqb, leb, ltb, lit≤}
use lib.ListN.{length}
use Rattle.answer.specs.Answer.{Refusal, answer}
use Rattle.answer.proofs.Laws.{none, passed}
use Rattle.answer.proofs.Order.{both}
use Rattle.dataframe.specs.Table.{Covers, is_size, room_of}
use Rattle.dataframe.specs.Refusals.{is_room, no_form, no_size, crc_refusals}

-- a room, a form and a size that are right
pub record Fit (form k : ℕ) (frame : List ℕ) : Type 0 where
  pub known : form ≤ 1
  pub least : 24 ≤ k
  pub most : k ≤ 289
  pub room : length frame ≡ room_of form
  pub wide : 1740 ≤ length frame

pub size-range : (k : ℕ) → is_size k ≡ true → (24 ≤ k) × (k ≤ 289)
size-range k e = let p = both (leb 24 k) (leb k 289) e in (leb-true 24 k p.0, leb-true k 289 p.1)

pub range_size : (k : ℕ) → 24 ≤ k → k ≤ 289 → is_size k ≡ true
range_size k a b = ap₂ ◌&&◌ (le-leb 24 k a) (le-leb k 289 b)

-- every size is one that the paper covers
pub size-covered : (k : ℕ) → is_size k ≡ true → Covers k
size-covered k e =
    let r = size-range k e in
    let d : k ≡ 8 * (k / 8) + k % 8 = sym (div-add-mod k 8) in
    let m : k % 8 < 8 = mod-lt k (lit≤ tt) in
    record {
      n = k / 8;
      i = k % 8;
      least = omega (arith, r.0, d, m);
      most = omega (arith, r.1, d, m);
      bits = omega (arith, m);
      last = λ h. omega (arith, r.1, d, h);
      size = omega (arith, d);
    }

-- and no other
pub covered-size : (k : ℕ) → Covers k → is_size k ≡ true
covered-size k c = pick (dec_le c.n 35)
  where
    pick : Dec (c.n ≤ 35) → is_size k ≡ true
    pick (yes h) = range_size k (omega (arith, c.size, c.least)) (omega (arith, c.size, c.bits, h))
    pick (no h) =
        let n : c.n ≡ 36 = omega (arith, c.most, h) in
        range_size k (omega (arith, c.size, n)) (omega (arith, c.size, n, c.last n))

either : (a b : Bool) → ((a && true) || (b && false)) ≡ true → a ≡ true
either true b e = refl
either false true e = e
either false false e = e

other : (a b : Bool) → ((a && false) || (b && true)) ≡ true → b ≡ true
other true b e = cut b e
  where
    cut : (b : Bool) → (b && true) ≡ true → b ≡ true
    cut true e = refl
    cut false e = e
other false true e = refl
other false false e = e

pub room-is : (form : ℕ) (frame : List ℕ) → form ≤ 1 → is_room form (length frame) ≡ true → length frame ≡ room_of form
room-is zero frame h e = eqb-true (length frame) 1740 (either (eqb (length frame) 1740) (eqb (length frame) 1741) e)
room-is (suc zero) frame h e = eqb-true (length frame) 1741 (other (eqb (length frame) 1740) (eqb (length frame) 1741) e)
room-is (suc (suc f)) frame h e = absurd (omega arith)

pub is-room : (form : ℕ) (frame : List ℕ) → form ≤ 1 → length frame ≡ room_of form → is_room form (length frame) ≡ true
is-room zero frame h e = simp (eq-eqb (length frame) 1740 e)
is-room (suc zero) frame h e = simp (ne_eqb (length frame) 1740 (λ f. omega (arith, e, f)), eq-eqb (length frame) 1741 e)
is-room (suc (suc f)) frame h e = absurd (omega arith)

-- the least room has 1,740 octets
pub room-least : (form : ℕ) (frame : List ℕ) → form ≤ 1 → length frame ≡ room_of form → 1740 ≤ length frame
room-least zero frame h e = omega (arith, e)
room-least (suc zero) frame h e = omega (arith, e)
room-least (suc (suc f)) frame h e = absurd (omega arith)

module _ (form k : ℕ) (frame : List ℕ) (e : answer (crc_refusals form k frame) ≡ 0) where
  r-room : (not (is_room form (length frame)) ≡ false) × (answer (no_form form ∷ no_size k ∷ []) ≡ 0)
  r-room = none 0 (not (is_room form (length frame))) (no_form form ∷ no_size k ∷ []) e

  r-form : (ltb 1 form ≡ false) × (answer (no_size k ∷ []) ≡ 0)
  r-form = none 1 (ltb 1 form) (no_size k ∷ []) r-room.1

  r-size : (not (is_size k) ≡ false) × (answer [] ≡ 0)
  r-size = none 3 (not (is_size k)) [] r-form.1

  pub fit : Fit form k frame
  fit =
      let h : form ≤ 1 = ltb-false 1 form r-form.0 in
      let s = size-range k (not-false _ r-size.0) in
      let r = room-is form frame h (not-false _ r-room.0) in
      record { known = h; least = s.0; most = s.1; room = r; wide = room-least form frame h r }

  -- further checks are answered
  pub behind-is : (us : List Refusal) → answer (crc_refusals form k frame ++ us) ≡ answer us
  behind-is us =
      passed 1 (no_form form ∷ no_size k ∷ us) r-room.0 ∙ passed 2 (no_size k ∷ us) r-form.0 ∙ passed 4 us r-size.0

-- and the other way
pub fits : (form k : ℕ) (frame : List ℕ) → Fit form k frame → answer (crc_refusals form k frame) ≡ 0
fits zero k frame f = simp (eq-eqb (length frame) 1740 f.room, range_size k f.least f.most)
fits (suc zero) k frame f = simp (ne_eqb (length frame) 1740 (λ e. omega (arith, f.room, e)), eq-eqb (length frame) 1741 f.room, range_size k f.least f.most)
fits (suc (suc n)) k frame f = absurd (omega (arith, f.known))
