-- What `judge` finds is its promise. Assumes nothing.
use mathlib.Core.Path.{◌≡◌, refl, sym, ap, ap₂, ◌∙◌, subst}
use mathlib.Core.Bool.{Bool, true, false, cond, not}
use mathlib.Core.List.{List}
use Prim.Native.Nat.{ℕ, ◌^◌, ◌≤◌}
use native.Mathlib.Omega.{arith}
use borrow.Author.Tests.{eqb-true, eqb-false, not-false, not-true}
use lib.Dec.{eqb, leb}
use lib.ListN.{length}
use Rattle.answer.specs.Answer.{answer}
use Rattle.answer.proofs.Laws.{stopped}
use Rattle.octets.specs.Bits.{value_of, bits_of}
use Rattle.dataframe.specs.Table.{sync, unused, is_size}
use Rattle.dataframe.specs.Frame.{carried, behind, due_of, Due}
use Rattle.dataframe.specs.Refusals.{is_room, crc_refusals, stuffing_right, frame_refusals}
use denote.Ref.{Bor}
use Rattle.std.specs.Prelude.{Ok, Err}
use Rattle.answer.specs.declared.Refused.{Refused}
use Rattle.answer.specs.Given.{number_of}
use Rattle.octets.proofs.Laws.{bits-bits}
use Rattle.dataframe.specs.declared.Room.{Room}
use Rattle.dataframe.specs.Frame.{overhead_in}
use Rattle.dataframe.specs.Rooms.{form_in, bits_in, carried_by, IsRoomOf}
use Rattle.dataframe.proofs.Refused.{fits, behind-is}
use Rattle.dataframe.proofs.Rooms.{room-fits, by-room}
use Rattle.dataframe.proofs.Order.{due, due-one}
use Rattle.datachecker.specs.Judging.{StuffingGiven}
use Rattle.datachecker.specs.Promises.{DataChecked, VerdictGiven}

-- what room, form and size answer is not 7
abbrev three : Bool → Bool → Bool → ℕ
three a b c = cond (not a) 1 (cond b 2 (cond (not c) 4 0))

not-seven : (a b c : Bool) → three a b c ≡ 7 → ⊥
not-seven true true c e = omega (arith, e)
not-seven true false true e = omega (arith, e)
not-seven true false false e = omega (arith, e)
not-seven false b c e = omega (arith, e)

-- what the s checks behind them answer
abbrev six : Bool → Bool → Bool → Bool → Bool → Bool → ℕ
six a b c d e f = cond a 4 (cond b 4 (cond c 5 (cond d 9 (cond e 6 (cond f 7 0)))))

-- with 0 and with 7 it is the last that decides
six-last : (a b c d e f : Bool) → (six a b c d e f ≡ 0 → f ≡ false) × (six a b c d e f ≡ 7 → f ≡ true)
six-last true b c d e f = ((λ z. absurd (omega (arith, z))), (λ z. absurd (omega (arith, z))))
six-last false true c d e f = ((λ z. absurd (omega (arith, z))), (λ z. absurd (omega (arith, z))))
six-last false false true d e f = ((λ z. absurd (omega (arith, z))), (λ z. absurd (omega (arith, z))))
six-last false false false true e f = ((λ z. absurd (omega (arith, z))), (λ z. absurd (omega (arith, z))))
six-last false false false false true f = ((λ z. absurd (omega (arith, z))), (λ z. absurd (omega (arith, z))))
six-last false false false false false true = ((λ z. absurd (omega (arith, z))), (λ z. refl))
six-last false false false false false false = ((λ z. refl), (λ z. absurd (omega (arith, z))))

-- the six, one after the other
module _ (form k word next : ℕ) (bits : List ℕ) where
  abbrev pub A : ℕ
  A = answer (frame_refusals form k word next bits)

  abbrev t₁ : Bool
  t₁ = leb (2 ^ 14) word

  abbrev t₂ : Bool
  t₂ = leb (2 ^ 6) next

  abbrev t₃ : Bool
  t₃ = not (eqb (value_of (carried sync form k bits)) word)

  abbrev t₄ : Bool
  t₄ = not (stuffing_right form k bits)

  abbrev t₅ : Bool
  t₅ = not (eqb (value_of (behind unused form k bits)) 0)

  abbrev t₆ : Bool
  t₆ = not (eqb next (due_of form k bits))

  pub one : t₁ ≡ true → 4 ≡ A
  one a = sym (ap (λ (x : Bool). six x t₂ t₃ t₄ t₅ t₆) a)

  pub two : t₁ ≡ false → t₂ ≡ true → 4 ≡ A
  two a b = sym (ap₂ (λ (x y : Bool). six x y t₃ t₄ t₅ t₆) a b)

  module _ (a : t₁ ≡ false) (b : t₂ ≡ false) where
    pub past : six false false t₃ t₄ t₅ t₆ ≡ A
    past = sym (ap₂ (λ (x y : Bool). six x y t₃ t₄ t₅ t₆) a b)

    pub three-is : t₃ ≡ true → 5 ≡ A
    three-is c = sym (ap (λ (x : Bool). six false false x t₄ t₅ t₆) c) ∙ past

    pub four_is : t₃ ≡ false → t₄ ≡ true → 9 ≡ A
    four_is c d = sym (ap₂ (λ (x y : Bool). six false false x y t₅ t₆) c d) ∙ past

    pub five-is : t₃ ≡ false → t₄ ≡ false → t₅ ≡ true → 6 ≡ A
    five-is c d e = sym (ap₂ (λ (x y : Bool). six false false x y t₅ t₆) c d ∙ ap (λ (x : Bool). six false false false false x t₆) e) ∙ past

    module _ (c : t₃ ≡ false) (d : t₄ ≡ false) (e : t₅ ≡ false) where
      to_last : six false false false false false t₆ ≡ A
      to_last = sym (ap₂ (λ (x y : Bool). six false false x y t₅ t₆) c d ∙ ap (λ (x : Bool). six false false false false x t₆) e) ∙ past

      pub six-is : t₆ ≡ true → 7 ≡ A
      six-is f = sym (ap (λ (x : Bool). six false false false false false x) f) ∙ to_last

      pub none_is : t₆ ≡ false → 0 ≡ A
      none_is f = sym (ap (λ (x : Bool). six false false false false false x) f) ∙ to_last

-- what is answered where a room, a form or a size is refused
module _ (form k word next : ℕ) (frame : List ℕ) where
  pub first-refused : (n : ℕ) → n ≡ answer (crc_refusals form k frame) → 1 ≤ n → DataChecked form k word next frame n
  first-refused n e h =
      record {
        answered = sym (stopped (crc_refusals form k frame) (frame_refusals form k word next (bits_of frame)) (λ z. omega (arith, e, h, z)) ∙ sym e);
        due_right = λ z. absurd (omega (arith, h, z));
        due_wrong = λ z. absurd (not-seven (is_room form (length frame)) (lib.Dec.ltb 1 form) (is_size k) (sym e ∙ z));
      }

-- and where they are right
module _ (r : Room) (word next : ℕ) where
  abbrev F : ℕ
  F = form_in r

  abbrev K : ℕ
  K = r.size

  abbrev B : List ℕ
  B = bits_in r

  -- the two directions of the last check
  last : (answer (frame_refusals F K word next B) ≡ 0 → not (eqb next (due_of F K B)) ≡ false)
      × (answer (frame_refusals F K word next B) ≡ 7 → not (eqb next (due_of F K B)) ≡ true)
  last =
      six-last (t₁ F K word next B) (t₂ F K word next B) (t₃ F K word next B) (t₄ F K word next B) (t₅ F K word next B) (t₆ F K word next B)

  pub then-answered : (n : ℕ) → n ≡ answer (frame_refusals F K word next B) → DataChecked F K word next r.octets.now n
  then-answered n e =
      let bits = bits-bits r.octets.now in
      record {
        answered = e ∙ sym (behind-is F K r.octets.now (fits F K r.octets.now (room-fits r)) (frame_refusals F K word next B));
        due_right = λ z. subst (Due F K B) (sym (eqb-true next (due_of F K B) (not-false _ (last.0 (sym e ∙ z))))) (due F K B bits);
        due_wrong = λ z d. eqb-false next (due_of F K B) (not-true _ (last.1 (sym e ∙ z))) (due-one F K B bits next d);
      }

  pub then-refused : (form k : ℕ) (frame : Bor (List ℕ)) (e : Refused) → IsRoomOf form k frame r → StuffingGiven r word next (Err e)
      → VerdictGiven form k word next frame (Err e)
  then-refused form k frame e i s =
      record {
        given = tt;
        checked = by-room (λ f n o. DataChecked f n word next o.now (number_of e)) form k frame r i (then-answered (number_of e) s.answered);
      }

  pub found-right : (form k : ℕ) (frame : Bor (List ℕ)) (n six : ℕ) → IsRoomOf form k frame r → StuffingGiven r word next (Ok n) → six ≡ (carried_by r).crc
      → VerdictGiven form k word next frame (Ok (record { stuffing = n; crc = six }))
  found-right form k frame n six i s e =
      record {
        given = record {
          room = r;
          room_is = i;
          stuffing_is = by-room (λ f m o. n ≡ (overhead_in f m (bits_of o.now)).stuffing) form k frame r i s.given;
          crc_is = by-room (λ f m o. six ≡ (overhead_in f m (bits_of o.now)).crc) form k frame r i e;
        };
        checked = by-room (λ f m o. DataChecked f m word next o.now 0) form k frame r i (then-answered 0 s.answered);
      }
