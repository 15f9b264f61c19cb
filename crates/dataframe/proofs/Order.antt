-- Checks run in SCOPE's order for data-mode frames; and the test of the six is the division: of a frame that is right otherwise the answer is 7
-- exactly where the six are not those due. Assumes nothing.
use mathlib.Core.Path.{◌≡◌, refl, sym, ap, ◌∙◌, subst}
use mathlib.Core.Bool.{Bool, true, false, not}
use mathlib.Core.Logic.{◌↔◌}
use mathlib.Core.List.{List, [], ◌∷◌}
use Prim.Native.Nat.{ℕ}
use native.Mathlib.Omega.{arith}
use borrow.Author.Tests.{eq-eqb, ne_eqb}
use lib.Dec.{eqb, lit≤, lit<}
use lib.ListN.{drop}
use Rattle.answer.specs.Answer.{refuse, answer}
use Rattle.answer.specs.Table.{in_turn}
use Rattle.answer.proofs.Laws.{passed, refused}
use Rattle.octets.specs.Bits.{value_of}
use Rattle.octets.proofs.Digits.{Bits}
use Rattle.places.proofs.Streams.{among-bits}
use Rattle.remainder.specs.Division.{Degree}
use Rattle.remainder.proofs.Division.{exists, computed}
use Rattle.dataframe.specs.declared.Overhead.{Overhead}
use Rattle.dataframe.specs.Table.{sync, unused, table}
use Rattle.dataframe.specs.Frame.{carried, behind, six_generator, is_covered, covered, due_of, Due}
use Rattle.dataframe.specs.Refusals.{data_order, crc_refusals, write_refusals, stuffing_right, bit_refusals, check_refusals, read_refusals}
use Rattle.dataframe.proofs.RoundTrip.{sound}

-- ---- the order

pub crc-order : (form k : ℕ) (frame : List ℕ) → in_turn data_order (crc_refusals form k frame) ≡ true
unfolding in_turn
crc-order form k frame = refl

pub write-order : (form k word : ℕ) (o : Overhead) (octets frame : List ℕ) → in_turn data_order (write_refusals form k word o octets frame) ≡ true
unfolding in_turn
write-order form k word o octets frame = refl

pub check-order : (form k word next : ℕ) (frame : List ℕ) → in_turn data_order (check_refusals form k word next frame) ≡ true
unfolding in_turn
check-order form k word next frame = refl

pub read-order : (form k word next : ℕ) (frame octets : List ℕ) → in_turn data_order (read_refusals form k word next frame octets) ≡ true
unfolding in_turn
read-order form k word next frame octets = refl

-- ---- the six

pub six-degree : Degree six_generator 6
six-degree = record { reached = lit≤ tt; within = lit< tt }

module _ (form k : ℕ) (B : List ℕ) (h : Bits B) where
  covered-bits : Bits (covered form k B)
  covered-bits = among-bits is_covered (table form k 0) B h

  -- what is computed is due, and nothing else is
  pub due : Due form k B (due_of form k B)
  due = exists 6 six_generator (lit≤ tt) six-degree (covered form k B) covered-bits

  pub due-one : (six : ℕ) → Due form k B six → six ≡ due_of form k B
  due-one six d = computed 6 six_generator (lit≤ tt) six-degree (covered form k B) six covered-bits d

  -- bits that are not refused
  pub due_right : (word next : ℕ) → answer (bit_refusals form k word next B) ≡ 0 → Due form k B next
  due_right word next z = subst (Due form k B) (sym (sound form k word next B z).due) due

  -- bits that are refused with 7
  pub due_wrong : (word next : ℕ) → answer (bit_refusals form k word next B) ≡ 7 → Due form k B next → ⊥
  due_wrong word next z d =
      let same : eqb next (due_of form k B) ≡ true = eq-eqb next (due_of form k B) (due-one next d) in
      never (not (eqb (value_of (carried sync form k B)) word)) (not (stuffing_right form k B)) (not (eqb (value_of (behind unused form k B)) 0))
      (subst (λ (t : Bool). answer (refuse 5 (not (eqb (value_of (carried sync form k B)) word)) ∷ refuse 9 (not (stuffing_right form k B))
      ∷ refuse 6 (not (eqb (value_of (behind unused form k B)) 0)) ∷ refuse 7 (not t) ∷ []) ≡ 7) same z)
    where
      never : (s p q : Bool) → answer (refuse 5 s ∷ refuse 9 p ∷ refuse 6 q ∷ refuse 7 false ∷ []) ≡ 7 → ⊥
      never true p q e = omega arith
      never false true q e = omega arith
      never false false true e = omega arith
      never false false false e = omega arith

  -- where all but the six is right, the answer is 7 exactly where they are not those due
  pub seven : (word next : ℕ) → value_of (carried sync form k B) ≡ word → stuffing_right form k B ≡ true → value_of (behind unused form k B) ≡ 0
      → (answer (bit_refusals form k word next B) ≡ 7) ↔ (Due form k B next → ⊥)
  seven word next a b c = (due_wrong word next, from)
    where
      from : (Due form k B next → ⊥) → answer (bit_refusals form k word next B) ≡ 7
      from n =
          let L = bit_refusals form k word next B in
          passed 5 (drop 1 L) (ap not (eq-eqb _ _ a)) ∙ passed 9 (drop 2 L) (ap not b) ∙ passed 6 (drop 3 L) (ap not (eq-eqb _ _ c))
          ∙ refused 7 (drop 4 L) (ap not (ne_eqb next (due_of form k B) (λ e. n (subst (Due form k B) (sym e) due))))
