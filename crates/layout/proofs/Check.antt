-- The test of the check bits is the division: it holds where they are the message's remainder, and nowhere else. Assumes nothing.
use mathlib.Core.Path.{◌≡◌, sym, ap, ◌∙◌, subst}
use mathlib.Core.Bool.{Bool, true, false, not, ◌||◌}
use mathlib.Core.List.{List, ◌∷◌}
use Prim.Native.Nat.{ℕ}
use native.Mathlib.Omega.{arith}
use borrow.Author.Tests.{eq-eqb}
use lib.Dec.{eqb, lit≤}
use lib.ListN.{drop}
use Rattle.answer.specs.Answer.{Refusal, refuse, answer}
use Rattle.answer.proofs.Laws.{passed}
use Rattle.octets.specs.Bits.{value_of}
use Rattle.octets.proofs.Digits.{Bits, take-bits, drop_bits}
use Rattle.remainder.specs.Division.{polynomial, Remainder, generator}
use Rattle.remainder.proofs.Division.{exists, computed}
use Rattle.remainder.proofs.Errors.{generator-degree}
use Rattle.layout.specs.Places.{check_field, pad_field}
use Rattle.layout.specs.Frame.{training_sync, final_sync, field_of, message_of, check_of}
use Rattle.layout.specs.Refusals.{has_sync, RightCheck, bit_refusals}
use Rattle.layout.proofs.RoundTrip.{sound}

module _ (B : List ℕ) (h : Bits B) where
  message-bits : Bits (message_of B)
  message-bits = take-bits 4197 (drop 14 B) (drop_bits 14 B h)

  -- bits that are not refused
  pub check_right : answer (bit_refusals B) ≡ 0 → RightCheck B
  check_right z = subst (Remainder 16 generator (message_of B)) (sym (sound B z).checked)
      (exists 16 generator (lit≤ tt) generator-degree (message_of B) message-bits)

  -- bits that are refused with 7
  pub check_wrong : answer (bit_refusals B) ≡ 7 → RightCheck B → ⊥
  check_wrong z r =
      let same : eqb (polynomial (field_of check_field B)) (check_of (message_of B)) ≡ true =
      eq-eqb _ _ (computed 16 generator (lit≤ tt) generator-degree (message_of B) (polynomial (field_of check_field B)) message-bits r) in
      omega (
        arith,
        past (not (has_sync training_sync B || has_sync final_sync B)) (not (eqb (value_of (field_of pad_field B)) 0)) (drop 3 (bit_refusals B)) (ap not same) z,
      )
    where
      -- a 7 that is not for the check bits is for what is looked at behind them
      past : (s p : Bool) {c : Bool} (ts : List Refusal) → c ≡ false → answer (refuse 5 s ∷ refuse 6 p ∷ refuse 7 c ∷ ts) ≡ 7 → answer ts ≡ 7
      past true p ts n e = absurd (omega arith)
      past false true ts n e = absurd (omega arith)
      past false false ts n e = sym (passed 7 ts n) ∙ e
