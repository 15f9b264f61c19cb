-- What reading a message gives its line. Assumes nothing.
use mathlib.Core.Path.{◌≡◌, refl, sym, ap, ap₂, ◌∙◌}
use mathlib.Core.List.{List}
use Prim.Native.Nat.{ℕ, zero, suc, ◌-◌, ◌≤◌}
use native.Mathlib.Omega.{arith}
use lib.ListN.{length, take, replicate}
use lib.Seq.{take_at}
use Rattle.std.specs.Prelude.{Ok}
use Rattle.answer.specs.Answer.{answer}
use Rattle.answer.proofs.Laws.{given}
use Rattle.eoc.specs.Message.{contents_most, padded}
use Rattle.eoc.specs.Reading.{message_in}
use Rattle.eoc.specs.Refusals.{form_refusals}
use Rattle.eocreader.specs.declared.Found.{Found}
use Rattle.eocreader.specs.Promises.{MessageRead}
use Rattle.eoclisting.specs.Line.{message_line, refused_line, line_by, line_of}

-- a refusal
pub refused-line : (s : List ℕ) (n a : ℕ) → 1 ≤ a → a ≡ answer (form_refusals s) → refused_line n a ≡ line_of n s
unfolding line_by
refused-line s n zero h e = absurd (omega arith)
refused-line s n (suc a) h e = ap (λ (k : ℕ). line_by k n s) e

-- a message
module _ (s exit : List ℕ) (f : Found) (p : MessageRead s (replicate 73 0) (Ok f) exit) where
  read-contents : take f.length exit ≡ (message_in s).contents
  read-contents =
      let m = (message_in s).contents in
      ap₂ (λ (x : Found) (l : List ℕ). take x.length l) p.numbers (p.room_left ∙ given _ (replicate 73 0) (padded contents_most m) (sym p.answered))
      ∙ take_at m (replicate (contents_most - length m) 0) (length m) refl

  pub read-line : (n : ℕ) → message_line n (record { source = f.source; destination = f.destination; number = f.number; contents = take f.length exit }) ≡ line_of n s
  unfolding line_by
  read-line n =
      ap₂
      (λ (x : Found) (l : List ℕ). message_line n (record { source = x.source; destination = x.destination; number = x.number; contents = l }))
      p.numbers read-contents
      ∙ ap (λ (k : ℕ). line_by k n s) p.answered
