-- READERS THAT ARE WRONG ABOUT RESERVED BITS, which have to be rejected by demand 2 as those of WrongLibraries.antt: what such a one does with
-- training frames.
use Rattle.std.specs.Prelude.{◌≡◌, ℕ}
use Rattle.answer.specs.Answer.{answer}
use Rattle.octets.specs.Bits.{value_of}
use Rattle.demands.specs.Handed.{Outcome, ReadCall, Fields, Rooms}
use Rattle.demands.specs.Library.{Library}
use Rattle.demands.specs.Checks.{read_checks}
use Rattle.demands.specs.Frames.{reserved_in, none_set, Trains}
use Rattle.demands.specs.WrongLibraries.{Unwritten}

-- the reserved bits of a frame as a number: 0 where none is set
abbrev pub reserved_number : ReadCall → ℕ
reserved_number c = value_of (reserved_in c.frame)

-- a reader that turns a training frame away for its reserved bits: no check applies, some of them are set, and 0 is not the answer
abbrev pub TurnsAway : (ReadCall → Outcome Fields Rooms) → Type 0
TurnsAway f = (c : ReadCall) × Trains c × (reserved_number c ≡ 0 → ⊥) × ((f c).answer ≡ 0 → ⊥)

-- and does so with no other: each other call has the answer that is due
abbrev pub ElseAsDue : (ReadCall → Outcome Fields Rooms) → Type 0
ElseAsDue f = (c : ReadCall) → (Trains c → reserved_number c ≡ 0) → (f c).answer ≡ answer (read_checks c)

-- a reader that hands back nine zeros for every training frame
abbrev pub HandsZeros : Library → Type 0
HandsZeros x = (c : ReadCall) → (x.read c).answer ≡ 0 → (x.read c).numbers.kind ≡ 0 → (x.read c).memory.reserved ≡ none_set

-- a reader that leaves the nine octets unwritten
abbrev pub ReservedUnwritten : Library → Type 0
ReservedUnwritten x = Unwritten x.read (λ m. m.reserved) (λ c. c.reserved)

-- a library is none of these (theorem `reserved-rejected`: none that meets demand 2 is)
pub record RejectedReserved (x : Library) : Type 0 where
  pub turns_away : TurnsAway x.read → ⊥
  pub hands_zeros : HandsZeros x → ⊥
  pub reserved_unwritten : ReservedUnwritten x → ⊥
