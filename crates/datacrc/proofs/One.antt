-- One result per call. Assumes nothing.
use mathlib.Core.Path.{◌≡◌, sym, ◌∙◌}
use mathlib.Core.List.{List}
use Prim.Native.Nat.{ℕ}
use denote.Ref.{Bor}
use Rattle.std.specs.Prelude.{Result}
use Rattle.answer.specs.declared.Refused.{Refused}
use Rattle.answer.proofs.Given.{result-one}
use Rattle.dataframe.specs.declared.Room.{Room}
use Rattle.dataframe.specs.Rooms.{IsRoomOf}
use Rattle.dataframe.proofs.Rooms.{form-one, room-same}
use Rattle.datacrc.specs.declared.Sixes.{Sixes}
use Rattle.datacrc.specs.Promises.{RoomChecked, SixesGiven, CrcGiven}

-- one room of a form's number, a size and lent octets
pub is-room-one : (form k : ℕ) (octets : Bor (List ℕ)) (a b : Room) → IsRoomOf form k octets a → IsRoomOf form k octets b → a ≡ b
is-room-one form k octets a b p q =
    room-same a b (form-one a.form b.form (p.form_is ∙ sym q.form_is)) (p.size_is ∙ sym q.size_is) (p.octets_are ∙ sym q.octets_are)

pub room-one : (form k : ℕ) (octets : Bor (List ℕ)) (r r' : Result Room Refused) → RoomChecked form k octets r → RoomChecked form k octets r' → r ≡ r'
room-one form k octets r r' p q =
    result-one r r' (p.answered ∙ sym q.answered)
    (λ a b e f. is-room-one form k octets a b (rw e at p.given) (rw f at q.given))

pub sixes-in-one : (r : Room) (s s' : Sixes) → SixesGiven r s → SixesGiven r s' → s ≡ s'
sixes-in-one r s s' p q = p.given ∙ sym q.given

pub crc-one : (form k : ℕ) (frame : List ℕ) (r r' : Result Sixes Refused) → CrcGiven form k frame r → CrcGiven form k frame r' → r ≡ r'
crc-one form k frame r r' p q =
    result-one r r' (p.answered ∙ sym q.answered) (λ s t e f. (rw e at p.given) ∙ sym (rw f at q.given))
