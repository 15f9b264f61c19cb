-- What a room of a right form and size holds, and what is read in it.
use Rattle.std.specs.Prelude.{◌≡◌, List, ℕ, ◌^◌, ◌<◌, min}
use Rattle.std.specs.Borrow.{Bor}
use Rattle.octets.specs.Bits.{bits_of}
use Rattle.bitfields.specs.Promises.{FieldRead}
use Rattle.dataframe.specs.declared.Room.{Room}
use Rattle.dataframe.specs.declared.Overhead.{Overhead}
use Rattle.dataframe.specs.Forms.{form_number}
use Rattle.dataframe.specs.Frame.{overhead_in, payload_in, Due}
use Rattle.dataframe.specs.Places.{block}

-- its form, by number
abbrev pub form_in : Room → ℕ
form_in r = form_number r.form

-- its bits
abbrev pub bits_in : Room → List ℕ
bits_in r = bits_of r.octets.now

-- what the frame in it carries beside payload and sync word
abbrev pub carried_by : Room → Overhead
carried_by r = overhead_in (form_in r) r.size (bits_in r)

-- and its payload's octets
abbrev pub payload_at : Room → List ℕ
payload_at r = payload_in (form_in r) r.size (bits_in r)

-- the six that the next frame has to carry
abbrev pub DueIn : Room → ℕ → Type 0
DueIn r six = Due (form_in r) r.size (bits_in r) six

-- the room that a form's number, a size and lent octets make
pub record IsRoomOf (form k : ℕ) (octets : Bor (List ℕ)) (r : Room) : Type 0 where
  pub form_is : form_in r ≡ form
  pub size_is : r.size ≡ k
  pub octets_are : r.octets ≡ octets

-- Room::block
abbrev pub BlockGiven : Room → ℕ → Type 0
BlockGiven r n = n ≡ block r.size

-- Room::piece: the number, which has w digits
abbrev pub PieceRead : Room → ℕ → ℕ → ℕ → Type 0
PieceRead r at w n = FieldRead r.octets.now at w n × (n < 2 ^ min w 32)
