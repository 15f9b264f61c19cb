-- What the functions that put text into a lent room promise. `sets room at text` of the library is the room with the text stored from
-- place `at` on.
use Rattle.std.specs.Prelude.{◌≡◌, List, ◌++◌, ℕ, ◌+◌, ◌-◌, min, length, take, drop}
use Rattle.std.proofs.lemmas.List.Edits.{sets}
use Rattle.ascii.specs.declared.Text.{Text}

-- a text put into a room from a place on: what would lie past the room's end is left out, and the next place is that behind what is put
pub record Put (room : List ℕ) (at : ℕ) (text : List ℕ) (next : ℕ) (exit : List ℕ) : Type 0 where
  pub behind : next ≡ at + min (length text) (length room - at)
  pub laid : exit ≡ sets room at text

-- a whole text put from the room's start on: its first r octets are the text, cut where the room ends; the others are as they were
pub record Told (text room : List ℕ) (r : ℕ) (exit : List ℕ) : Type 0 where
  pub count : r ≡ min (length text) (length room)
  pub room_left : exit ≡ take r text ++ drop r room

-- a text put by a method of `Text`: into the same room, from its place on
pub record Puts (old : Text) (text : List ℕ) (new : Text) : Type 0 where
  pub lent : new.room.ghost_name ≡ old.room.ghost_name
  pub put : Put old.room.now old.at text new.at new.room.now
