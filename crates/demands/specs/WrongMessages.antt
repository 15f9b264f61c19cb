-- LIBRARIES WITH WRONG OPERATIONS CHANNEL MESSAGES, which have to be rejected by demand 2 as those of WrongLibraries.antt: what such a one does, over calls
-- that are answered.
use Rattle.std.specs.Prelude.{◌≡◌, List, ◌∷◌, map, ℕ, length}
use Rattle.eoc.specs.Reading.{message_in}
use Rattle.eocunits.specs.Units.{held_for, own_of, records_in, joined}
use Rattle.demands.specs.HandedEoc.{EocWriteCall, EocUnitsCall}
use Rattle.demands.specs.Library.{Library}
use Rattle.demands.specs.WrongLibraries.{Refuses, Unwritten}

-- a writer that gives one form always
abbrev pub OneForm : Library → Type 0
OneForm x = (form : List ℕ) × ((c : EocWriteCall) → (x.eoc_write c).answer ≡ 0 → (x.eoc_write c).memory ≡ form)

-- one that leaves the room unwritten
abbrev pub FormUnwritten : Library → Type 0
FormUnwritten x = Unwritten x.eoc_write (λ m. m) (λ c. c.room)

-- a reader that leaves the contents unwritten
abbrev pub ContentsUnwritten : Library → Type 0
ContentsUnwritten x = Unwritten x.eoc_read (λ m. m) (λ c. c.contents)

-- a library that hands every message up to every unit: all of them took it, and each record holds it
abbrev pub HandsAll : Library → Type 0
HandsAll x = (c : EocUnitsCall) → (x.eoc_hand_up c).answer ≡ 0 → let m = message_in c.octets in
    ((x.eoc_hand_up c).numbers ≡ length (records_in c.units))
    × ((x.eoc_hand_up c).memory ≡ joined (map (λ (r : List ℕ). own_of r ∷ held_for m) (records_in c.units)))

-- one that hands nothing up: all records stay
abbrev pub HandsNothing : Library → Type 0
HandsNothing x = Unwritten x.eoc_hand_up (λ m. m) (λ c. c.units)

-- a library is none of these (theorem `messages-rejected`: none whose messages are those of `Messages` is)
pub record RejectedMessages (x : Library) : Type 0 where
  -- by its sentence `written_form`
  pub refuses_writing : Refuses x.eoc_write → ⊥
  pub one_form : OneForm x → ⊥
  pub form_unwritten : FormUnwritten x → ⊥
  -- `read`
  pub refuses_reading : Refuses x.eoc_read → ⊥
  pub contents_unwritten : ContentsUnwritten x → ⊥
  -- `handed_up`
  pub refuses_handing : Refuses x.eoc_hand_up → ⊥
  pub hands_all : HandsAll x → ⊥
  pub hands_nothing : HandsNothing x → ⊥
