-- What writing, checking and reading a data-mode frame refuse, in SCOPE's order for them: 1, 2, 4, 5, 9, 6, 7.
use Rattle.std.specs.Prelude.{Bool, not, ◌&&◌, ◌||◌, List, [], ◌∷◌, ◌++◌, ℕ, ◌-◌, ◌^◌, eqb, leb, ltb, length}
use Rattle.answer.specs.Answer.{Refusal, refuse, wrong_length}
use Rattle.octets.specs.Bits.{value_of, bits_of}
use Rattle.dataframe.specs.declared.Overhead.{Overhead}
use Rattle.dataframe.specs.Table.{synchronous, plesiochronous, is_size, payload_length, sync, stuffing, unused, room_of}
use Rattle.dataframe.specs.Frame.{carried, sbid1, sbid2, stuffed_in, behind, due_of}

-- the order
abbrev pub data_order : List ℕ
data_order = 1 ∷ 2 ∷ 4 ∷ 5 ∷ 9 ∷ 6 ∷ 7 ∷ []

-- 1: whether so many octets are the room of a form; of an unknown form, of either
abbrev pub is_room : ℕ → ℕ → Bool
is_room form n = (eqb n (room_of synchronous) && not (eqb form plesiochronous)) || (eqb n (room_of plesiochronous) && not (eqb form synchronous))

-- so a frame is refused that is no such room
abbrev pub no_room : ℕ → List ℕ → Refusal
no_room form frame = refuse 1 (not (is_room form (length frame)))

-- 2: neither synchronous nor plesiochronous
abbrev pub no_form : ℕ → Refusal
no_form form = refuse 2 (ltb plesiochronous form)

-- 4: a size outside its range
abbrev pub no_size : ℕ → Refusal
no_size k = refuse 4 (not (is_size k))

-- and a number of more than w bits
abbrev pub too_wide : ℕ → ℕ → Refusal
too_wide w n = refuse 4 (leb (2 ^ w) n)

-- the six that a frame carries and the six due: only the room, the form and the size are looked at
abbrev pub crc_refusals : ℕ → ℕ → List ℕ → List Refusal
crc_refusals form k frame = no_room form frame ∷ no_form form ∷ no_size k ∷ []

-- 9: stuffing that the form cannot have. Four bits or none in the plesiochronous, none in the synchronous
abbrev pub is_stuffing : ℕ → ℕ → Bool
is_stuffing form n = eqb n 0 || (eqb form plesiochronous && eqb n 4)

-- spare is looked at in the synchronous form only
abbrev pub end_refusals : ℕ → ℕ → ℕ → List Refusal
end_refusals form extra stuffed = refuse 4 (eqb form synchronous && leb (2 ^ 4) extra) ∷ refuse 9 (not (is_stuffing form stuffed)) ∷ []

-- what is to stand in a frame
abbrev pub value_refusals : ℕ → ℕ → Overhead → List Refusal
value_refusals form word o =
    too_wide 14 word ∷ too_wide 4 o.indicators ∷ too_wide 20 o.eoc ∷ too_wide 6 o.crc ∷ end_refusals form o.spare o.stuffing

-- writing
abbrev pub write_refusals : ℕ → ℕ → ℕ → Overhead → List ℕ → List ℕ → List Refusal
write_refusals form k word o octets frame = wrong_length octets (payload_length k) ∷ crc_refusals form k frame ++ value_refusals form word o

-- sbid1 and sbid2 say the same, and the stuffing bits that they announce are ONE
abbrev pub stuffing_right : ℕ → ℕ → List ℕ → Bool
stuffing_right form k bits =
    eqb (sbid1 form k bits) (sbid2 form k bits) && eqb (value_of (behind stuffing form k bits)) (2 ^ stuffed_in form k bits - 1)

-- what is wrong with a frame's bits: sync is not the word given, stuffing, the room behind it; and the six that the next frame carries are not its own
abbrev pub bit_refusals : ℕ → ℕ → ℕ → ℕ → List ℕ → List Refusal
bit_refusals form k word next bits =
    refuse 5 (not (eqb (value_of (carried sync form k bits)) word))
    ∷ refuse 9 (not (stuffing_right form k bits))
    ∷ refuse 6 (not (eqb (value_of (behind unused form k bits)) 0))
    ∷ refuse 7 (not (eqb next (due_of form k bits))) ∷ []

-- of a room, a form and a size that are right, the two numbers given and the bits
abbrev pub frame_refusals : ℕ → ℕ → ℕ → ℕ → List ℕ → List Refusal
frame_refusals form k word next bits = too_wide 14 word ∷ too_wide 6 next ∷ bit_refusals form k word next bits

-- checking a frame
abbrev pub check_refusals : ℕ → ℕ → ℕ → ℕ → List ℕ → List Refusal
check_refusals form k word next frame = crc_refusals form k frame ++ frame_refusals form k word next (bits_of frame)

-- reading one
abbrev pub read_refusals : ℕ → ℕ → ℕ → ℕ → List ℕ → List ℕ → List Refusal
read_refusals form k word next frame octets = wrong_length octets (payload_length k) ∷ check_refusals form k word next frame
