-- Bits as they come off the line (SCOPE, "Bits off the line"): 0 and 1, the first heard first. Places count from 0 at the first bit.
use Rattle.std.specs.Prelude.{Bool, ◌&&◌, ◌||◌, List, ◌++◌, reverse, ℕ, ◌+◌, ◌-◌, eqb, leb, length, drop, replicate}
use Rattle.answer.specs.Answer.{answer}
use Rattle.octets.specs.Bits.{value_of, octets_of, part}
use Rattle.layout.specs.Places.{pad_width, frame_length, place_of, pad_field}
use Rattle.layout.specs.Frame.{training_sync, final_sync}
use Rattle.layout.specs.Refusals.{has_sync, check_refusals}
use Rattle.recurrence.specs.declared.Way.TheVariants.{Descramble as descramble}
use Rattle.scrambler.specs.Promises.{frame_out}

-- a frame's bits on the line: 4,227, all but the pad
abbrev pub frame_bits : ℕ
frame_bits = place_of pad_field

-- "at least 23 bits before it"
abbrev pub reach : ℕ
reach = 23

-- "those 23 bits as state": the last before place p, the one right before it at weight 1
abbrev pub state_at : List ℕ → ℕ → ℕ
state_at bits p = value_of (reverse (part (p - reach) reach bits))

-- the frame's bits from place p on as they were heard, in octets, pad zero
abbrev pub heard_at : List ℕ → ℕ → List ℕ
heard_at bits p = octets_of frame_length (part p frame_bits bits ++ replicate pad_width 0)

-- the same descrambled, by the tap of the end that is heard: sync stands plain and does not clock
unfoldable pub frame_at : ℕ → List ℕ → ℕ → List ℕ
frame_at end bits p = frame_out descramble (record { end = end; state = state_at bits p }) (heard_at bits p)

-- "where the sync word stands": either of the two
abbrev pub synced : List ℕ → ℕ → Bool
synced bits p = has_sync training_sync (drop p bits) || has_sync final_sync (drop p bits)

-- "reads with answer 0": the verdict of checking
abbrev pub reads : ℕ → List ℕ → ℕ → Bool
reads end bits p = eqb (answer (check_refusals (frame_at end bits p))) 0

-- A FRAME LIES AT A PLACE "with at least 23 bits before it, where the sync word stands and the rest, descrambled with those 23 bits as state,
-- reads with answer 0"
unfoldable pub lies_at : ℕ → List ℕ → ℕ → Bool
lies_at end bits p = leb reach p && (leb (p + frame_bits) (length bits) && (synced bits p && reads end bits p))
