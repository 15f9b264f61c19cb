-- Frames as an end's scrambler sends them, one behind the other, and what has to come out of them.
use Rattle.std.specs.Prelude.{◌≡◌, List, [], ◌∷◌, ◌++◌, ℕ, ◌+◌, ◌<◌, get_or, take}
use Rattle.answer.specs.Answer.{answer}
use Rattle.octets.specs.Bits.{bits_of}
use Rattle.layout.specs.Refusals.{check_refusals}
use Rattle.recurrence.specs.Run.{after_of}
use Rattle.recurrence.specs.declared.Way.TheVariants.{Scramble as scramble}
use Rattle.scrambler.specs.Ends.{tap_of}
use Rattle.scrambler.specs.Promises.{clocked, frame_out}
use Rattle.scrambler.specs.declared.Scrambler.{Scrambler}
use Rattle.receiver.specs.Stream.{frame_bits}
use Rattle.receiver.specs.Given.{Given}

-- the bits of a frame on the line, scrambled: all but the pad
abbrev pub sent_bits : Scrambler → List ℕ → List ℕ
sent_bits x frame = take frame_bits (bits_of (frame_out scramble x frame))

-- frames that check with 0
pub data Good : List (List ℕ) → Type 0 where
  none : Good []
  more : (f : List ℕ) (fs : List (List ℕ)) → ((i : ℕ) → get_or f i 0 < 256) → answer (check_refusals f) ≡ 0 → Good fs → Good (f ∷ fs)

-- the scrambler to go on with
abbrev pub after_frame : Scrambler → List ℕ → Scrambler
after_frame x frame = record { end = x.end; state = after_of scramble (tap_of x.end) x.state (clocked frame) }

-- frames on end
unfoldable pub on_end : Scrambler → List (List ℕ) → List ℕ
on_end x [] = []
on_end x (f ∷ fs) = sent_bits x f ++ on_end (after_frame x f) fs

-- each with its place, from p on
unfoldable pub placed_from : ℕ → List (List ℕ) → List Given
placed_from p [] = []
placed_from p (f ∷ fs) = record { place = p; frame = f } ∷ placed_from (p + frame_bits) fs

-- one of what is given begins before place n and ends behind it
pub data Across (n : ℕ) : List Given → Type 0 where
  here : (g : Given) (gs : List Given) → g.place < n → n < g.place + frame_bits → Across n (g ∷ gs)
  there : (g : Given) (gs : List Given) → Across n gs → Across n (g ∷ gs)
