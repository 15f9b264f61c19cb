-- What the receiver's functions promise. A call is an equation over state, line, lump, count and frame room; theorem `any-cut` says what calls one
-- after the other give.
use Rattle.std.specs.Prelude.{◌≡◌, Bool, cond, ◌&&◌, List, [], ◌∷◌, ◌++◌, ℕ, zero, suc, ◌+◌, ◌-◌, ◌*◌, leb, ltb, length, drop}
use Rattle.std.specs.Prelude.{Option, None, Some, Result, Ok, Err}
use Rattle.answer.specs.Answer.{Refusal, refuse, wrong_length, answer, held}
use Rattle.answer.specs.Given.{number_of}
use Rattle.answer.specs.declared.Refused.{Refused}
use Rattle.octets.specs.Bits.{bits_of, octets_of, part}
use Rattle.layout.specs.Places.{frame_length}
use Rattle.scrambler.specs.Promises.{unknown_end}
use Rattle.receiver.specs.Stream.{frame_bits, reach, frame_at, lies_at}
use Rattle.receiver.specs.declared.Receiver.{Receiver}
use Rattle.receiver.specs.declared.Received.{Received}

-- what a start or a call comes to, as C has it: the answer; 1 and its place where a frame is given, else 0 and 0; and the state to go on with
pub record Got : Type 0 where
  pub answer : ℕ
  pub given : ℕ
  pub place : ℕ
  pub next : Receiver

-- the flag of a place that may be given, and the place
abbrev pub given_of : Option ℕ → ℕ
given_of None = 0
given_of (Some p) = 1

abbrev pub place_of_given : Option ℕ → ℕ
place_of_given None = 0
place_of_given (Some p) = p

-- that, of what a start gives: a refused one leaves a state in which no bit was heard
abbrev pub started : ℕ → Result Receiver Refused → Got
started end (Ok next) = record { answer = 0; given = 0; place = 0; next = next }
started end (Err e) = record { answer = number_of e; given = 0; place = 0; next = record { end = end; heard = 0; from = 0 } }

-- and of what a call gives: a refused one leaves the state
abbrev pub got : Receiver → Result Received Refused → Got
got x (Ok r) = record { answer = 0; given = given_of r.place; place = place_of_given r.place; next = r.next }
got x (Err e) = record { answer = number_of e; given = 0; place = 0; next = x }

-- a call takes at most 4,096 bits
abbrev pub most_bits : ℕ
most_bits = 4096

-- and all calls together 4,294,967,295
abbrev pub most_heard : ℕ
most_heard = 4294967295

-- the line room keeps the last bits of the line, oldest first, in so many octets
abbrev pub line_length : ℕ
line_length = 532

-- 4,256 bits: a frame that ends with the next bit, the 23 before it, and what fills the last octet
abbrev pub kept_bits : ℕ
kept_bits = 8 * line_length

-- Receiver::start: no bit was heard, and no place is left out
abbrev pub StartPromise : ℕ → Got → Type 0
StartPromise end r =
    r ≡ record { answer = answer (unknown_end end ∷ []); given = 0; place = 0; next = record { end = end; heard = 0; from = 0 } }

-- 1: a count over the lump, or a line or frame room of another length; 2: an unknown end; 4: too many bits, in this call or in all
abbrev pub receive_refusals : Receiver → List ℕ → List ℕ → ℕ → List ℕ → List Refusal
receive_refusals x line lump count frame =
    refuse 1 (ltb (8 * length lump) count) ∷ wrong_length line line_length ∷ wrong_length frame frame_length ∷ unknown_end x.end
    ∷ refuse 4 (ltb most_bits count) ∷ refuse 4 (ltb most_heard (x.heard + count)) ∷ []

-- the bits kept, and then the lump's. Their place b is place heard + b - 4,256 of the line
abbrev pub joined : List ℕ → List ℕ → ℕ → List ℕ
joined line lump count = bits_of line ++ part 0 count (bits_of lump)

-- whether a frame lies at their place b, with 23 bits of the line before it and not before the place to go on from
abbrev pub takes : Receiver → List ℕ → ℕ → Bool
takes x bits b = leb (reach + kept_bits) (x.heard + b) && (leb (x.from + kept_bits) (x.heard + b) && lies_at x.end bits b)

-- the first of n places from b on that a test takes; the place behind them where it takes none
unfoldable pub first_that : (ℕ → Bool) → ℕ → ℕ → ℕ
first_that test b zero = b
first_that test b (suc n) = cond (test b) b (first_that test (suc b) n)

-- the first bit of the lump can end a frame that begins at place 30 of the joined bits
abbrev pub ahead : ℕ
ahead = kept_bits + 1 - frame_bits

-- the place of the joined bits at which a frame is given; the one behind all that the lump can end where there is none
abbrev pub found : Receiver → List ℕ → List ℕ → ℕ → ℕ
found x line lump count = first_that (takes x (joined line lump count)) ahead count

-- whether one is given: the place b is one that the lump can end
abbrev pub gives : ℕ → ℕ → Bool
gives b count = ltb b (ahead + count)

-- its place on the line
abbrev pub place_on : Receiver → ℕ → ℕ
place_on x b = x.heard + b - kept_bits

-- the state afterwards: as many bits more, and the place behind the last bit of the frame that was given
abbrev pub after : Receiver → ℕ → ℕ → Receiver
after x b count = record { end = x.end; heard = x.heard + count; from = cond (gives b count) (place_on x b + frame_bits) x.from }

-- what is returned; with a refusal the same state and nothing else
abbrev pub received_of : ℕ → Receiver → ℕ → ℕ → Got
received_of zero x b count =
    record { answer = 0; given = cond (gives b count) 1 0; place = cond (gives b count) (place_on x b) 0; next = after x b count }
received_of (suc n) x b count = record { answer = suc n; given = 0; place = 0; next = x }

-- the line room afterwards: the last 4,256 of the joined bits
abbrev pub line_after : List ℕ → List ℕ → ℕ → List ℕ
line_after line lump count = octets_of line_length (drop count (joined line lump count))

-- the frame room afterwards: the frame where one is given, else what it held
abbrev pub room_after : ℕ → List ℕ → ℕ → ℕ → List ℕ → List ℕ
room_after end bits b count frame = cond (gives b count) (frame_at end bits b) frame

-- Receiver::receive
pub record ReceivePromise (x : Receiver) (line lump : List ℕ) (count : ℕ) (frame : List ℕ) (r : Got) (line' frame' : List ℕ) : Type 0 where
  pub returned : r ≡ received_of (answer (receive_refusals x line lump count frame)) x (found x line lump count) count
  pub line_left : line' ≡ held (answer (receive_refusals x line lump count frame)) line (line_after line lump count)
  pub room_left : frame' ≡ held (answer (receive_refusals x line lump count frame)) frame
      (room_after x.end (joined line lump count) (found x line lump count) count frame)
