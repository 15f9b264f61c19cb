-- Demand 2's first sentence of bits off the line, over libraries of any make: exactly what SCOPE sets out ("Bits off the line"). Where a frame lies, and
-- what is given of bits, is in receiver/specs/Stream.antt and Given.antt; what ends in a lump in receiver/specs/Calls.antt.
use Rattle.std.specs.Prelude.{◌≡◌, cond, ◌⊎◌, List, [], ◌∷◌, map, ℕ, ◌+◌, ◌*◌, ◌≤◌, eqb, length}
use Rattle.layout.specs.Places.{frame_length}
use Rattle.receiver.specs.Given.{Given, GivenOf}
use Rattle.receiver.specs.Promises.{most_bits, most_heard, line_length}
use Rattle.receiver.specs.Calls.{Lump, joined_bits, all_handed, shares}
use Rattle.host.specs.declared.receiving.Receiver.{Receiver}
use Rattle.demands.specs.HandedLine.{ReceiveCall}
use Rattle.demands.specs.Library.{Library}
use Rattle.demands.specs.Checks.{receive_start_checks}
use Rattle.demands.specs.Frames.{Right, done}

-- a call: a lump, and a frame room
pub record LumpCall : Type 0 where
  pub lump : Lump
  pub room : List ℕ

-- the lumps of calls
abbrev pub lumps_of : List LumpCall → List Lump
lumps_of ls = map (λ (l : LumpCall). l.lump) ls

-- such a call, with a state and a line room
abbrev pub call_of : Receiver → List ℕ → LumpCall → ReceiveCall
call_of state line l = record { state = state; line = line; lump = l.lump.octets; bits = l.lump.count; frame = l.room }

-- calls one after the other, each with what the one before left; what a host has of each: where `given` is 1, the place and the frame room
unfoldable pub outs_of : Library → Receiver → List ℕ → List LumpCall → List (List Given)
outs_of x state line [] = []
outs_of x state line (l ∷ ls) =
    let r = x.receive (call_of state line l) in
    cond (eqb r.numbers.given 1) (record { place = r.numbers.place; frame = r.memory.frame } ∷ []) []
    ∷ outs_of x r.memory.state r.memory.line ls

-- the same from a start
abbrev pub heard_by : Library → ℕ → List ℕ → List LumpCall → List (List Given)
heard_by x end line ls = outs_of x (x.receive_start end).memory line ls

-- no call of them is refused
pub data NoneRefused (x : Library) : Receiver → List ℕ → List LumpCall → Type 0 where
  none : (state : Receiver) (line : List ℕ) → NoneRefused x state line []
  one : (state : Receiver) (line : List ℕ) (l : LumpCall) (ls : List LumpCall) → (x.receive (call_of state line l)).answer ≡ 0
      → NoneRefused x (x.receive (call_of state line l)).memory.state (x.receive (call_of state line l)).memory.line ls
      → NoneRefused x state line (l ∷ ls)

-- lumps that fit: the count is within the lump and within 4,096, the frame room has 529 octets, and all bits do not pass 4,294,967,295 after so many
pub data AllFit : ℕ → List LumpCall → Type 0 where
  no_lump : (heard : ℕ) → AllFit heard []
  lump_fits : (heard : ℕ) (l : LumpCall) (ls : List LumpCall) → l.lump.count ≤ 8 * length l.lump.octets → l.lump.count ≤ most_bits
      → length l.room ≡ frame_length → heard + l.lump.count ≤ most_heard → AllFit (heard + l.lump.count) ls → AllFit heard (l ∷ ls)

-- BITS OFF THE LINE
pub record Receives (x : Library) : Type 0 where
  -- "The end whose bits are heard is told at the start." No bit was heard yet, and no place is left out
  pub started : (end : ℕ) → Right (receive_start_checks end)
      → x.receive_start end ≡ done (record { given = 0; place = 0 }) (record { end = end; heard = 0; from = 0 })
  -- "lumps of bits of odd sizes, starting in mid-frame", "an empty lump is legal", "One call takes at most 4,096 bits": lumps that fit are taken,
  -- whatever the line room holds at the start
  pub taken : (end : ℕ) (line : List ℕ) (ls : List LumpCall) → Right (receive_start_checks end) → length line ≡ line_length → AllFit 0 ls
      → NoneRefused x (x.receive_start end).memory line ls
  -- "The frames and places it gives are those of the joined bits read at once, however they were cut."
  pub given : (end : ℕ) (line : List ℕ) (ls : List LumpCall) (gs : List Given) → Right (receive_start_checks end) → length line ≡ line_length
      → NoneRefused x (x.receive_start end).memory line ls → GivenOf end (joined_bits (lumps_of ls)) gs → all_handed (heard_by x end line ls) ≡ gs
  -- "It hands out each frame in the call that brings its last bit"
  pub in_its_call : (end : ℕ) (line : List ℕ) (ls : List LumpCall) (gs : List Given) → Right (receive_start_checks end) → length line ≡ line_length
      → NoneRefused x (x.receive_start end).memory line ls → GivenOf end (joined_bits (lumps_of ls)) gs → heard_by x end line ls ≡ shares 0 (lumps_of ls) gs
  -- "a call without one writes nothing to the frame room": a call gives one, or 0 and 0 and the room as it was
  pub quiet : (c : ReceiveCall) → ((x.receive c).numbers.given ≡ 1)
      ⊎ (((x.receive c).numbers ≡ record { given = 0; place = 0 }) × ((x.receive c).memory.frame ≡ c.frame))
