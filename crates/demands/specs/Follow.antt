-- For what follows from the demands.
use Rattle.std.specs.Prelude.{◌≡◌, List, ◌++◌, ℕ, ◌-◌, ◌*◌, replicate}
use Rattle.answer.specs.Answer.{answer}
use Rattle.octets.specs.Bits.{bits_of}
use Rattle.layout.specs.Places.{reserved_width, reserved_length}
use Rattle.layout.specs.Frame.{used}
use Rattle.ranges.specs.Ranges.{coefficient_count}
use Rattle.numbers.specs.Promises.{numbers_of}
use Rattle.sender.specs.Promises.{least_of}
use Rattle.demands.specs.Handed.{SendCall, ReadCall}
use Rattle.demands.specs.Library.{Library}
use Rattle.demands.specs.Checks.{write_checks, scramble_checks}
use Rattle.demands.specs.Frames.{reserved_in, none_set, Trains}
use Rattle.demands.specs.Back.{heard_from}

-- the fields of two frames are the same: the kind and vendor data and, of training frames, A, B and the coefficients in use. The count isn't carried
pub record SameFields (c d : SendCall) : Type 0 where
  pub same_kind : c.kind ≡ d.kind
  pub same_vendor : c.vendor ≡ d.vendor
  pub same_a : c.kind ≡ 0 → c.a ≡ d.a
  pub same_b : c.kind ≡ 0 → c.b ≡ d.b
  pub same_coefficients : c.kind ≡ 0 → used c.count (numbers_of c.coefficients) ≡ used d.count (numbers_of d.coefficients)

-- what sending refuses is what writing refuses and what scrambling refuses, the least of the two answers that is not 0 (theorem `both-together`: of every
-- library that meets demand 1)
abbrev pub BothTogether : Library → Type 0
BothTogether x = (c : SendCall) → (x.send c).answer ≡ least_of (answer (write_checks c)) (answer (scramble_checks c))

-- what a card sends from an end and a state that reads a training frame and sends what it gives with a count of 180, into this room
abbrev pub again : Library → ReadCall → ℕ → ℕ → List ℕ → SendCall
again x c end state line =
    let r = x.read c in
    record {
      end = end;
      state = state;
      kind = 0;
      count = coefficient_count;
      coefficients = r.memory.coefficients;
      a = r.numbers.a;
      b = r.numbers.b;
      vendor = r.memory.vendor;
      output = line;
    }

-- and what that is, descrambled
abbrev pub sent_again : Library → ReadCall → ℕ → ℕ → List ℕ → List ℕ → List ℕ
sent_again x c end state line room = (heard_from x x (again x c end state line) room).memory.output

-- a training frame that is read, sent again with a count of 180 and descrambled is the same frame where the reserved bits were zero, and only there
pub record SentAgain (x : Library) (c : ReadCall) (end state : ℕ) (line room : List ℕ) : Type 0 where
  pub same : (x.read c).memory.reserved ≡ none_set → sent_again x c end state line room ≡ c.frame
  pub only : sent_again x c end state line room ≡ c.frame → (x.read c).memory.reserved ≡ none_set

-- the nine octets that reading a training frame hands back are its reserved bits and five zeros; so they tell which bits these were
pub record HandsReserved (x : Library) : Type 0 where
  pub bits : (c : ReadCall) → Trains c
      → bits_of (x.read c).memory.reserved ≡ reserved_in c.frame ++ replicate (8 * reserved_length - reserved_width) 0
  pub tell : (c d : ReadCall) → Trains c → Trains d → (x.read c).memory.reserved ≡ (x.read d).memory.reserved
      → reserved_in c.frame ≡ reserved_in d.frame
