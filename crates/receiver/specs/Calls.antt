-- Calls one after the other, as a host makes them: each with the state and the line room that the one before left, and a frame room of its own choice.
use Rattle.std.specs.Prelude.{◌≡◌, cond, ◌&&◌, List, [], ◌∷◌, ◌++◌, ℕ, ◌+◌, ◌-◌, eqb, leb, ltb}
use Rattle.octets.specs.Bits.{bits_of, part}
use Rattle.receiver.specs.Stream.{frame_bits}
use Rattle.receiver.specs.Given.{Given}
use Rattle.receiver.specs.Promises.{ReceivePromise}
use Rattle.receiver.specs.declared.Receiver.{Receiver}
use Rattle.receiver.specs.Promises.{Got}

-- a lump: octets, and how many of their bits
pub record Lump : Type 0 where
  pub octets : List ℕ
  pub count : ℕ

-- its bits
abbrev pub bits_in : Lump → List ℕ
bits_in l = part 0 l.count (bits_of l.octets)

-- the bits of lumps, joined
unfoldable pub joined_bits : List Lump → List ℕ
joined_bits [] = []
joined_bits (l ∷ ls) = bits_in l ++ joined_bits ls

-- what a host has of a call: where `given` is 1, the place and what stands in the frame room
abbrev pub handed : Got → List ℕ → List Given
handed r room = cond (eqb r.given 1) (record { place = r.place; frame = room } ∷ []) []

-- calls over lumps, none of them refused, and what each handed out
pub data Calls : Receiver → List ℕ → List Lump → List (List Given) → Type 0 where
  none : (x : Receiver) (line : List ℕ) → Calls x line [] []
  call : (x : Receiver) (line : List ℕ) (l : Lump) (ls : List Lump) (room : List ℕ) (r : Got) (line' room' : List ℕ) (outs : List (List Given))
      → ReceivePromise x line l.octets l.count room r line' room' → r.answer ≡ 0 → Calls r.next line' ls outs
      → Calls x line (l ∷ ls) (handed r room' ∷ outs)

-- all that was handed out, in order
unfoldable pub all_handed : List (List Given) → List Given
all_handed [] = []
all_handed (o ∷ outs) = o ++ all_handed outs

-- the frames whose last bit is one of n from place m on
unfoldable pub ending_in : ℕ → ℕ → List Given → List Given
ending_in m n [] = []
ending_in m n (g ∷ gs) = let last = g.place + frame_bits - 1 in cond (leb m last && ltb last (m + n)) (g ∷ ending_in m n gs) (ending_in m n gs)

-- of lumps one after the other, the first bit of which has place m: what ends in each
unfoldable pub shares : ℕ → List Lump → List Given → List (List Given)
shares m [] gs = []
shares m (l ∷ ls) gs = ending_in m l.count gs ∷ shares (m + l.count) ls gs
