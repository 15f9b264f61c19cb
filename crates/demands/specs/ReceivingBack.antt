-- Demand 2's second sentence over the line, for two libraries of any make: what one card sends, the other's receiver gives, however the bits are cut.
use Rattle.std.specs.Prelude.{◌≡◌, List, [], ◌∷◌, ◌++◌, reverse, ℕ, length, take}
use Rattle.octets.specs.Bits.{digits_of, bits_of}
use Rattle.receiver.specs.Stream.{frame_bits, reach}
use Rattle.receiver.specs.Promises.{line_length}
use Rattle.receiver.specs.Calls.{joined_bits, all_handed}
use Rattle.demands.specs.Handed.{SendCall}
use Rattle.demands.specs.Library.{Library}
use Rattle.demands.specs.Checks.{frame_of, send_checks}
use Rattle.demands.specs.Frames.{Right}
use Rattle.demands.specs.Receiving.{LumpCall, lumps_of, heard_by, NoneRefused}

-- the bits on the line: the sender's last 23, the oldest first, and a frame that x sends behind them
abbrev pub sent_by : Library → SendCall → List ℕ
sent_by x c = reverse (digits_of reach c.state) ++ take frame_bits (bits_of (x.send c).memory.output)

-- BACK: a frame that x sends behind its last 23 bits, y gives at place 23: the frame of the fields
abbrev pub ReceivedBack : Library → Library → Type 0
ReceivedBack x y =
    (c : SendCall) (line : List ℕ) (ls : List LumpCall) → Right (send_checks c) → length line ≡ line_length → joined_bits (lumps_of ls) ≡ sent_by x c
    → NoneRefused y (y.receive_start c.end).memory line ls
    → all_handed (heard_by y c.end line ls) ≡ record { place = reach; frame = frame_of c } ∷ []
