-- What is handed in to the receiver's functions of sdsl.h, and what comes back.
use Rattle.std.specs.Prelude.{List, ℕ}
use Rattle.host.specs.declared.receiving.Receiver.{Receiver}

-- sdsl_receive: the state, the line room, the octets of a lump and how many of their bits, room for a frame
pub record ReceiveCall : Type 0 where
  pub state : Receiver
  pub line : List ℕ
  pub lump : List ℕ
  pub bits : ℕ
  pub frame : List ℕ

-- 1 and the place where a frame is given, else 0 and 0
pub record GivenPlace : Type 0 where
  pub given : ℕ
  pub place : ℕ

-- the state, the line room and the frame room afterwards
pub record LineRooms : Type 0 where
  pub state : Receiver
  pub line : List ℕ
  pub frame : List ℕ
