-- What is handed in to the functions of sdsl.h for frames, bits and symbols, and what comes back. Octets and numbers of C are natural
-- numbers here, and whole numbers where they are signed; a buffer is the list of its octets.
use Rattle.std.specs.Prelude.{List, ℕ, ℤ}

-- what a call gives: the answer's number, every other number returned, and what the state and the lent memory that it may write hold afterwards
pub record Outcome (N M : Type 0) : Type 0 where
  pub answer : ℕ
  pub numbers : N
  pub memory : M

-- no number but the answer, or no state and no memory
pub data None : Type 0 where
  none : None

-- sdsl_frame_send: the end and the scrambler's state; the fields, with 720 octets of coefficients and 16 of vendor data; room for 529 of a frame
pub record SendCall : Type 0 where
  pub end : ℕ
  pub state : ℕ
  pub kind : ℕ
  pub count : ℕ
  pub coefficients : List ℕ
  pub a : ℕ
  pub b : ℕ
  pub vendor : List ℕ
  pub output : List ℕ

-- sdsl_frame_read: a frame, room for the coefficients' octets, for vendor data and for the reserved bits
pub record ReadCall : Type 0 where
  pub frame : List ℕ
  pub coefficients : List ℕ
  pub vendor : List ℕ
  pub reserved : List ℕ

-- the numbers that reading gives
pub record Fields : Type 0 where
  pub kind : ℕ
  pub a : ℕ
  pub b : ℕ

-- the three rooms that reading fills
pub record Rooms : Type 0 where
  pub coefficients : List ℕ
  pub vendor : List ℕ
  pub reserved : List ℕ

-- sdsl_scramble_bit and sdsl_descramble_bit
pub record BitCall : Type 0 where
  pub end : ℕ
  pub state : ℕ
  pub bit : ℕ

-- sdsl_scramble and sdsl_descramble
pub record RunCall : Type 0 where
  pub end : ℕ
  pub state : ℕ
  pub input : List ℕ
  pub bits : ℕ
  pub output : List ℕ

-- sdsl_descramble_frame
pub record FrameCall : Type 0 where
  pub end : ℕ
  pub state : ℕ
  pub frame : List ℕ
  pub output : List ℕ

-- the scrambler's state and the lent output afterwards
pub record Line : Type 0 where
  pub state : ℕ
  pub output : List ℕ

-- sdsl_encoder_start: the words A and B
pub record WordsCall : Type 0 where
  pub a : ℕ
  pub b : ℕ

-- sdsl_encode: the words A and B, the register, a symbol's three bits as a number
pub record EncodeCall : Type 0 where
  pub a : ℕ
  pub b : ℕ
  pub register : ℕ
  pub symbol : ℕ

-- the code Y3..Y0 and its level in sixteenths
pub record Symbol : Type 0 where
  pub code : ℕ
  pub sixteenths : ℤ

-- sdsl_encode_run
pub record EncodeRunCall : Type 0 where
  pub a : ℕ
  pub b : ℕ
  pub register : ℕ
  pub symbols : List ℕ
  pub codes : List ℕ

-- the register and the lent codes afterwards
pub record Codes : Type 0 where
  pub register : ℕ
  pub codes : List ℕ

-- sdsl_precode and sdsl_unprecode: octets of coefficients, of the history, of what goes in, and room for what comes out
pub record PrecodeCall : Type 0 where
  pub coefficients : List ℕ
  pub history : List ℕ
  pub symbols : List ℕ
  pub room : List ℕ

-- the history and the room afterwards
pub record Signal : Type 0 where
  pub history : List ℕ
  pub room : List ℕ
