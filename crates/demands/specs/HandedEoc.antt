-- What is handed in to the functions of sdsl.h for operations channel messages, and what comes back.
use Rattle.std.specs.Prelude.{List, ℕ}

-- sdsl_eoc_write: the addresses, the message number, the contents, room for the longest form
pub record EocWriteCall : Type 0 where
  pub source : ℕ
  pub destination : ℕ
  pub number : ℕ
  pub contents : List ℕ
  pub room : List ℕ

-- sdsl_eoc_read: a message as it came, and room for its contents
pub record EocReadCall : Type 0 where
  pub octets : List ℕ
  pub contents : List ℕ

-- a message's numbers, and how many octets its contents have
pub record EocFields : Type 0 where
  pub source : ℕ
  pub destination : ℕ
  pub number : ℕ
  pub length : ℕ

-- sdsl_eoc_hand_up: a message as it came, and the records of units
pub record EocUnitsCall : Type 0 where
  pub octets : List ℕ
  pub units : List ℕ
