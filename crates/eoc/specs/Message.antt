-- An operations channel message and its one written form (002, clauses 10.5.5.2 to 10.5.5.4): a flag, the octets between flags with their escapes, a flag.
use Rattle.std.specs.Prelude.{cond, List, [], ◌∷◌, ◌++◌, ℕ, ◌+◌, ◌-◌, ◌*◌, ◌≤◌, ◌<◌, eqb, length, get_or, replicate}
use Rattle.fcs.specs.Sequence.{sequence_of}

-- a message: its source and its destination, its number, its contents
pub record Message : Type 0 where
  pub source : ℕ
  pub destination : ℕ
  pub number : ℕ
  pub contents : List ℕ

-- addresses have four bits, and the message number is an octet
abbrev pub addresses : ℕ
addresses = 16

abbrev pub message_numbers : ℕ
message_numbers = 256

-- "We take at most 75 octets between the opening flag and the check sequence, counted before escaping": addresses, message number, and 73 of contents
abbrev pub contents_most : ℕ
contents_most = 73

abbrev pub body_most : ℕ
body_most = 2 + contents_most

-- what can be written
pub record Lawful (m : Message) : Type 0 where
  pub source_fits : m.source < addresses
  pub destination_fits : m.destination < addresses
  pub number_fits : m.number < message_numbers
  pub contents_fit : length m.contents ≤ contents_most
  pub octets : (i : ℕ) → get_or m.contents i 0 < 256

-- "The destination address field shall be the least significant 4 bits of octet 1; the source address field shall occupy the most significant 4 bits"
abbrev pub address_of : Message → ℕ
address_of m = m.source * addresses + m.destination

-- octets 1 to L + 2: addresses, message number, contents
abbrev pub body_of : Message → List ℕ
body_of m = address_of m ∷ m.number ∷ m.contents

-- the sync pattern, 7E, here called a flag; the control escape pattern, 7D; what stands behind that for each of the two, 5E and 5D
abbrev pub flag : ℕ
flag = 0x7E

abbrev pub escape : ℕ
escape = 0x7D

abbrev pub flag_mark : ℕ
flag_mark = 0x5E

abbrev pub escape_mark : ℕ
escape_mark = 0x5D

-- "Octet pattern 7E is encoded as two octets 7D, 5E; octet pattern 7D is encoded as two octets 7D, 5D", and no other
abbrev pub encoded : ℕ → List ℕ
encoded o = cond (eqb o flag) (escape ∷ flag_mark ∷ []) (cond (eqb o escape) (escape ∷ escape_mark ∷ []) (o ∷ []))

-- octets one after the other
unfoldable pub escaped : List ℕ → List ℕ
escaped [] = []
escaped (o ∷ os) = encoded o ++ escaped os

-- octets 1 to L + 4: with the check sequence, which is "calculated before data transparency"
abbrev pub fields_of : Message → List ℕ
fields_of m = body_of m ++ sequence_of (body_of m)

-- octets between two flags
abbrev pub framed : List ℕ → List ℕ
framed s = flag ∷ (s ++ (flag ∷ []))

-- THE WRITTEN FORM of a message
abbrev pub written : Message → List ℕ
written m = framed (escaped (fields_of m))

-- its room: two flags, and every octet between them doubled
abbrev pub form_most : ℕ
form_most = 2 + 2 * (body_most + 2)

-- octets in a room of n: the octets first, zero behind them
abbrev pub padded : ℕ → List ℕ → List ℕ
padded n s = s ++ replicate (n - length s) 0
