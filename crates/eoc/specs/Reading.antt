-- Reading an operations channel message (002, clauses 10.5.5.2 to 10.5.5.4): the flags, the octets between them without their escapes, the fields,
-- the check sequence.
use Rattle.std.specs.Prelude.{Bool, true, false, cond, not, ◌&&◌, ◌||◌, List, [], ◌∷◌, ℕ, ◌-◌, ◌/◌, ◌%◌, eqb, leb, length, get_or, take, drop}
use Rattle.octets.specs.Bits.{part}
use Rattle.fcs.specs.Sequence.{sequence_of}
use Rattle.eoc.specs.Message.{Message, addresses, body_most, flag, escape, flag_mark, escape_mark}

-- what stands between the first octet and the last
abbrev pub between : List ℕ → List ℕ
between s = part 1 (length s - 2) s

-- whether an octet stands among others
unfoldable pub among : ℕ → List ℕ → Bool
among o [] = false
among o (p ∷ ps) = eqb p o || among o ps

-- a flag at each end, two of them, and none between
abbrev pub is_between_flags : List ℕ → Bool
is_between_flags s = leb 2 (length s) && (eqb (get_or s 0 0) flag && (eqb (get_or s (length s - 1) 0) flag && not (among flag (between s))))

-- whether the first of octets ends an escape: 5E or 5D
abbrev pub ends_escape : List ℕ → Bool
ends_escape [] = false
ends_escape (o ∷ os) = eqb o flag_mark || eqb o escape_mark

-- "any other two-octet sequence beginning with 7D aborts the frame": whether there is one, or a 7D with nothing behind it
unfoldable pub other_escape : List ℕ → Bool
other_escape [] = false
other_escape (o ∷ os) = (eqb o escape && not (ends_escape os)) || other_escape os

-- "7D, 5E is replaced by octet 7E; 7D, 5D is replaced by octet 7D": what octets stand for, where `behind` says that a 7D stands before the first
unfoldable pub decoded : Bool → List ℕ → List ℕ
decoded behind [] = []
decoded true (o ∷ os) = cond (eqb o flag_mark) flag escape ∷ decoded false os
decoded false (o ∷ os) = cond (eqb o escape) (decoded true os) (o ∷ decoded false os)

-- octets without their escapes
abbrev pub unescaped : List ℕ → List ℕ
unescaped s = decoded false s

-- octets 1 to L + 4 of a message in its form
abbrev pub fields_in : List ℕ → List ℕ
fields_in s = unescaped (between s)

-- the body and the check sequence, of octets 1 to L + 4
abbrev pub body_in : List ℕ → List ℕ
body_in os = take (length os - 2) os

abbrev pub sequence_in : List ℕ → List ℕ
sequence_in os = drop (length os - 2) os

-- "Too short means under two octets, the addresses and the message number"; too long is more than 75: counted without the check sequence
abbrev pub is_length : List ℕ → Bool
is_length os = leb 4 (length os) && leb (length os - 2) body_most

-- whether two pairs of octets are the same
abbrev pub same_pair : List ℕ → List ℕ → Bool
same_pair a b = eqb (get_or a 0 0) (get_or b 0 0) && eqb (get_or a 1 0) (get_or b 1 0)

-- whether the check sequence is the body's
abbrev pub is_checked : List ℕ → Bool
is_checked os = same_pair (sequence_in os) (sequence_of (body_in os))

-- the message of octets 1 to L + 4
abbrev pub message_of : List ℕ → Message
message_of os =
    record {
      source = get_or os 0 0 / addresses;
      destination = get_or os 0 0 % addresses;
      number = get_or os 1 0;
      contents = drop 2 (body_in os);
    }

-- THE MESSAGE that a form gives
abbrev pub message_in : List ℕ → Message
message_in s = message_of (fields_in s)
