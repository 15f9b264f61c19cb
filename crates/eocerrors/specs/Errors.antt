-- Wrong bits of an operations channel message: in octets 1 to L + 4, its body and its check sequence, before escaping; and on the line, behind it.
use Rattle.std.specs.Prelude.{◌≡◌, true, ◌⊎◌, List, [], ◌∷◌, ℕ, length}
use Rattle.answer.specs.Answer.{answer}
use Rattle.octets.specs.Bits.{bits_of}
use Rattle.distance.specs.Errors.{distance, longest, FewBits, BurstBits}
use Rattle.eoc.specs.Message.{flag}
use Rattle.eoc.specs.Reading.{is_length, message_in}
use Rattle.eoc.specs.Refusals.{form_refusals}

-- octets 1 to L + 4 as they were sent, s, and as they came, t: as many as a message has, and one, two or three bits differ, or some within 16 in a row,
-- each octet's lowest bit first
pub record Wrong (s t : List ℕ) : Type 0 where
  pub lawful : is_length s ≡ true
  pub same : length s ≡ length t
  pub bits : FewBits (bits_of s) (bits_of t) ⊎ BurstBits longest (bits_of s) (bits_of t)

-- ---- on the line

-- two forms that one bit sets apart: both are right, and they give different messages
pub record Unseen (a b : List ℕ) : Type 0 where
  pub one_bit : distance (bits_of a) (bits_of b) ≡ 1
  pub first_right : answer (form_refusals a) ≡ 0
  pub second_right : answer (form_refusals b) ≡ 0
  pub different : message_in a ≡ message_in b → ⊥

-- 7E 12 78 8E 85 7C 5E 58 A6 7E, and the same with 7D for 7C: with 5E behind it that is an escape, so that four octets of contents become three
abbrev pub sent_form : List ℕ
sent_form = flag ∷ 0x12 ∷ 0x78 ∷ 0x8E ∷ 0x85 ∷ 0x7C ∷ 0x5E ∷ 0x58 ∷ 0xA6 ∷ flag ∷ []

abbrev pub came_form : List ℕ
came_form = flag ∷ 0x12 ∷ 0x78 ∷ 0x8E ∷ 0x85 ∷ 0x7D ∷ 0x5E ∷ 0x58 ∷ 0xA6 ∷ flag ∷ []
