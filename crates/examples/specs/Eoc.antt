-- Examples of operations channel messages (SCOPE, "Messages of the operations channel"): a message, and the octets of its one written form. What is due was
-- worked out from 002 and RFC 1662 beforehand, and not by the definitions.
use Rattle.std.specs.Prelude.{◌≡◌, List, [], ◌∷◌, ◌++◌, ℕ, replicate}
use Rattle.answer.specs.Answer.{answer}
use Rattle.fcs.specs.Sequence.{sequence_of}
use Rattle.eoc.specs.Message.{escaped, framed, written}
use Rattle.eoc.specs.Refusals.{form_refusals}

-- a row begins with the example's number
pub data EocRow : Type 0 where
  -- source, destination, message number, contents, and the form due
  sent : ℕ → ℕ → ℕ → ℕ → List ℕ → List ℕ → EocRow
  -- so many octets 7E before their check sequence, and the answer due
  all_flags : ℕ → ℕ → ℕ → EocRow

-- Inventory Request from the LTU to the NTU; Status/SNR from the NTU to the LTU, a margin of 6 dB; Discovery Probe to the adjacent unit, hop count 0; an
-- address octet and a message number that are escaped; 75 octets are the most
unfoldable pub eoc_table : List EocRow
eoc_table =
    sent 1 1 2 2 [] (0x7E ∷ 0x12 ∷ 0x02 ∷ 0x74 ∷ 0x8A ∷ 0x7E ∷ [])
    ∷ sent 2 2 1 139 (6 ∷ 0 ∷ 1 ∷ []) (0x7E ∷ 0x21 ∷ 0x8B ∷ 0x06 ∷ 0x00 ∷ 0x01 ∷ 0x89 ∷ 0x8E ∷ 0x7E ∷ [])
    ∷ sent 3 1 0 1 (0 ∷ []) (0x7E ∷ 0x10 ∷ 0x01 ∷ 0x00 ∷ 0x81 ∷ 0x5A ∷ 0x7E ∷ [])
    ∷ sent 4 7 0xE 0x7D [] (0x7E ∷ 0x7D ∷ 0x5E ∷ 0x7D ∷ 0x5D ∷ 0xF1 ∷ 0xCD ∷ 0x7E ∷ [])
    ∷ all_flags 5 75 0
    ∷ all_flags 5 76 12
    ∷ []

-- what a row claims
unfoldable pub EocClaim : EocRow → Type 0
EocClaim (sent n source destination number contents form) =
    written (record { source = source; destination = destination; number = number; contents = contents }) ≡ form
EocClaim (all_flags n octets due) = let body : List ℕ = replicate octets 0x7E in answer (form_refusals (framed (escaped (body ++ sequence_of body)))) ≡ due

-- that every row's claim holds
unfoldable pub EocHold : List EocRow → Type 0
EocHold [] = Unit {0}
EocHold (r ∷ rs) = EocClaim r × EocHold rs
