-- The field reader keeps the lent frame it walks and the place of the next field (SCOPE, "The activation frame"): what its functions promise.
use Rattle.std.specs.Prelude.{◌≡◌, List, ℕ, ℤ}
use Rattle.std.specs.Borrow.{Bor}
use Rattle.bitfields.specs.Promises.{FieldRead, SignedRead, behind_of}
use Rattle.fields.specs.declared.FieldReader.{FieldReader}

-- the reader behind a field of w bits: the same lent frame, and the place behind the field
abbrev pub past : FieldReader → ℕ → FieldReader
past r w = record { frame = r.frame; at = behind_of r.at w }

-- reader
abbrev pub Made : Bor (List ℕ) → ℕ → FieldReader → Type 0
Made frame at r = r ≡ record { frame = frame; at = at }

-- FieldReader::take: the field at the reader's place, and the reader afterwards
abbrev pub FieldTaken : FieldReader → ℕ → ℕ → FieldReader → Type 0
FieldTaken r w v exit = FieldRead r.frame.now r.at w v × (exit ≡ past r w)

-- FieldReader::take_signed: the same in two's complement
abbrev pub SignedTaken : FieldReader → ℕ → ℤ → FieldReader → Type 0
SignedTaken r w v exit = SignedRead r.frame.now r.at w v × (exit ≡ past r w)
