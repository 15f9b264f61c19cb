-- One result per call: two results or exits that a function's promise allows for the same call are equal. Assumes nothing.
use mathlib.Core.Path.{◌≡◌}
use mathlib.Core.List.{List}
use Prim.Native.Nat.{ℕ}
use lib.IntN.{ℤ}
use denote.Ref.{Bor}
use Rattle.octets.proofs.One.{both}
use Rattle.fields.specs.declared.FieldReader.{FieldReader}
use Rattle.fields.specs.Promises.{Made, FieldTaken, SignedTaken}

pub reader-one : (frame : Bor (List ℕ)) (at : ℕ) (r r' : FieldReader) → Made frame at r → Made frame at r' → r ≡ r'
reader-one frame at r r' p q = both p q

pub take-one : (r : FieldReader) (w v v' : ℕ) (t t' : FieldReader) → FieldTaken r w v t → FieldTaken r w v' t' → (v ≡ v') × (t ≡ t')
take-one r w v v' t t' p q = (both p.0 q.0, both p.1 q.1)

pub take-signed-one : (r : FieldReader) (w : ℕ) (v v' : ℤ) (t t' : FieldReader) → SignedTaken r w v t → SignedTaken r w v' t' → (v ≡ v') × (t ≡ t')
take-signed-one r w v v' t t' p q = (both p.0 q.0, both p.1 q.1)
