-- One result per call: two results or exit memories that a function's promise allows for the same call are equal. Assumes nothing.
use mathlib.Core.Path.{◌≡◌}
use mathlib.Core.List.{List}
use Prim.Native.Nat.{ℕ}
use lib.IntN.{ℤ}
use Rattle.octets.proofs.One.{both}
use Rattle.bitfields.specs.Promises.{FieldRead, FieldPut, SignedRead, SignedFieldsPut, Turned, Behind}

pub field-one : (s : List ℕ) (at w r r' : ℕ) → FieldRead s at w r → FieldRead s at w r' → r ≡ r'
field-one s at w r r' p q = both p q

pub put-field-one : (s : List ℕ) (at w v : ℕ) (t t' : List ℕ) → FieldPut s at w v t → FieldPut s at w v t' → t ≡ t'
put-field-one s at w v t t' p q = both p q

pub signed-field-one : (s : List ℕ) (at w : ℕ) (r r' : ℤ) → SignedRead s at w r → SignedRead s at w r' → r ≡ r'
signed-field-one s at w r r' p q = both p q

pub put-signed-fields-one : (s : List ℕ) (at w : ℕ) (zs : List ℤ) (n : ℕ) (t t' : List ℕ) → SignedFieldsPut s at w zs n t → SignedFieldsPut s at w zs n t' → t ≡ t'
put-signed-fields-one s at w zs n t t' p q = both p q

pub turned-one : (w v r r' : ℕ) → Turned w v r → Turned w v r' → r ≡ r'
turned-one w v r r' p q = both p q

pub behind-one : (at w r r' : ℕ) → Behind at w r → Behind at w r' → r ≡ r'
behind-one at w r r' p q = both p q
