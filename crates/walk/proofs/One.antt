-- One result per call: two results or exits that a function's promise allows for the same call are equal. Assumes nothing.
use mathlib.Core.Path.{◌≡◌}
use mathlib.Core.List.{List}
use Prim.Native.Nat.{ℕ}
use lib.IntN.{ℤ}
use Rattle.octets.proofs.One.{both}
use Rattle.walk.specs.declared.TakenPair.{TakenPair}
use Rattle.walk.specs.Promises.{PairTaken, SignedFilled}

pub pair_one : (s : List ℕ) (at v w : ℕ) (r r' : TakenPair) → PairTaken s at v w r → PairTaken s at v w r' → r ≡ r'
pair_one s at v w r r' p q = both p q

pub fill-signed-one : (s : List ℕ) (at w : ℕ) (into t t' : List ℤ) (r r' : ℕ) → SignedFilled s at w into t r → SignedFilled s at w into t' r'
    → (t ≡ t') × (r ≡ r')
fill-signed-one s at w into t t' r r' p q = (both p.0 q.0, both p.1 q.1)
