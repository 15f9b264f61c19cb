-- One result per call. Assumes nothing.
use mathlib.Core.Path.{◌≡◌, ap}
use mathlib.Core.List.{List, [], ◌∷◌}
use Prim.Native.Nat.{ℕ, ◌/◌, ◌%◌}
use native.Mathlib.Omega.{arith}
use lib.ListN.{get_or, take}
use Rattle.fcs.specs.Promises.{Sequenced}
use Rattle.fcs.proofs.Laws.{sequence-one}

pub sequenced-one : (s : List ℕ) (n r r' : ℕ) → Sequenced s n r → Sequenced s n r' → r ≡ r'
sequenced-one s n r r' p q =
    let e = sequence-one (take n s) (r % 256 ∷ r / 256 ∷ []) (r' % 256 ∷ r' / 256 ∷ []) p.right q.right in
    let low : r % 256 ≡ r' % 256 = ap (λ (l : List ℕ). get_or l 0 0) e in
    let high : r / 256 ≡ r' / 256 = ap (λ (l : List ℕ). get_or l 1 0) e in
    omega (arith, low, high)
