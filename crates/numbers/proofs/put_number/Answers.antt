-- `numbers::put_number` meets its contract. Assumes nothing.
use mathlib.Core.Path.{ap, ◌∙◌}
use mathlib.Core.List.{List, [], ◌∷◌}
use Prim.Native.Nat.{ℕ}
use lib.ListN.{get_or}
use native.Mathlib.Omega.{arith}
use mir.Facts.{to_z-of_z}
use Rattle.numbers.proofs.Laws.{number_put}
use Rattle.numbers.proofs.put_number.Goals as goal

pub returns-then-k-octets : goal.returns-then-k-octets
returns-then-k-octets c =
    let a = c.args in
    let e = rw (to_z-of_z c.ranges.z) at c.to_le_bytes.ensures in
    number_put a.octets.now a.k _ a.z c.copy_from_slice.new.self (omega (arith, c.if-k-octets.true)) (omega arith)
    (c.copy_from_slice.ensures.after ∙ ap (λ (l : List ℕ). get_or l 0 0 ∷ get_or l 1 0 ∷ get_or l 2 0 ∷ get_or l 3 0 ∷ []) e) c.ranges.z
