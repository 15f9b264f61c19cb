-- `eocwriter::put_sequence` meets its contract.
use mathlib.Core.Path.{refl, ap, ◌∙◌}
use mathlib.Core.List.{List, [], ◌∷◌, ◌++◌}
use Prim.Native.Nat.{ℕ, ◌+◌, ◌/◌, ◌%◌}
use native.Mathlib.Omega.{arith}
use lib.ListN.{take}
use Rattle.fcs.proofs.Laws.{sequence-computed}
use Rattle.eocwriter.proofs.Laws.{two-put}
use Rattle.eocwriter.proofs.put_sequence.Goals as goal

pub returns : goal.returns
returns c =
    let a = c.args in
    let r = c.sequence-c.result in
    two-put a.fields.now a.n (a.n + 2) (r % 256) (r / 256) refl (omega (arith, c.requires))
    ∙ ap (λ (l : List ℕ). take a.n a.fields.now ++ l) (sequence-computed (take a.n a.fields.now) (r % 256 ∷ r / 256 ∷ []) c.sequence-c.ensures.right)
