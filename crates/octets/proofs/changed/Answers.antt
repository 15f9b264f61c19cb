-- `octets::changed` meets its contract.
use mathlib.Core.Path.{◌≡◌, refl, ap, ap₂, ◌∙◌}
use mathlib.Core.List.{List, ◌++◌}
use Prim.Native.Nat.{ℕ, ◌+◌, ◌*◌}
use native.Mathlib.Omega.{arith}
use lib.ListN.{take, drop}
use Rattle.octets.specs.Bits.{digits_of, laid}
use Rattle.octets.proofs.Words.{bits-laid}
use Rattle.octets.proofs.changed.Goals as goal

pub returns-then-n-eq-WORD : goal.returns-then-n-eq-WORD
returns-then-n-eq-WORD c =
    let a = c.args in
    let p : 8 * a.i ≡ 8 * a.i + a.r = omega arith in
    let n : 64 ≡ a.n = omega arith in
    ap₂ (λ (i k : ℕ). laid a.s.now i (digits_of k a.v)) p n

pub returns-else-n-eq-WORD : goal.returns-else-n-eq-WORD
returns-else-n-eq-WORD c =
    let y = c.replaced in
    let x = c.word in
    let a = c.args in
    let whole : ℕ → List ℕ = λ z. take a.r (digits_of 64 z) ++ digits_of a.n a.v ++ drop (a.r + a.n) (digits_of 64 z) in
    bits-laid a.s.now a.i a.r a.n (8 * a.i + a.r) a.v y.result refl (omega arith) (y.ensures ∙ ap whole x.ensures)
