-- `octets::put_at` meets its contract.
use mathlib.Core.Path.{◌≡◌, ap, ◌∙◌}
use Prim.Native.Nat.{ℕ, ◌+◌, ◌*◌, ◌/◌, ◌%◌}
use native.Mathlib.Omega.{arith}
use Rattle.octets.specs.Bits.{digits_of, laid}
use Rattle.octets.proofs.put_at.Goals as goal

pub returns : goal.returns
returns c =
    let a = c.args in
    let j = a.at % 8 + a.k in
    let e : 8 * (a.at / 8 + j / 8) + j % 8 ≡ a.at + a.k = omega arith in
    c.put_part.ensures ∙ ap (λ (p : ℕ). laid a.s.now p (digits_of a.n a.v)) e
