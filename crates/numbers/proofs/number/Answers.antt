-- `numbers::number` meets its contract. Assumes nothing.
use mathlib.Core.Path.{◌≡◌, sym, ap, ◌∙◌}
use Prim.Native.Nat.{◌+◌, ◌*◌, ◌^◌, ◌≤◌, ◌<◌}
use lib.IntN.{pos}
use lib.ListN.{length, get_or, get_or-eq_default}
use native.Mathlib.Omega.{arith}
use mir.Syntax.{w32}
use mir.Val.{to_z}
use mir.Facts.{to_z-of_z}
use Rattle.octets.proofs.Complement.{cast-signed}
use Rattle.numbers.specs.Promises.{numbers_of}
use Rattle.numbers.proofs.Laws.{numbers-many, number_at}
use Rattle.numbers.proofs.number.Goals as goal

-- past the last number it is 0
pub returns-then-octets-k : goal.returns-then-octets-k
returns-then-octets-k c =
    let a = c.args in
    sym (get_or-eq_default (numbers_of a.octets.now) (pos 0) (omega (arith, numbers-many a.octets.now, c.if-octets-k.true)))

pub returns : goal.returns
returns c =
    let a = c.args in
    let os = a.octets.now in
    let at = 4 * a.k in
    let o = c.type_inv.octets in
    let room : at + 4 ≤ length os = omega (arith, c.if-octets-k.false) in
    let n = get_or os at 0 + 256 * get_or os (at + 1) 0 + 65536 * get_or os (at + 2) 0 + 16777216 * get_or os (at + 3) 0 in
    let e : get_or os at 0 + get_or os (at + 1) 0 * 256 + get_or os (at + 2) 0 * 65536 + get_or os (at + 3) 0 * 16777216 ≡ n = omega arith in
    let fit : n < 2 ^ 32 = omega (arith, o at, o (at + 1), o (at + 2), o (at + 3)) in
    to_z-of_z {w = w32} (record { sfits = c.from_le_bytes.type_inv }) ∙ c.from_le_bytes.ensures
    ∙ ap (to_z w32) e ∙ cast-signed n fit ∙ sym (number_at os a.k (λ i. omega (arith, o i)) room)
