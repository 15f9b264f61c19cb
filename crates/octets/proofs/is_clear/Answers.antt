-- `octets::is_clear` meets its contract.
use borrow.Author.Tests.{ne_eqb, eqb-true, eqb-false}
use mathlib.Core.Path.{◌≡◌, refl, sym, ◌∙◌}
use Prim.Native.Nat.{◌+◌, ◌-◌, ◌*◌, ◌/◌, ◌%◌, min}
use native.Mathlib.Omega.{arith}
use Rattle.octets.specs.Bits.{value_of, bits_of, part}
use Rattle.octets.proofs.Laws.{clear-three, none-same}
use Rattle.octets.proofs.is_clear.Goals as goal
use Rattle.octets.proofs.is_clear.Goals.{then-bits-eq0, else-bits-eq0}

pub returns-then-bits-eq0-2 : goal.returns-then-bits-eq0-2
returns-then-bits-eq0-2 c =
    let a = c.args in
    let B = bits_of a.s.now in
    let i = a.at / 8 + (a.at % 8 + 7) / 8 in
    let m = value_of (part (8 * i) (8 * (i + (a.n - c.leading-head.result) / 8 - i)) B) in
    let yes = c.if-bits-eq0-2.true in
    elim c.if-bits-eq0.branch [
      | then-bits-eq0 w ↦
          let x : c.bits.result ≡ 0 = w.if-bits-eq0.true in
          let z : w.bits-then-bits-eq0.result ≡ 0 = eqb-true _ _ (sym w.value-is ∙ yes) in
          let e : min (value_of (part a.at a.n B)) 1 ≡ min (c.bits.result + m + w.bits-then-bits-eq0.result) 1 =
          clear-three a.s.now a.at a.n c.leading-head.result c.leading-head.ensures c.bits.ensures refl w.bits-then-bits-eq0.ensures in
          c.octets_clear.ensures ∙ none-same m (value_of (part a.at a.n B)) (omega arith)
      | else-bits-eq0 w ↦ absurd (w.if-bits-eq0.false (eqb-true _ _ (sym w.value-is ∙ yes)))
    ]

-- a bit before the octets is not 0, or one behind them
pub returns-else-bits-eq0-2 : goal.returns-else-bits-eq0-2
returns-else-bits-eq0-2 c =
    let a = c.args in
    let V = value_of (part a.at a.n (bits_of a.s.now)) in
    let no = c.if-bits-eq0-2.false in
    elim c.if-bits-eq0.branch [
      | then-bits-eq0 w ↦
          no ∙ sym
          (ne_eqb _ _
          (λ (z : V ≡ 0).
          eqb-false _ _ (sym w.value-is ∙ no)
          (omega (arith, clear-three a.s.now a.at a.n c.leading-head.result c.leading-head.ensures c.bits.ensures refl w.bits-then-bits-eq0.ensures))))
      | else-bits-eq0 w ↦
          no ∙ sym
          (ne_eqb _ _
          (λ (z : V ≡ 0).
          w.if-bits-eq0.false (omega (arith, clear-three a.s.now a.at a.n c.leading-head.result c.leading-head.ensures c.bits.ensures refl refl))))
    ]
