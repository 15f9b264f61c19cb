-- `precoder::Precoder::receive` meets its contract. Each step's number is read back from its bits. Assumes nothing.
use mathlib.Core.Path.{◌≡◌, refl}
use mathlib.Core.Bool.{true}
use mathlib.Core.List.{List}
use lib.IntN.{ℤ, ◌+ℤ◌}
use mir.Syntax.{w32, w64}
use mir.Val.{SFits, to_z, of_z}
use mir.Facts.{to_z-of_z}
use Rattle.ranges.specs.Ranges.{is_coefficient, every}
use Rattle.samples.specs.Samples.{is_signal, Rounds, past_after}
use Rattle.precoder.specs.Precoder.{exact_sum}
use Rattle.precoder.proofs.Products.{sum-abs, wide_fits}
use Rattle.precoder.proofs.Signals.{plus-v-fits, fold-back, past-in}
use Rattle.precoder.proofs.Precoder.receive.Goals as goal

-- v is the sum rounded, and y + v fits
found : (coefficients past : List ℤ) (s v y : ℤ) → every is_coefficient coefficients ≡ true → every is_signal past ≡ true
    → s ≡ exact_sum 180 coefficients past → SFits w64 s → Rounds (to_z w64 (of_z w64 s)) v → SFits w32 y
    → Rounds (exact_sum 180 coefficients past) v × SFits w64 (y +ℤ v)
found coefficients past s v y hc hp e f r g =
    let q : Rounds (exact_sum 180 coefficients past) v = rw (to_z-of_z f, e) at r in
    (q, plus-v-fits (exact_sum 180 coefficients past) v (sum-abs coefficients past hc hp 180) q y g)

pub overflow_cast-y : goal.overflow_cast-y
overflow_cast-y c = rw (to_z-of_z c.ranges.y) (wide_fits _ c.ranges.y)

pub overflow_add-y : goal.overflow_add-y
overflow_add-y c =
    let a = c.args in
    let v = c.rounded-v in
    let is = found a.self.now.taps.now a.self.now.past c.sum.result v.result a.y a.self.now.coefficients a.self.now.outputs c.sum.ensures (record { sfits = c.sum.type_inv })
    v.ensures c.ranges.y in
    rw (to_z-of_z c.ranges.y, to_z-of_z (wide_fits _ c.ranges.y), to_z-of_z {w = w64} {z = v.result} (record { sfits = v.type_inv })) is.1

pub returns : goal.returns
returns c =
    let a = c.args in
    let v = c.rounded-v in
    let f = c.folded-x in
    let is = found a.self.now.taps.now a.self.now.past c.sum.result v.result a.y a.self.now.coefficients a.self.now.outputs c.sum.ensures (record { sfits = c.sum.type_inv })
    v.ensures c.ranges.y in
    let g =
    rw (
      to_z-of_z c.ranges.y,
      to_z-of_z (wide_fits _ c.ranges.y),
      to_z-of_z {w = w64} {z = v.result} (record { sfits = v.type_inv }),
      to_z-of_z is.1,
    )
    at f.ensures in
    rw (to_z-of_z {w = w32} {z = f.result} (record { sfits = f.type_inv })) (
      record { signal = g.signal; sends = record { v = v.result; rounds = is.0; folds = fold-back a.y v.result f.result g c.requires } },
      refl,
      rw (to_z-of_z c.ranges.y) at c.shift.ensures,
    )

pub invariant_of-self : goal.invariant_of-self
invariant_of-self c =
    let a = c.args in
    let is : c.shift.new.history ≡ past_after a.self.now.past a.y = rw (to_z-of_z c.ranges.y) at c.shift.ensures in
    record { coefficients = a.self.now.coefficients; outputs = rw is (past-in a.self.now.past a.y a.self.now.outputs c.requires) }
