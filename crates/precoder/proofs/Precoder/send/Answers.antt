-- `precoder::Precoder::send` meets its contract. Each step's number is read back from its bits. Assumes nothing.
use mathlib.Core.Path.{◌≡◌, refl}
use mathlib.Core.Bool.{true}
use mathlib.Core.List.{List}
use lib.IntN.{ℤ, ◌-ℤ◌}
use mir.Syntax.{w32, w64}
use mir.Val.{SFits, to_z, of_z}
use mir.Facts.{to_z-of_z}
use Rattle.ranges.specs.Ranges.{is_coefficient, every}
use Rattle.samples.specs.Samples.{is_signal, Rounds, past_after}
use Rattle.precoder.specs.Precoder.{exact_sum}
use Rattle.precoder.proofs.Products.{sum-abs, wide_fits}
use Rattle.precoder.proofs.Signals.{less-v-fits, past-in}
use Rattle.precoder.proofs.Precoder.send.Goals as goal

-- v is the sum rounded, and x - v fits
found : (coefficients past : List ℤ) (s v x : ℤ) → every is_coefficient coefficients ≡ true → every is_signal past ≡ true
    → s ≡ exact_sum 180 coefficients past → SFits w64 s → Rounds (to_z w64 (of_z w64 s)) v → SFits w32 x
    → Rounds (exact_sum 180 coefficients past) v × SFits w64 (x -ℤ v)
found coefficients past s v x hc hp e f r g =
    let q : Rounds (exact_sum 180 coefficients past) v = rw (to_z-of_z f, e) at r in
    (q, less-v-fits (exact_sum 180 coefficients past) v (sum-abs coefficients past hc hp 180) q x g)

pub overflow_cast-x : goal.overflow_cast-x
overflow_cast-x c = rw (to_z-of_z c.ranges.x) (wide_fits _ c.ranges.x)

pub overflow_sub-x : goal.overflow_sub-x
overflow_sub-x c =
    let a = c.args in
    let v = c.rounded-v in
    let is = found a.self.now.taps.now a.self.now.past c.sum.result v.result a.x a.self.now.coefficients a.self.now.outputs c.sum.ensures (record { sfits = c.sum.type_inv })
    v.ensures c.ranges.x in
    rw (to_z-of_z c.ranges.x, to_z-of_z (wide_fits _ c.ranges.x), to_z-of_z {w = w64} {z = v.result} (record { sfits = v.type_inv })) is.1

pub returns : goal.returns
returns c =
    let a = c.args in
    let v = c.rounded-v in
    let f = c.folded-sent in
    let is = found a.self.now.taps.now a.self.now.past c.sum.result v.result a.x a.self.now.coefficients a.self.now.outputs c.sum.ensures (record { sfits = c.sum.type_inv })
    v.ensures c.ranges.x in
    let y = to_z-of_z {w = w32} {z = f.result} (record { sfits = f.type_inv }) in
    rw y (
      record {
        v = v.result;
        rounds = is.0;
        folds =
            rw (
              to_z-of_z c.ranges.x,
              to_z-of_z (wide_fits _ c.ranges.x),
              to_z-of_z {w = w64} {z = v.result} (record { sfits = v.type_inv }),
              to_z-of_z is.1,
            )
            at f.ensures;
      },
      refl,
      rw y at c.shift.ensures,
    )

pub invariant_of-self : goal.invariant_of-self
invariant_of-self c =
    let f = c.folded-sent in
    let is : c.shift.new.history ≡ past_after c.args.self.now.past f.result = rw (to_z-of_z {w = w32} {z = f.result} (record { sfits = f.type_inv })) at c.shift.ensures in
    record { coefficients = c.args.self.now.coefficients; outputs = rw is (past-in c.args.self.now.past f.result c.args.self.now.outputs f.ensures.signal) }
