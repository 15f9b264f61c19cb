-- `precoder::product` meets its contract: the four products of the parts, put together, are the product. Assumes nothing.
use mathlib.Core.Path.{◌≡◌, sym, ap₂, ◌∙◌}
use Prim.Native.Nat.{◌^◌}
use lib.IntN.{ℤ, ◌*ℤ◌}
use mir.Syntax.{w16, w32}
use mir.Val.{SFits, of_z, to_z}
use mir.Facts.{to_z-of_z}
use Rattle.precoder.proofs.Columns.{four, backs, sizes}
use Rattle.precoder.proofs.product.Goals as goal

-- a product of two halves, each read back from its bits
part-is : (r a b : ℤ) → SFits w32 r → r ≡ to_z w16 (of_z w16 a) *ℤ to_z w16 (of_z w16 b)
    → to_z w16 (of_z w16 a) ≡ a → to_z w16 (of_z w16 b) ≡ b → to_z w32 (of_z w32 r) ≡ a *ℤ b
part-is r a b f e p q = to_z-of_z f ∙ e ∙ ap₂ (λ (x y : ℤ). x *ℤ y) p q

pub returns : goal.returns
returns c =
    let a = c.coefficient_halves-c in
    let b = c.output_halves-w in
    let h = a.result.high in
    let l = a.result.low in
    let j = b.result.high in
    let k = b.result.low in
    let is = backs h l j k a.ensures.1 a.ensures.2 b.ensures.1 b.ensures.2 in
    let s = sizes h l j k a.ensures.1 a.ensures.2 b.ensures.1 b.ensures.2 in
    let whole =
    sym (four (2 ^ 11) (2 ^ 9) h l j k)
    ∙ ap₂ (λ (x y : ℤ). x *ℤ y) (a.ensures.0 ∙ to_z-of_z c.ranges.coefficient) (b.ensures.0 ∙ to_z-of_z c.ranges.y) in
    rw (
      part-is c.narrow.result h j (record { sfits = c.narrow.type_inv }) c.narrow.ensures is.0 is.2,
      part-is c.narrow-2.result h k (record { sfits = c.narrow-2.type_inv }) c.narrow-2.ensures is.0 is.3,
      part-is c.narrow-3.result l j (record { sfits = c.narrow-3.type_inv }) c.narrow-3.ensures is.1 is.2,
      part-is c.narrow-4.result l k (record { sfits = c.narrow-4.type_inv }) c.narrow-4.ensures is.1 is.3,
    )
    (whole, s.0, s.1, s.2, s.3)
