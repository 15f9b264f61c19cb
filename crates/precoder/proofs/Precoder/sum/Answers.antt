-- `precoder::Precoder::sum` meets its contract. The invariant: the four sums, put together, are the exact sum over the taps passed, and none is larger
-- than so many products can be. Assumes nothing.
use mathlib.Core.Path.{◌≡◌, refl, ap, ap₂, ◌∙◌}
use mathlib.Core.List.{List}
use Prim.Native.Nat.{ℕ, ◌+◌, ◌^◌, ◌<◌}
use native.Mathlib.Numerals.{add-one}
use native.Mathlib.Omega.{arith}
use lib.IntN.{ℤ, pos, ◌+ℤ◌, ◌*ℤ◌}
use lib.ListN.{length, get_or}
use mir.Syntax.{w32, w64}
use mir.Val.{SFits, to_z, of_z}
use mir.Facts.{to_z-of_z}
use Rattle.std.proofs.lemmas.Slice.Zip.{zip_turn, zip_end}
use Rattle.std.proofs.lemmas.List.{length_push}
use Rattle.ranges.proofs.Laws.{mag-at, mag-range}
use Rattle.precoder.specs.Precoder.{exact_sum}
use Rattle.precoder.specs.declared.Parts.{Parts}
use Rattle.precoder.proofs.Columns.{columns, column-more, column-asks, column-is}
use Rattle.precoder.proofs.Precoder.sum.Goals as goal

pub loop-coefficient-init : goal.loop-coefficient-init
unfolding exact_sum
loop-coefficient-init c = (refl, omega arith, omega arith, omega arith, omega arith)

pub product-p-requires : goal.product-p-requires
product-p-requires c =
    let l = c.loop-coefficient in
    let cs = c.args.self.now.taps.now in
    let ys = c.args.self.now.past in
    let k = length l.yielded in
    let t = zip_turn cs ys l.yielded c.into_iter-coefficient-iterator.result l.coefficient-iterator c.next.new.self c.next.result (cc) (cc) l.yielded_by _ c.in-Some.is c.next.ensures.steps in
    let x = get_or cs k (pos 0) in
    let y = get_or ys k (pos 0) in
    let a = mag-at 2097151 cs k c.args.self.now.coefficients in
    let b = mag-at 131071 ys k c.args.self.now.outputs in
    let f : SFits w32 x = record { sfits = omega (arith, a) } in
    let g : SFits w32 y = record { sfits = omega (arith, b) } in
    rw (t.2 (pos 0), t.3 (pos 0), to_z-of_z f, to_z-of_z g) (
      mag-range 2097151 x a,
      mag-range 131071 y b,
    )

pub overflow_add-hh : goal.overflow_add-hh
overflow_add-hh c =
    let l = c.loop-coefficient in
    let t = zip_turn c.args.self.now.taps.now c.args.self.now.past l.yielded c.into_iter-coefficient-iterator.result l.coefficient-iterator c.next.new.self c.next.result (cc) (cc) l.yielded_by _ c.in-Some.is c.next.ensures.steps in
    column-asks (length l.yielded) (omega (arith, t.0)) (to_z w32 l.hh-bits) c.product-p.result.hh l.invariant.1 c.product-p.ensures.1

pub overflow_add-hl : goal.overflow_add-hl
overflow_add-hl c =
    let l = c.loop-coefficient in
    let t = zip_turn c.args.self.now.taps.now c.args.self.now.past l.yielded c.into_iter-coefficient-iterator.result l.coefficient-iterator c.next.new.self c.next.result (cc) (cc) l.yielded_by _ c.in-Some.is c.next.ensures.steps in
    column-asks (length l.yielded) (omega (arith, t.0)) (to_z w32 l.hl-bits) c.product-p.result.hl l.invariant.2 c.product-p.ensures.2

pub overflow_add-lh : goal.overflow_add-lh
overflow_add-lh c =
    let l = c.loop-coefficient in
    let t = zip_turn c.args.self.now.taps.now c.args.self.now.past l.yielded c.into_iter-coefficient-iterator.result l.coefficient-iterator c.next.new.self c.next.result (cc) (cc) l.yielded_by _ c.in-Some.is c.next.ensures.steps in
    column-asks (length l.yielded) (omega (arith, t.0)) (to_z w32 l.lh-bits) c.product-p.result.lh l.invariant.3 c.product-p.ensures.3

pub overflow_add-ll : goal.overflow_add-ll
overflow_add-ll c =
    let l = c.loop-coefficient in
    let t = zip_turn c.args.self.now.taps.now c.args.self.now.past l.yielded c.into_iter-coefficient-iterator.result l.coefficient-iterator c.next.new.self c.next.result (cc) (cc) l.yielded_by _ c.in-Some.is c.next.ensures.steps in
    column-asks (length l.yielded) (omega (arith, t.0)) (to_z w32 l.ll-bits) c.product-p.result.ll l.invariant.4 c.product-p.ensures.4

-- the four sums with the products of one tap more, put together, are the exact sum with that tap
more : (coefficients past : List ℤ) (k : ℕ) (hh hl lh ll : ℤ) (p : Parts) (x y : ℤ)
    → pos (2 ^ 20) *ℤ hh +ℤ pos (2 ^ 11) *ℤ hl +ℤ pos (2 ^ 9) *ℤ lh +ℤ ll ≡ exact_sum k coefficients past
    → pos (2 ^ 20) *ℤ p.hh +ℤ pos (2 ^ 11) *ℤ p.hl +ℤ pos (2 ^ 9) *ℤ p.lh +ℤ p.ll ≡ x *ℤ y
    → x ≡ get_or coefficients k (pos 0) → y ≡ get_or past k (pos 0)
    → pos (2 ^ 20) *ℤ (hh +ℤ p.hh) +ℤ pos (2 ^ 11) *ℤ (hl +ℤ p.hl) +ℤ pos (2 ^ 9) *ℤ (lh +ℤ p.lh) +ℤ (ll +ℤ p.ll)
    ≡ exact_sum (k + 1) coefficients past
unfolding exact_sum
more coefficients past k hh hl lh ll p x y e f g h =
    rw (add-one k)
    (columns (2 ^ 20) (2 ^ 11) (2 ^ 9) hh hl lh ll p.hh p.hl p.lh p.ll ∙ ap₂ (λ (a b : ℤ). a +ℤ b) e (f ∙ ap₂ (λ (a b : ℤ). a *ℤ b) g h))

pub loop-coefficient-preserved : goal.loop-coefficient-preserved
loop-coefficient-preserved c =
    let l = c.loop-coefficient in
    let i = l.invariant in
    let p = c.product-p.result in
    let e = c.product-p.ensures in
    let cs = c.args.self.now.taps.now in
    let ys = c.args.self.now.past in
    let k = length l.yielded in
    let t = zip_turn cs ys l.yielded c.into_iter-coefficient-iterator.result l.coefficient-iterator c.next.new.self c.next.result (cc) (cc) l.yielded_by _ c.in-Some.is c.next.ensures.steps in
    let less : k < 180 = omega (arith, t.0) in
    let f : SFits w32 (get_or cs k (pos 0)) = record { sfits = omega (arith, mag-at 2097151 cs k c.args.self.now.coefficients) } in
    let g : SFits w32 (get_or ys k (pos 0)) = record { sfits = omega (arith, mag-at 131071 ys k c.args.self.now.outputs) } in
    let x = to_z w32 (of_z w32 c.in-Some.field-0-0.now) in
    let y = to_z w32 (of_z w32 c.in-Some.field-0-1.now) in
    let x-is : x ≡ get_or cs k (pos 0) = rw (t.2 (pos 0)) (to_z-of_z f) in
    let y-is : y ≡ get_or ys k (pos 0) = rw (t.3 (pos 0)) (to_z-of_z g) in
    let hh = to_z w32 l.hh-bits in
    let hl = to_z w32 l.hl-bits in
    let lh = to_z w32 l.lh-bits in
    let ll = to_z w32 l.ll-bits in
    rw (
      length_push l.yielded (c.in-Some.field-0-0, c.in-Some.field-0-1),
      column-is k less hh p.hh i.1 e.1,
      column-is k less hl p.hl i.2 e.2,
      column-is k less lh p.lh i.3 e.3,
      column-is k less ll p.ll i.4 e.4,
    ) (
      more cs ys k hh hl lh ll p x y i.0 e.0 x-is y-is,
      column-more k hh p.hh i.1 e.1,
      column-more k hl p.hl i.2 e.2,
      column-more k lh p.lh i.3 e.3,
      column-more k ll p.ll i.4 e.4,
    )

pub returns : goal.returns
returns c =
    let l = c.loop-coefficient in
    let cs = c.args.self.now.taps.now in
    let ys = c.args.self.now.past in
    let t = zip_end cs ys l.yielded c.into_iter-coefficient-iterator.result l.coefficient-iterator c.next.new.self c.next.result (cc) (cc) l.yielded_by c.in-None.is c.next.ensures.steps in
    let k : length l.yielded ≡ 180 = omega (arith, t) in
    to_z-of_z {w = w64} (record { sfits = c.joined.type_inv }) ∙ c.joined.ensures ∙ l.invariant.0 ∙ ap (λ (n : ℕ). exact_sum n cs ys) k
