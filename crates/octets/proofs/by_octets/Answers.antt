-- `octets::by_octets` meets its contract. The last octets are read, as many as the loop has taken.
use mathlib.Core.Path.{◌≡◌, refl, ap, ap₂, ◌∙◌}
use Prim.Native.Nat.{ℕ, ◌-◌, ◌*◌, ◌<◌}
use native.Mathlib.Omega.{arith}
use lib.ListN.{length, get_or, length-reverse}
use lib.Seq.{take_all}
use Rattle.std.proofs.lemmas.Iterator.Adapters.{YieldsList-from_rev_slice}
use Rattle.std.proofs.lemmas.Iterator.Consumers.{YieldsList-turn, YieldsList-end}
use Rattle.std.proofs.lemmas.List.{get_or-reverse, get_or_default, length_push}
use Rattle.octets.specs.Bits.{value_of, bits_of, part}
use Rattle.octets.proofs.Laws.{bits-length}
use Rattle.octets.proofs.Words.{octet-more}
use Rattle.octets.proofs.by_octets.Goals as goal

pub loop-octet-init : goal.loop-octet-init
unfolding value_of
loop-octet-init c = (omega arith, refl)

pub loop-octet-preserved : goal.loop-octet-preserved
loop-octet-preserved c =
    let s = c.args.s.now in
    let l = c.loop-octet in
    let x = c.in-Some.field-0 in
    let t = YieldsList-turn (YieldsList-from_rev_slice s cc) l.yielded _ l.yielded_by _ _ x c.in-Some.is c.next.ensures.steps in
    let n = length l.yielded in
    let lt : n < length s = omega (arith, t.0, length-reverse s) in
    let at = length s - 1 - n in
    let o : x.now ≡ get_or s at 0 = t.1 ∙ get_or-reverse s n x.now lt ∙ get_or_default s at x.now 0 (omega arith) in
    let m = length_push l.yielded x in
    (omega arith, octet-more s n _ l.v c.from.result (λ k. omega (arith, c.type_inv.s k)) c.requires lt m (c.from.ensures ∙ o) l.invariant.1)

pub returns : goal.returns
returns c =
    let s = c.args.s.now in
    let l = c.loop-octet in
    let t = YieldsList-end (YieldsList-from_rev_slice s cc) l.yielded _ l.yielded_by _ _ c.in-None.is c.next.ensures.steps in
    let n : length l.yielded ≡ length s = t.1 ∙ length-reverse s in
    let e : 8 * (length s - length l.yielded) ≡ 0 = omega arith in
    l.invariant.1 ∙ ap₂ (λ (x y : ℕ). value_of (part x (8 * y) (bits_of s))) e n
    ∙ ap value_of (take_all (8 * length s) (bits_of s) (omega (arith, bits-length s)))
