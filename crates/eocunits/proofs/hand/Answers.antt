-- `eocunits::hand` meets its contract.
use mathlib.Core.Path.{◌≡◌, refl, sym, ap₂, ◌∙◌, subst₂}
use mathlib.Core.List.{List, ◌∷◌}
use Prim.Native.Nat.{ℕ, ◌+◌, ◌-◌, ◌*◌, ◌/◌, zero-le}
use native.Mathlib.Omega.{arith}
use lib.ListN.{length, get_or}
use Rattle.eoc.specs.Addresses.{is_meant}
use Rattle.eocunits.specs.Handing.{tail_of}
use Rattle.eocunits.proofs.Laws.{Handing, none_yet, one-taken, one_left, all_done, put_back}
use Rattle.eocunits.proofs.hand.Goals as goal
use Rattle.eocunits.proofs.hand.Goals.{then-is_meant, else-is_meant}

pub loop-j-init : goal.loop-j-init
loop-j-init c =
    let a = c.args in
    (zero-le, none_yet a.units.now (length a.units.now / 79) a.found.destination (tail_of a.found a.contents.now))

-- record j is done: its unit is meant, or not
pub loop-j-preserved : goal.loop-j-preserved
loop-j-preserved c =
    let l = c.loop-j in
    let a = c.args in
    let u = a.units.now in
    let n = length u / 79 in
    let d = a.found.destination in
    let tail = tail_of a.found a.contents.now in
    let e : n * 79 ≡ length u = omega (arith, c.requires) in
    let lt : length tail ≡ 78 = omega (arith, c.told-contents) in
    let own : is_meant (get_or l.units (l.j * 79) 0) d ≡ c.is_meant.result =
    sym (c.is_meant.ensures ∙ ap₂ is_meant c.from.ensures c.from-in-loop-j.ensures) in
    let j = c.if-is_meant in
    elim j.branch [
      | then-is_meant w ↦ (
        omega (arith, w.taken-is, l.invariant.0),
        subst₂ (λ (x : List ℕ) (k : ℕ). Handing u n d tail x k (l.j + 1)) (sym w.units-is) (sym w.taken-is)
            (one-taken u n d tail e lt l.units _ (get_or l.units (l.j * 79) 0 ∷ tail) l.taken l.j c.loop-j-test.true l.invariant.1 (own ∙ w.if-is_meant.true) refl
            (put_back l.units w.put_record.new.unit (l.j * 79) (l.j * 79 + 79 - l.j * 79) tail refl w.put_record.ensures (omega (arith, c.loop-j.auto.units)))),
      )
      | else-is_meant w ↦ (
        omega (arith, w.taken-is, l.invariant.0),
        subst₂ (λ (x : List ℕ) (k : ℕ). Handing u n d tail x k (l.j + 1)) (sym w.units-is) (sym w.taken-is)
            (one_left u n d tail e l.units l.taken l.j c.loop-j-test.true l.invariant.1 (own ∙ w.if-is_meant.false)),
      )
    ]

pub returns : goal.returns
returns c =
    let l = c.loop-j in
    let a = c.args in
    let u = a.units.now in
    all_done u (length u / 79) a.found.destination (tail_of a.found a.contents.now) (omega (arith, c.requires)) l.units l.taken l.j (omega arith) c.loop-j-test.false l.invariant.1
