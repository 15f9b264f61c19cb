-- `numbers::put_numbers` meets its contract. After k turns the octets of the first k numbers stand before the octets behind them.
use mathlib.Core.Path.{◌≡◌, sym, ap, ◌∙◌}
use mathlib.Core.List.{List, ◌++◌}
use Prim.Native.Nat.{ℕ, ◌+◌, ◌*◌, ◌≤◌, ◌<◌}
use native.Mathlib.Omega.{arith}
use lib.IntN.{ℤ, pos}
use lib.ListN.{length, get_or, take, drop, length-append, length-take, length-drop}
use Rattle.octets.proofs.Complement.{read-i32}
use Rattle.numbers.specs.Promises.{number_octets, with_number, room_for}
use Rattle.numbers.proofs.Laws.{octets-none, octets-many, put_next}
use Rattle.numbers.proofs.put_numbers.Goals as goal

-- the octets stay as many as they were
same : (os : List ℕ) (zs : List ℤ) (k : ℕ) → k ≤ length zs → 4 * k ≤ length os → length (number_octets (take k zs) ++ drop (4 * k) os) ≡ length os
same os zs k h l =
    length-append (number_octets (take k zs)) (drop (4 * k) os)
    ∙ omega (arith, octets-many (take k zs), length-take k zs, length-drop (4 * k) os)

pub loop-k-init : goal.loop-k-init
loop-k-init c =
    let os = c.args.octets.now in
    (omega arith, omega arith, ap (λ (l : List ℕ). l ++ os) (sym octets-none))

pub shape_of-octets-then-octets-k : goal.shape_of-octets-then-octets-k
shape_of-octets-then-octets-k c =
    let a = c.args in
    let l = c.loop-k in
    ap length l.invariant.2 ∙ same a.octets.now a.numbers.now l.k l.invariant.0 l.invariant.1

pub returns-then-octets-k : goal.returns-then-octets-k
returns-then-octets-k c =
    let a = c.args in
    let l = c.loop-k in
    let many = ap length l.invariant.2 ∙ same a.octets.now a.numbers.now l.k l.invariant.0 l.invariant.1 in
    let e : l.k ≡ room_for a.octets.now a.numbers.now = omega (arith, many, c.if-octets-k.true) in
    l.invariant.2 ∙ ap (λ (k : ℕ). number_octets (take k a.numbers.now) ++ drop (4 * k) a.octets.now) e

pub loop-k-preserved : goal.loop-k-preserved
loop-k-preserved c =
    let a = c.args in
    let l = c.loop-k in
    let z = get_or a.numbers.now l.k (pos 0) in
    let h : l.k < length a.numbers.now = omega arith in
    let many = ap length l.invariant.2 ∙ same a.octets.now a.numbers.now l.k l.invariant.0 l.invariant.1 in
    let room : 4 * l.k + 4 ≤ length a.octets.now = omega (arith, many, c.if-octets-k.false) in (
      omega arith,
      omega arith,
      put_next a.octets.now a.numbers.now l.k h room l.invariant.2
          (c.put_number.ensures ∙ ap (with_number l.octets l.k) (read-i32 z c.z-1.given)),
    )

pub shape_of-octets : goal.shape_of-octets
shape_of-octets c =
    let a = c.args in
    let l = c.loop-k in
    ap length l.invariant.2 ∙ same a.octets.now a.numbers.now l.k l.invariant.0 l.invariant.1

pub returns : goal.returns
returns c =
    let a = c.args in
    let l = c.loop-k in
    let e : l.k ≡ room_for a.octets.now a.numbers.now = omega arith in
    l.invariant.2 ∙ ap (λ (k : ℕ). number_octets (take k a.numbers.now) ++ drop (4 * k) a.octets.now) e
