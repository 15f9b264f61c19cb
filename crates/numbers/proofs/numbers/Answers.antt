-- `numbers::numbers` meets its contract. After k turns the first k stand in their places.
use mathlib.Core.Path.{◌≡◌, sym, ap, ◌∙◌}
use mathlib.Core.List.{List}
use Prim.Native.Nat.{ℕ, ◌≤◌}
use native.Mathlib.Omega.{arith}
use lib.IntN.{pos}
use lib.ListN.{length, take, replicate, length-set, length-append, length-replicate}
use lib.Seq.{take_all}
use Rattle.octets.proofs.Complement.{read-i32}
use Rattle.numbers.specs.Promises.{numbers_of}
use Rattle.numbers.proofs.Laws.{padded-at, read_next}
use Rattle.numbers.proofs.numbers.Invariants.{padded}
use Rattle.numbers.proofs.numbers.Goals as goal

padded-many : (os : List ℕ) → 180 ≤ length (padded os)
padded-many os = omega (arith, length-append (numbers_of os) (replicate 180 (pos 0)), length-replicate 180 (pos 0))

pub loop-k-preserved : goal.loop-k-preserved
loop-k-preserved c =
    let os = c.args.octets.now in
    let l = c.loop-k in (
      omega arith,
      length-set l.into l.k _ ∙ l.invariant.1,
      read_next (padded os) l.into l.k _ (omega (arith, l.invariant.1)) (omega (arith, padded-many os)) l.invariant.2
          (read-i32 c.number.result c.number.type_inv ∙ c.number.ensures ∙ sym (padded-at (numbers_of os) 180 l.k)),
    )

pub returns : goal.returns
returns c =
    let os = c.args.octets.now in
    let l = c.loop-k in
    let e : l.k ≡ 180 = omega arith in
    sym (take_all l.k l.into (omega (arith, l.invariant.1))) ∙ l.invariant.2 ∙ ap (λ (k : ℕ). take k (padded os)) e
