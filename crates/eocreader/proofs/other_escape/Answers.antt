-- `eocreader::other_escape` meets its contract.
use mathlib.Core.Path.{◌≡◌, ap, ap₂, ◌∙◌, subst}
use mathlib.Core.Bool.{Bool, not, ◌&&◌, ◌||◌}
use mathlib.Core.List.{List}
use Prim.Native.Nat.{ℕ, ◌+◌, ◌-◌}
use native.Mathlib.Omega.{arith}
use lib.Dec.{eqb}
use lib.ListN.{length, get_or, drop, length-drop}
use lib.Seq.{get_or-drop}
use Rattle.std.proofs.lemmas.Iterator.{window_more}
use Rattle.std.specs.Slice.Iter.{windows_rest}
use Rattle.octets.specs.Bits.{part}
use Rattle.eoc.specs.Message.{escape}
use Rattle.eoc.specs.Reading.{other_escape}
use Rattle.eocreader.proofs.Laws.{Others, ends, others-next, others-all}
use Rattle.eocreader.proofs.other_escape.Goals as goal

pub loop-pair-preserved : goal.loop-pair-preserved
loop-pair-preserved c =
    let s = c.args.s.now in
    let l = c.loop-pair in
    let i = l.invariant in
    let k = length s - length (windows_rest l.pair-iterator) in
    let m = window_more (drop 1 s) l.pair-iterator c.next.new.self c.next.result c.in-Some.pair c.in-Some.is c.next.ensures.steps (omega arith) i.2 i.3 in
    let all = length-drop 1 s in
    let first : get_or c.in-Some.pair.now 0 0 ≡ get_or s k 0 = at s _ _ k (m.3 0 0 (omega arith)) (omega arith) in
    let second : get_or c.in-Some.pair.now 1 0 ≡ get_or s (k + 1) 0 = at s _ _ (k + 1) (m.3 1 0 (omega arith)) (omega arith) in
    let next : k + 1 ≡ length s - length (windows_rest c.next.new.self) = omega arith in (
      omega arith,
      omega arith,
      omega arith,
      m.1,
      subst (Others s (length s - 1) (l.other || (eqb (get_or c.in-Some.pair.now 0 0) 125 && not c.ends_escape.result))) next
          (others-next s (length s - 1) l.other _ k (omega arith) (omega arith) c.requires.1 i.4
          (ap₂ (λ (x : ℕ) (b : Bool). l.other || (eqb x escape && not b)) first (c.ends_escape.ensures ∙ ap ends second))),
    )
  where
    at : (s : List ℕ) (o i k : ℕ) → o ≡ get_or (drop 1 s) i 0 → 1 + i ≡ k → o ≡ get_or s k 0
    at s o i k e f = e ∙ get_or-drop 1 s i 0 ∙ ap (λ (n : ℕ). get_or s n 0) f

pub returns : goal.returns
returns c =
    let s = c.args.s.now in
    let l = c.loop-pair in
    let i = l.invariant in
    let few = c.in-None.ensures.steps in
    let n : length s - 1 - 1 ≡ length s - 2 = omega arith in
    others-all s (length s - 1) l.other (length s - length (windows_rest l.pair-iterator)) (omega (arith, few.1.0)) i.4
    ∙ ap (λ (k : ℕ). other_escape (part 1 k s)) n
