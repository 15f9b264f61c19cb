-- `octets::fill` meets its contract.
use mathlib.Core.Path.{ap, ◌∙◌}
use Prim.Native.Nat.{ℕ, ◌-◌}
use native.Mathlib.Omega.{arith}
use lib.ListN.{drop, length-drop, replicate}
use lib.Seq.{length-take-le}
use Rattle.octets.proofs.Words.{filled, zeros-laid}
use Rattle.octets.proofs.fill.Goals as goal

pub returns-then-i-last : goal.returns-then-i-last
returns-then-i-last c =
    let a = c.args in
    let s = a.s.now in
    let m = c.min-last.result - a.i in
    let n = length-take-le m (drop a.i s) (omega (arith, length-drop a.i s, c.min-last.ensures)) in
    filled s a.i m c.fill.new.self (omega (arith, c.min-last.ensures)) (c.fill.ensures.after (λ y e. e) ∙ ap (λ (k : ℕ). replicate k 0) n)
    ∙ zeros-laid s a.i m (a.end - a.i) (λ k. omega (arith, c.slice_known-1.given k)) (omega (arith, c.min-last.ensures)) (λ h. omega (arith, c.min-last.ensures))

pub returns-else-i-last : goal.returns-else-i-last
returns-else-i-last c =
    let a = c.args in
    zeros-laid a.s.now a.i 0 (a.end - a.i) (λ n. omega (arith, c.slice_known-1.given n)) (omega arith) (λ h. omega (arith, c.min-last.ensures))
