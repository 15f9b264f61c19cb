use native.Mathlib.Omega.{arith}
use mathlib.Core.Path.{◌≡◌, ap, ◌∙◌}
use Prim.Native.Nat.{ℕ}
use lib.ListN.{get_or}
use Rattle.startup.specs.Run.{taken_of, numbers}
use Rattle.startup.proofs.Turns.{one-opens, turn}
use Rattle.startup.proofs.Run.over.Goals as goal

pub loop-place-preserved : goal.loop-place-preserved
loop-place-preserved c =
    let l = c.args.codes.now in
    let i = c.loop-place in
    let is : numbers c.taken-run.result ≡ taken_of i.place (get_or l i.place 0) (numbers i.run) =
    c.taken-run.ensures ∙ ap (λ (code : ℕ). taken_of i.place code (numbers i.run)) c.from.ensures in
    let opened = one-opens i.place (get_or l i.place 0) (numbers i.run) (numbers c.taken-run.result) is in
    (omega arith, turn l i.place (numbers i.run) (numbers c.taken-run.result) c.loop-place-test.true is ∙ i.invariant.1)
