-- `fcs::behind_ones` meets its contract.
use mathlib.Core.Path.{sym, ap, subst, ◌∙◌}
use Prim.Native.Nat.{ℕ, ◌≤◌}
use lib.ListN.{length, take}
use Rattle.octets.proofs.Turn.{turn_of}
use Rattle.fcs.specs.Sequence.{register}
use Rattle.fcs.proofs.Laws.{two-there}
use Rattle.fcs.proofs.behind_ones.Goals as goal

pub bare-requires : goal.bare-requires
bare-requires c =
    let a = c.args in
    let h = two-there (length a.s.now) a.n c.if-few-n.true in
    subst (λ (k : ℕ). k ≤ length a.s.now) h.1 h.0

pub returns-then-few-n : goal.returns-then-few-n
returns-then-few-n c =
    let a = c.args in
    let s = a.s.now in
    c.bare.ensures ∙ ap (λ (k : ℕ). turn_of 16 (register (take k s))) (sym (two-there (length s) a.n c.if-few-n.true).1)
