-- `eocreader::is_checked` meets its contract.
use mathlib.Core.Path.{sym, ap, ap₂, ◌∙◌}
use mathlib.Core.Bool.{Bool, ◌&&◌}
use mathlib.Core.List.{[], ◌∷◌}
use Prim.Native.Nat.{ℕ, ◌-◌, ◌/◌, ◌%◌}
use borrow.Author.Tests.{eq-eqb, ne_eqb}
use lib.Dec.{eqb}
use lib.ListN.{length, get_or}
use Rattle.fcs.proofs.Laws.{sequence-computed}
use Rattle.eoc.specs.Reading.{body_in}
use Rattle.eocreader.proofs.Judging.{checked-is}
use Rattle.eocreader.proofs.is_checked.Goals as goal

pub returns-then-from-c : goal.returns-then-from-c
returns-then-from-c c =
    let f = c.args.fields.now in
    let r = c.sequence-c.result in
    let s = sequence-computed (body_in f) (r % 256 ∷ r / 256 ∷ []) c.sequence-c.ensures.right in
    sym (checked-is f (r % 256) (r / 256) c.requires.0 s
    ∙ ap₂ (λ (t : Bool) (x : ℕ). t && eqb x (r / 256)) (eq-eqb _ _ (sym c.from.ensures ∙ c.if-from-c.true)) (sym c.from-then-from-c.ensures))

pub returns-else-from-c : goal.returns-else-from-c
returns-else-from-c c =
    let f = c.args.fields.now in
    let r = c.sequence-c.result in
    let s = sequence-computed (body_in f) (r % 256 ∷ r / 256 ∷ []) c.sequence-c.ensures.right in
    ne_eqb _ _ c.if-from-c.false
    ∙ sym (checked-is f (r % 256) (r / 256) c.requires.0 s
    ∙ ap (λ (t : Bool). t && eqb (get_or f (length f - 1) 0) (r / 256)) (ne_eqb _ _ (λ e. c.if-from-c.false (c.from.ensures ∙ e))))
