-- `eocwriter::put_form` meets its contract.
use mathlib.Core.Path.{◌≡◌, ◌∙◌}
use mathlib.Core.List.{[], ◌∷◌}
use native.Mathlib.Omega.{arith}
use lib.ListN.{length, length-set, length-append}
use Rattle.eoc.specs.Message.{flag, escaped}
use Rattle.eocwriter.proofs.Laws.{form-put}
use Rattle.eocwriter.proofs.put_form.Goals as goal

pub returns : goal.returns
returns c =
    let a = c.args in
    let X = escaped a.fields.now in
    let e = c.put_escaped-end.ensures in
    let l : length c.put_escaped-end.new.room ≡ length a.room.now = c.put_escaped-end.auto.room ∙ length-set a.room.now 0 126 in (
      omega (arith, e.0, length-append X (flag ∷ [])),
      omega (arith, e.1, c.requires),
      form-put a.room.now c.put_escaped-end.new.room c.fill.new.self X c.put_escaped-end.result c.requires.1 l e.0 (omega (arith, e.1, c.requires)) e.2 (c.fill.ensures.after (λ y p. p)),
    )
