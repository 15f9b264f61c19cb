-- `eocwriter::put_message` meets its contract.
use mathlib.Core.Path.{ap, ◌∙◌}
use mathlib.Core.List.{List, ◌∷◌, ◌++◌}
use Prim.Native.Nat.{ℕ}
use lib.ListN.{length}
use Rattle.fcs.specs.Sequence.{sequence_of}
use Rattle.eoc.specs.Message.{escaped, framed, padded, form_most}
use Rattle.eocwriter.proofs.Laws.{body-put}
use Rattle.eocwriter.proofs.put_message.Goals as goal

pub returns : goal.returns
returns c =
    let a = c.args in
    let body = a.address ∷ a.number ∷ a.contents.now in
    let all = c.put_sequence.ensures ∙ ap (λ (x : List ℕ). x ++ sequence_of x) (body-put a.address a.number a.contents.now c.copy_from_slice.new.self c.copy_from_slice.ensures.after) in
    let e = c.put_form.ensures in (
      e.1,
      e.0 ∙ ap (λ (x : List ℕ). length (framed (escaped x))) all,
      e.2 ∙ ap (λ (x : List ℕ). padded form_most (framed (escaped x))) all,
    )
