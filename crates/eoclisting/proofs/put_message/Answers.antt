-- `eoclisting::put_message` meets its contract.
use mathlib.Core.Path.{ap, ap₂}
use mathlib.Core.List.{[], ◌∷◌}
use Prim.Native.Nat.{ℕ}
use Rattle.ascii.specs.Text.{text}
use Rattle.ascii.proofs.Room.{puts-more, puts_as}
use Rattle.forms.specs.Forms.{formed}
use Rattle.eoclisting.specs.Names.{name_of}
use Rattle.eoclisting.specs.Contents.{contents_text}
use Rattle.eoclisting.specs.Line.{way_text, message_line}
use Rattle.eoclisting.proofs.put_message.Goals as goal

pub returns : goal.returns
unfolding message_line
returns c =
    let a = c.args in
    let n = c.from-number.ensures in
    puts-more
    (puts-more
    (puts-more
    (puts-more (puts-more c.form.ensures (puts_as c.put_way.ensures (ap₂ way_text c.from.ensures c.from-2.ensures)))
    (puts_as c.form-2.ensures (ap (λ (k : ℕ). formed (text ": # ") (k ∷ [])) n)))
    (puts_as c.put_name.ensures (ap name_of n)))
    (puts_as c.put_contents.ensures (ap (λ (k : ℕ). contents_text k a.contents.now) n)))
    c.put.ensures
