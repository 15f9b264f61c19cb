-- `eoclisting::put_software` meets its contract.
use mathlib.Core.Path.{ap}
use mathlib.Core.List.{[], ◌∷◌}
use Prim.Native.Nat.{ℕ}
use Rattle.ascii.specs.Text.{text}
use Rattle.ascii.proofs.Room.{puts-more, puts_as}
use Rattle.forms.specs.Forms.{formed}
use Rattle.eoclisting.specs.Contents.{field_text, software_text}
use Rattle.eoclisting.proofs.put_software.Goals as goal

pub returns : goal.returns
unfolding software_text field_text
returns c =
    puts-more
    (puts-more (puts-more (puts_as c.form.ensures (ap (λ (v : ℕ). formed (text ": SDSL version #") (v ∷ [])) c.from.ensures)) c.put_field.ensures) c.put_field-2.ensures)
    c.put_field-3.ensures
