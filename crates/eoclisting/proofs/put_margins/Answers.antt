-- `eoclisting::put_margins` meets its contract.
use mathlib.Core.Path.{ap}
use mathlib.Core.List.{[], ◌∷◌}
use Prim.Native.Nat.{ℕ}
use Rattle.ascii.specs.Text.{text}
use Rattle.ascii.proofs.Room.{puts-more, puts_as}
use Rattle.forms.specs.Forms.{formed}
use Rattle.eoclisting.specs.Contents.{margins_text}
use Rattle.eoclisting.proofs.put_margins.Goals as goal

pub returns : goal.returns
unfolding margins_text
returns c =
    puts-more (puts-more (puts-more (puts-more c.word.ensures c.put_margin.ensures) c.word-2.ensures) c.put_margin-2.ensures)
    (puts_as c.form.ensures (ap (λ (n : ℕ). formed (text ", loop #") (n ∷ [])) c.from.ensures))
