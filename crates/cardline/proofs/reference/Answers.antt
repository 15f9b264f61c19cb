-- `cardline::reference` meets its contract.
use mathlib.Core.Path.{refl, ap}
use mathlib.Core.List.{◌++◌}
use Rattle.std.proofs.Common.{rules}
use Rattle.ascii.specs.Text.{text}
use Rattle.ascii.proofs.Room.{puts-more, puts_as, puts-told}
use Rattle.cardline.specs.Words.{verdict_words}
use Rattle.cardline.specs.Line.{reference_name, reference_line}
use Rattle.cardline.proofs.reference.Goals as goal

pub returns : goal.returns
unfolding reference_line
returns c =
    let a = c.args in
    puts-told
    (puts_as (puts-more (puts-more c.put_reference.ensures c.put_verdict.ensures) c.word.ensures)
    (ap (λ n. reference_name a.name.now ++ verdict_words n a.v.octets ++ text "; a training frame that reads is wanted\n") c.unfit.ensures))
    refl (search rules)
