-- `verdict::reference` meets its contract.
use mathlib.Core.Path.{◌∙◌}
use Rattle.verdict.proofs.Laws.{customer-refused, customer-final, customer-given}
use Rattle.verdict.proofs.reference.Goals as goal
use Rattle.verdict.proofs.reference.Goals.{then-v-ne0-via-then-v-ne0, then-v-ne0-via-else-v-ne0+then-v-ne-TRAINING}

pub returns-then-v-ne0 : goal.returns-then-v-ne0
returns-then-v-ne0 c =
    c.nobody.ensures ∙ elim c.then-v-ne0.branch [
      | then-v-ne0-via-then-v-ne0 w ↦ customer-refused c.args.v w.if-v-ne0.true
      | then-v-ne0-via-else-v-ne0+then-v-ne-TRAINING w ↦ customer-final c.args.v w.if-v-ne0.false w.if-v-ne-TRAINING.true
    ]

pub returns : goal.returns
returns c = customer-given c.args.v c.if-v-ne0.false c.if-v-ne-TRAINING.false
