-- `host::scrambling::sdsl_scrambler_start` meets its contract.
use mathlib.Core.Path.{sym, subst}
use Rattle.host.specs.declared.scrambling.Scrambled.{Scrambled}
use Rattle.host.specs.Scrambling.{ScramblerStarted}
use Rattle.host.proofs.ScramblingLaws.{start-crossed}
use Rattle.host.proofs.scrambling.sdsl_scrambler_start.Goals as goal

pub returns : goal.returns
returns c =
    let a = c.args in
    subst (λ (s : Scrambled). ScramblerStarted a.end s) (sym c.scrambled_out.ensures) (start-crossed a.end c.start.result c.start.ensures)
