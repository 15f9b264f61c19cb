-- `host::scrambling::sdsl_descramble` meets its contract.
use mathlib.Core.Path.{sym, subst}
use Rattle.recurrence.specs.declared.Way.TheVariants.{Descramble as descramble}
use Rattle.host.specs.declared.scrambling.Scrambled.{Scrambled}
use Rattle.host.specs.Scrambling.{ScrambledRun}
use Rattle.host.proofs.ScramblingLaws.{run-crossed}
use Rattle.host.proofs.scrambling.sdsl_descramble.Goals as goal

pub returns : goal.returns
returns c =
    let a = c.args in
    subst (λ (s : Scrambled). ScrambledRun descramble a.end a.state a.input.now a.bits a.output.now s c.descramble_run-ran.new.output) (sym c.scrambled_out.ensures) (run-crossed descramble a.end a.state a.input.now a.bits a.output.now c.descramble_run-ran.result c.descramble_run-ran.new.output c.descramble_run-ran.ensures)
