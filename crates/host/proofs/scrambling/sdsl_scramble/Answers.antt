-- `host::scrambling::sdsl_scramble` meets its contract.
use mathlib.Core.Path.{sym, subst}
use Rattle.recurrence.specs.declared.Way.TheVariants.{Scramble as scramble}
use Rattle.host.specs.declared.scrambling.Scrambled.{Scrambled}
use Rattle.host.specs.Scrambling.{ScrambledRun}
use Rattle.host.proofs.ScramblingLaws.{run-crossed}
use Rattle.host.proofs.scrambling.sdsl_scramble.Goals as goal

pub returns : goal.returns
returns c =
    let a = c.args in
    subst (λ (s : Scrambled). ScrambledRun scramble a.end a.state a.input.now a.bits a.output.now s c.scramble_run-ran.new.output) (sym c.scrambled_out.ensures) (run-crossed scramble a.end a.state a.input.now a.bits a.output.now c.scramble_run-ran.result c.scramble_run-ran.new.output c.scramble_run-ran.ensures)
