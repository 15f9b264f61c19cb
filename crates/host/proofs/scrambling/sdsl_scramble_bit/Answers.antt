-- `host::scrambling::sdsl_scramble_bit` meets its contract.
use mathlib.Core.Path.{sym, subst}
use Rattle.recurrence.specs.declared.Way.TheVariants.{Scramble as scramble}
use Rattle.host.specs.declared.scrambling.ScrambledBit.{ScrambledBit}
use Rattle.host.specs.Scrambling.{BitScrambled}
use Rattle.host.proofs.ScramblingLaws.{bit-crossed}
use Rattle.host.proofs.scrambling.sdsl_scramble_bit.Goals as goal

pub returns : goal.returns
returns c =
    let a = c.args in
    subst (λ (s : ScrambledBit). BitScrambled scramble a.end a.state a.bit s) (sym c.bit_out.ensures) (bit-crossed scramble a.end a.state a.bit c.scramble.result c.scramble.ensures)
