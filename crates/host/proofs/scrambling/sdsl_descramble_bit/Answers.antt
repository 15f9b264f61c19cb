-- `host::scrambling::sdsl_descramble_bit` meets its contract.
use mathlib.Core.Path.{sym, subst}
use Rattle.recurrence.specs.declared.Way.TheVariants.{Descramble as descramble}
use Rattle.host.specs.declared.scrambling.ScrambledBit.{ScrambledBit}
use Rattle.host.specs.Scrambling.{BitScrambled}
use Rattle.host.proofs.ScramblingLaws.{bit-crossed}
use Rattle.host.proofs.scrambling.sdsl_descramble_bit.Goals as goal

pub returns : goal.returns
returns c =
    let a = c.args in
    subst (λ (s : ScrambledBit). BitScrambled descramble a.end a.state a.bit s) (sym c.bit_out.ensures) (bit-crossed descramble a.end a.state a.bit c.descramble.result c.descramble.ensures)
