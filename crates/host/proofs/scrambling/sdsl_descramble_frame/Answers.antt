-- `host::scrambling::sdsl_descramble_frame` meets its contract.
use mathlib.Core.Path.{sym, subst}
use Rattle.host.specs.declared.scrambling.Scrambled.{Scrambled}
use Rattle.host.specs.Scrambling.{FrameDescrambled}
use Rattle.host.proofs.ScramblingLaws.{frame-crossed}
use Rattle.host.proofs.scrambling.sdsl_descramble_frame.Goals as goal

pub returns : goal.returns
returns c =
    let a = c.args in
    subst (λ (s : Scrambled). FrameDescrambled a.end a.state a.frame.now a.output.now s c.descramble_frame-ran.new.output) (sym c.scrambled_out.ensures) (frame-crossed a.end a.state a.frame.now a.output.now c.descramble_frame-ran.result c.descramble_frame-ran.new.output c.descramble_frame-ran.ensures)
