-- `host::symbols::sdsl_encoder_start` meets its contract: refused, the register is still that of the start. Assumes nothing.
use mathlib.Core.Path.{refl, ◌∙◌}
use Rattle.octets.specs.Bits.{value_of}
use Rattle.host.proofs.symbols.sdsl_encoder_start.Goals as goal

pub returns-in-Err : goal.returns-in-Err
unfolding value_of
returns-in-Err c = record { answered = c.number.ensures ∙ c.in-Err.ensures.answered; next = refl }
