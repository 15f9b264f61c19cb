-- The one claim over the table of operations channel messages: in every row the definitions that the contracts cite give what is due. Assumes nothing.
use mathlib.Core.Path.{refl}
use Rattle.octets.specs.Bits.{digits_of, value_of, bits_of, octets_of}
use Rattle.remainder.specs.Register.{register_of}
use Rattle.fcs.specs.Sequence.{sequence_of}
use Rattle.eoc.specs.Message.{escaped}
use Rattle.eoc.specs.Reading.{among, other_escape, decoded}
use Rattle.examples.specs.Eoc.{eoc_table, EocClaim, EocHold}

pub eoc-examples : EocHold eoc_table
unfolding eoc_table EocClaim EocHold digits_of value_of bits_of octets_of register_of sequence_of escaped among other_escape decoded
eoc-examples = (refl, (refl, (refl, (refl, (refl, (refl, tt))))))
