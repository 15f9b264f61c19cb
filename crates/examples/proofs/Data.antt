-- The one claim over the table of data-mode frames: in every row the definitions that the contracts cite give what is due. Assumes nothing.
use mathlib.Core.Path.{refl}
use Rattle.octets.specs.Bits.{digits_of, value_of, bits_of, octets_of}
use Rattle.remainder.specs.Register.{register_of}
use Rattle.dataframe.specs.Frame.{data_bits}
use Rattle.examples.specs.Calls.{ones_from}
use Rattle.examples.specs.Data.{data_table, found, DataClaim, DataHold}

pub data-examples : DataHold data_table
unfolding data_table found DataClaim DataHold ones_from digits_of value_of bits_of octets_of register_of data_bits
data-examples = (refl, (refl, (refl, (refl, (refl, (refl, (refl, (refl, (refl, tt)))))))))
