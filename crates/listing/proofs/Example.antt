-- SCOPE's example: for octets 9F 35 and then 527 zeros the listing is the text that it gives. Computed.
use mathlib.Core.Path.{◌≡◌, refl}
use mathlib.Core.List.{◌∷◌}
use lib.ListN.{replicate}
use Rattle.octets.specs.Bits.{digits_of, value_of, bits_of, octets_of}
use Rattle.octets.specs.Signed.{signed_of, numbers_in}
use Rattle.remainder.specs.Register.{register_of}
use Rattle.layout.specs.Frame.{training_sync, final_sync}
use Rattle.ascii.specs.Text.{text, decimal_in, decimal, signed, hex, hexes}
use Rattle.highest.specs.Highest.{is_zero, all_zero, highest}
use Rattle.listing.specs.Listing.{number_line, coefficient_line, coefficient_lines, vendor_line, check_line, training_lines, training_text, final_text, listed, listing}

pub example : listing (0x9F ∷ 0x35 ∷ replicate 527 0) ≡ text "kind training\ncoefficients 0\nA 0\nB 0\nvendor 00000000000000000000000000000000\ncheck 0000\n"
unfolding listing listed training_text training_lines final_text number_line coefficient_line coefficient_lines vendor_line check_line highest all_zero is_zero decimal
    decimal_in signed hex hexes training_sync final_sync register_of signed_of numbers_in digits_of value_of bits_of octets_of
example = refl
