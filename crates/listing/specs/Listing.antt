-- The bench listing (SCOPE): the text that the lister prints for the octets that it reads, line by line.
use Rattle.std.specs.Prelude.{cond, List, [], ◌∷◌, ◌++◌, ℕ, zero, suc, ◌/◌, ◌%◌, ℤ, take}
use Prim.Native.String.{String}
use Rattle.answer.specs.Answer.{answer}
use Rattle.octets.specs.Bits.{value_of, bits_of}
use Rattle.remainder.specs.Division.{polynomial}
use Rattle.layout.specs.Places.{a_field, b_field, check_field}
use Rattle.layout.specs.Frame.{training_sync, field_of, coefficients_of}
use Rattle.layout.specs.Refusals.{has_sync, check_refusals}
use Rattle.reader.specs.declared.Found.{Found}
use Rattle.reader.specs.declared.Found.TheVariants.{Training, Final}
use Rattle.reader.specs.Promises.{vendor_octets}
use Rattle.highest.specs.Highest.{highest}
use Rattle.ascii.specs.Text.{text, decimal, signed, hex, hexes}

-- a line that names a number: "A 0", "refused 7"
unfoldable pub number_line : String → ℕ → List ℕ
number_line name n = text name ++ decimal n ++ text "\n"

-- the line of coefficient number k: "c 1 -131072"
unfoldable pub coefficient_line : ℕ → ℤ → List ℕ
coefficient_line k c = text "c " ++ decimal k ++ text " " ++ signed c ++ text "\n"

-- a line for each coefficient, from number k on
unfoldable pub coefficient_lines : ℕ → List ℤ → List ℕ
coefficient_lines k [] = []
coefficient_lines k (c ∷ cs) = coefficient_line k c ++ coefficient_lines (suc k) cs

-- vendor octets in order, two capital hex digits each
unfoldable pub vendor_line : List ℕ → List ℕ
vendor_line vendor = text "vendor " ++ hexes vendor ++ text "\n"

-- the check bits as four such digits, of the number in which c1 is highest
unfoldable pub check_line : ℕ → List ℕ
check_line c = text "check " ++ hex (c / 256) ++ hex (c % 256) ++ text "\n"

-- a training frame before vendor data: its kind, the number of the highest non-zero coefficient, a line for each up to it, A, B
unfoldable pub training_lines : List ℤ → ℕ → ℕ → List ℕ
training_lines cs a b =
    text "kind training\n" ++ number_line "coefficients " (highest cs) ++ coefficient_lines 1 (take (highest cs) cs) ++ number_line "A " a ++ number_line "B " b

-- a frame before vendor data, by what reading gives of it
abbrev pub kind_lines : Found → List ℤ → List ℕ
kind_lines (Training a b) cs = training_lines cs a b
kind_lines Final cs = text "kind final\n"

-- a training frame: those lines, vendor data, check bits
unfoldable pub training_text : List ℤ → ℕ → ℕ → List ℕ → ℕ → List ℕ
training_text cs a b vendor c = training_lines cs a b ++ vendor_line vendor ++ check_line c

-- a final frame: its kind, then its vendor and check lines
unfoldable pub final_text : List ℕ → ℕ → List ℕ
final_text vendor c = text "kind final\n" ++ vendor_line vendor ++ check_line c

-- what is printed with an answer, of a frame's bits: a refusal prints one line
unfoldable pub listed : ℕ → List ℕ → List ℕ
listed (suc n) bits = number_line "refused " (suc n)
listed zero bits =
    cond (has_sync training_sync bits)
    (training_text (coefficients_of bits) (value_of (field_of a_field bits)) (value_of (field_of b_field bits)) (vendor_octets bits)
    (polynomial (field_of check_field bits)))
    (final_text (vendor_octets bits) (polynomial (field_of check_field bits)))

-- what the lister prints for the octets that it reads: fewer or more than 529 octets is "refused 1", as a frame's check answers
unfoldable pub listing : List ℕ → List ℕ
listing octets = listed (answer (check_refusals octets)) (bits_of octets)
