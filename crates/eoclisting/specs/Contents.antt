-- Contents of a message in words: a status with its margins (002, clause 10.5.5.7.13), an inventory (10.5.5.7.4), and all others in hex.
use Rattle.std.specs.Prelude.{cond, ◌&&◌, List, [], ◌∷◌, ◌++◌, ℕ, suc, ◌-◌, eqb, ltb, length, get_or, take}
use Prim.Native.String.{String}
use Rattle.octets.specs.Bits.{part}
use Rattle.ascii.specs.Text.{text, hexes}
use Rattle.ascii.specs.Plain.{text_length}
use Rattle.forms.specs.Forms.{formed}

-- contents in hex, where there are some
unfoldable pub hex_part : List ℕ → List ℕ
hex_part c = cond (eqb (length c) 0) [] (text ": " ++ hexes c)

-- contents with fewer octets than the table has
unfoldable pub short_part : List ℕ → List ℕ
short_part c = text ": contents are short" ++ hex_part c

-- ---- status

-- a margin, "Signed char (127 = Not Available)": 128 and more stand for -128 and more
unfoldable pub margin_text : ℕ → List ℕ
margin_text o =
    cond (eqb o 127) (text "not available") (cond (ltb o 128) (formed (text "# dB") (o ∷ [])) (formed (text "-# dB") ((256 - o) ∷ [])))

-- "Network Side SNR Margin", "Customer Side SNR Margin", "Loop ID"
unfoldable pub margins_text : ℕ → ℕ → ℕ → List ℕ
margins_text network customer loop =
    text ": network side " ++ margin_text network ++ text ", customer side " ++ margin_text customer ++ formed (text ", loop #") (loop ∷ [])

-- its octets
abbrev pub status_length : ℕ
status_length = 3

unfoldable pub status_part : List ℕ → List ℕ
status_part c = cond (ltb (length c) status_length) (short_part c) (margins_text (get_or c 0 0) (get_or c 1 0) (get_or c 2 0))

-- ---- inventory

-- how long a string is: "padded with spaces or terminated with a NULL", so up to the last octet before a zero that is no blank (32)
unfoldable pub string_length : List ℕ → ℕ
string_length [] = 0
string_length (o ∷ os) = cond (eqb o 0) 0 (cond (eqb o 32 && eqb (string_length os) 0) 0 (suc (string_length os)))

-- a string of n octets in quotes (34); where an octet of it cannot be printed, its field in hex
unfoldable pub string_by : ℕ → List ℕ → List ℕ
string_by n field = cond (eqb (text_length (take n field)) n) (34 ∷ (take n field ++ (34 ∷ []))) (hexes field)

unfoldable pub string_text : List ℕ → List ℕ
string_text field = string_by (string_length field) field

-- a string of an inventory, behind what it is: n octets from place `at` on
unfoldable pub field_text : String → ℕ → ℕ → List ℕ → List ℕ
field_text label at n c = text label ++ string_text (part at n c)

-- its octets
abbrev pub inventory_length : ℕ
inventory_length = 67

-- table 10.10 from the SDSL version to the software's version
unfoldable pub software_text : List ℕ → List ℕ
software_text c =
    formed (text ": SDSL version #") (get_or c 0 0 ∷ []) ++ field_text ", list " 1 3 c ++ field_text ", issue " 4 2 c ++ field_text ", software " 6 6 c

-- the vendor ID, before which an octet is reserved
abbrev pub vendor_id : List ℕ → List ℕ
vendor_id c = text ", vendor ID " ++ hexes (part 23 8 c)

-- table 10.10 from the vendor ID on
unfoldable pub vendor_text : List ℕ → List ℕ
vendor_text c = vendor_id c ++ field_text ", model " 31 12 c ++ field_text ", serial " 43 12 c ++ field_text ", other " 55 12 c

unfoldable pub inventory_text : List ℕ → List ℕ
inventory_text c = software_text c ++ field_text ", unit " 12 10 c ++ vendor_text c

unfoldable pub inventory_part : List ℕ → List ℕ
inventory_part c = cond (ltb (length c) inventory_length) (short_part c) (inventory_text c)

-- ---- of any message

-- by its number: 139 is a status, 130 an inventory
unfoldable pub contents_text : ℕ → List ℕ → List ℕ
contents_text number c = cond (eqb number 139) (status_part c) (cond (eqb number 130) (inventory_part c) (hex_part c))
