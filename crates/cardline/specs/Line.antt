-- One line for a card, with a tab between its cells: file, verdict, what to do, kind, coefficients, A, B, vendor data in hex and as text; with
-- a customer also how A and B compare. A cell that holds nothing is "-".
use Rattle.std.specs.Prelude.{Bool, cond, ◌||◌, List, [], ◌∷◌, ◌++◌, ℕ, zero, suc, eqb, ltb, take}
use Rattle.ascii.specs.Text.{text, hexes}
use Rattle.ascii.specs.Plain.{text_length}
use Rattle.forms.specs.Forms.{formed, row_of}
use Rattle.card.specs.declared.Verdict.{Verdict}
use Rattle.card.specs.Ranks.{final_frame, good}
use Rattle.card.specs.Words.{todo}
use Rattle.cardline.specs.Words.{verdict_words}

-- an octet of a file's name as it is printed: a control octet, below 32 or 127, is a question mark
abbrev pub shown_octet : ℕ → ℕ
shown_octet o = cond (ltb o 32 || eqb o 127) 63 o

-- a file's name as it is printed
unfoldable pub shown : List ℕ → List ℕ
shown [] = []
shown (o ∷ os) = shown_octet o ∷ shown os

-- vendor data as text, where it is some: printable octets, and nothing but zeros behind them
unfoldable pub vendor_text : List ℕ → List ℕ
vendor_text os = cond (eqb (text_length os) 0) (text "-") (take (text_length os) os)

-- vendor data in hex and as text
unfoldable pub vendor_cells : List ℕ → List ℕ
vendor_cells os = hexes os ++ text "\t" ++ vendor_text os

-- the cells of a training frame that reads
unfoldable pub training_cells : ℕ → ℕ → ℕ → List ℕ → List ℕ
training_cells used a b vendor = formed (text "\ttraining\t#\t#\t#\t") (used ∷ a ∷ b ∷ []) ++ vendor_cells vendor

-- of a final frame that reads: only vendor data
unfoldable pub final_cells : List ℕ → List ℕ
final_cells vendor = text "\tfinal\t-\t-\t-\t" ++ vendor_cells vendor

-- of a card that does not read
unfoldable pub no_cells : List ℕ
no_cells = text "\t-\t-\t-\t-\t-\t-"

-- of a card that reads, by its kind
abbrev pub read_cells : ℕ → Verdict → List ℕ
read_cells zero v = training_cells v.used v.a v.b v.vendor
read_cells (suc n) v = final_cells v.vendor

-- of a card, by its answer
abbrev pub cells : ℕ → Verdict → List ℕ
cells zero v = read_cells v.kind v
cells (suc n) v = no_cells

-- how a word compares with the customer's, a cell of its own; none where no customer is given
unfoldable pub like_cell : ℕ → List ℕ
like_cell n = row_of (text "\n\tsame\n\tTURNED\n\tother\n\t-\n") n

-- the verdict and what to do
unfoldable pub findings : ℕ → ℕ → List ℕ
findings rank octets = text "\t" ++ verdict_words rank octets ++ text "\t" ++ todo rank

-- the line of the card whose frame stands in the file of this name
unfoldable pub card_line : List ℕ → Verdict → List ℕ
card_line name v =
    shown name ++ findings v.rank v.octets ++ cells v.answer v ++ like_cell v.alike ++ like_cell v.blike ++ text "\n"

-- the line above the cards' lines: what each cell is
unfoldable pub heading : Bool → List ℕ
heading given =
    text "file\tverdict\twhat to do\tkind\tcoefficients\tA\tB\tvendor\tvendor text" ++ cond given (text "\tA like\tB like\n") (text "\n")

-- an octet of such a line in comma-separated form (RFC 4180): every cell stands in quotes (34), a quote in it twice; a tab parts cells, a
-- line end ends the line with CR LF
unfoldable pub csv_octet : ℕ → List ℕ
csv_octet o = cond (eqb o 9) (text "\",\"") (cond (eqb o 10) (text "\"\r\n") (cond (eqb o 34) (text "\"\"") (o ∷ [])))

-- all its octets
unfoldable pub csv_octets : List ℕ → List ℕ
csv_octets [] = []
csv_octets (o ∷ os) = csv_octet o ++ csv_octets os

-- a line in comma-separated form
unfoldable pub csv_line : List ℕ → List ℕ
csv_line line = text "\"" ++ csv_octets line

-- a reference frame that does not serve: which it is
unfoldable pub reference_name : List ℕ → List ℕ
reference_name name = text "sorter: the reference " ++ shown name ++ text ": "

-- and what it is found to be. One that reads is a final frame
unfoldable pub reference_line : List ℕ → Verdict → List ℕ
reference_line name v =
    reference_name name ++ verdict_words (cond (eqb v.rank good) final_frame v.rank) v.octets
    ++ text "; a training frame that reads is wanted\n"
