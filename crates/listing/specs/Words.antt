-- What the lister says on standard error, in words for the counter: why a frame is refused and what to do about it, and of a good frame vendor
-- data as text. Standard output is the listing alone.
use Rattle.std.specs.Prelude.{cond, List, [], ◌++◌, ℕ, zero, suc, eqb, ltb, length, take}
use Rattle.answer.specs.Answer.{answer}
use Rattle.octets.specs.Bits.{bits_of}
use Rattle.layout.specs.Places.{frame_length}
use Rattle.layout.specs.Refusals.{check_refusals}
use Rattle.reader.specs.Promises.{vendor_octets}
use Rattle.ascii.specs.Text.{text, decimal}
use Rattle.ascii.specs.Plain.{text_length}
use Rattle.ascii.specs.Promises.{Told}

-- a file of so many octets
unfoldable pub length_words : ℕ → List ℕ
length_words n =
    cond (ltb frame_length n) (text "the file has more than 529 octets, a frame has 529: a file holds one frame; capture it again")
    (cond (eqb n 1) (text "the file has 1 octet, a frame has 529: it is cut short; capture it again")
    (text "the file has " ++ decimal n ++ text " octets, a frame has 529: it is cut short; capture it again"))

-- the other refusals of a frame, by their numbers
unfoldable pub reason_words : ℕ → List ℕ
reason_words n =
    cond (eqb n 5)
    (text "the sync word is neither of the two: this is no descrambled frame, or its octets hold the first bit highest; capture it again")
    (cond (eqb n 6) (text "a pad bit is not zero: the last octet holds more than the end of a frame; capture it again")
    (cond (eqb n 7) (text "the check bits differ: the frame is damaged; capture it again") []))

-- the line for a refusal with n of so many octets
unfoldable pub refusal_words : ℕ → ℕ → List ℕ
refusal_words n octets = text "lister: " ++ cond (eqb n 1) (length_words octets) (reason_words n) ++ text "\n"

-- the line for vendor data, where it is text
unfoldable pub vendor_words : List ℕ → List ℕ
vendor_words vendor = cond (eqb (text_length vendor) 0) [] (text "lister: vendor data as text: " ++ take (text_length vendor) vendor ++ text "\n")

-- with an answer
unfoldable pub worded : ℕ → List ℕ → List ℕ
worded zero octets = vendor_words (vendor_octets (bits_of octets))
worded (suc n) octets = refusal_words (suc n) (length octets)

-- WHAT IS SAID of the octets that are read
unfoldable pub words_of : List ℕ → List ℕ
words_of octets = worded (answer (check_refusals octets)) octets

-- words
abbrev pub Worded : List ℕ → List ℕ → ℕ → List ℕ → Type 0
Worded octets room r exit = Told (words_of octets) room r exit
