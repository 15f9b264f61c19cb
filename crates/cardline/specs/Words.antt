-- The words for a verdict on a card's line (card: Words), and for a file's length.
use Rattle.std.specs.Prelude.{cond, List, [], ◌∷◌, ℕ, eqb, ltb}
use Rattle.ascii.specs.Text.{text}
use Rattle.forms.specs.Forms.{formed}
use Rattle.layout.specs.Places.{frame_length}
use Rattle.card.specs.Ranks.{wrong_length}
use Rattle.card.specs.Words.{name_of}

-- a file with fewer octets than a frame has
unfoldable pub short_words : ℕ → List ℕ
short_words n =
    cond (eqb n 1) (formed (text "refused 1: the file has 1 octet, a frame has #") (frame_length ∷ []))
    (formed (text "refused 1: the file has # octets, a frame has #") (n ∷ frame_length ∷ []))

-- a file that is not as long as a frame, by its octets
unfoldable pub length_words : ℕ → List ℕ
length_words n = cond (ltb frame_length n) (formed (text "refused 1: the file has more than # octets") (frame_length ∷ [])) (short_words n)

-- the verdict on a card, by its octets: its name, but of a wrong length the length
unfoldable pub verdict_words : ℕ → ℕ → List ℕ
verdict_words n octets = cond (eqb n wrong_length) (length_words octets) (name_of n)
