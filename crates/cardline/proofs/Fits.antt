-- How long the texts are at most; that they fit the sorter's rooms is proved there. Assumes nothing.
use mathlib.Core.Path.{◌≡◌, refl, ap}
use mathlib.Core.Bool.{Bool, true, false, cond}
use mathlib.Core.List.{List, [], ◌∷◌}
use Prim.Native.Nat.{ℕ, suc, ◌+◌, ◌*◌, ◌≤◌, ◌<◌}
use native.Mathlib.Omega.{arith}
use lib.Dec.{eqb, ltb, lit≤}
use lib.ListN.{length, take, length-append, length-take}
use Rattle.layout.specs.Places.{frame_length}
use Rattle.ascii.specs.Text.{text}
use Rattle.ascii.specs.Plain.{text_length}
use Rattle.ascii.proofs.Numbers.{decimal-length, hexes-length}
use Rattle.forms.specs.Forms.{first_of, formed_by, formed}
use Rattle.card.specs.declared.Verdict.{Verdict}
use Rattle.card.specs.Ranks.{good, final_frame}
use Rattle.card.specs.Words.{name_of}
use Rattle.card.proofs.Fits.{cond-length, row-length, name-length, todo-length}
use Rattle.cardline.specs.Words.{short_words, length_words, verdict_words}
use Rattle.cardline.specs.Line.{shown, vendor_text, vendor_cells, training_cells, final_cells, no_cells, cells, like_cell, findings}
use Rattle.cardline.specs.Line.{card_line, heading, csv_octet, csv_octets, csv_line, reference_name, reference_line}

-- ---- a verdict's words

more-length : (n : ℕ) → n < 10000000 → length (formed (text "refused 1: the file has more than # octets") (n ∷ [])) ≤ 100
unfolding formed formed_by first_of
more-length n h = simp length-append (omega (arith, decimal-length 6 n h))

one-length : (n : ℕ) → n < 10000000 → length (formed (text "refused 1: the file has 1 octet, a frame has #") (n ∷ [])) ≤ 100
unfolding formed formed_by first_of
one-length n h = simp length-append (omega (arith, decimal-length 6 n h))

other_length : (n m : ℕ) → n < 10000000 → m < 10000000 → length (formed (text "refused 1: the file has # octets, a frame has #") (n ∷ m ∷ [])) ≤ 100
unfolding formed formed_by first_of
other_length n m h l = simp length-append (omega (arith, decimal-length 6 n h, decimal-length 6 m l))

short-length : (n : ℕ) → n < 10000000 → length (short_words n) ≤ 100
unfolding short_words
short-length n h = cond-length (eqb n 1) _ _ 100 (one-length frame_length (omega arith)) (other_length n frame_length h (omega arith))

length-length : (n : ℕ) → n < 10000000 → length (length_words n) ≤ 100
unfolding length_words
length-length n h = cond-length (ltb frame_length n) _ _ 100 (more-length frame_length (omega arith)) (short-length n h)

words-length : (n octets : ℕ) → n < 10000000 → octets < 10000000 → length (verdict_words n octets) ≤ 490
unfolding verdict_words
words-length n octets h l = cond-length (eqb n 1) (length_words octets) (name_of n) 490 (omega (arith, length-length octets l)) (name-length n h)

-- ---- a card's line

shown-length : (os : List ℕ) → length (shown os) ≡ length os
unfolding shown
shown-length [] = refl
shown-length (o ∷ os) = ap suc (shown-length os)

text-length : (os : List ℕ) → length os ≡ 16 → length (vendor_text os) ≤ 16
unfolding vendor_text
text-length os l =
    cond-length (eqb (text_length os) 0) (text "-") (take (text_length os) os) 16 (lit≤ tt) (simp length-take (omega arith))

vendor-length : (os : List ℕ) → length os ≡ 16 → length (vendor_cells os) ≤ 49
unfolding vendor_cells
vendor-length os l = simp length-append (omega (arith, hexes-length os, text-length os l))

pub training-length : (used a b : ℕ) (vendor : List ℕ) → used < 10000000 → a < 10000000 → b < 10000000 → length vendor ≡ 16
    → length (training_cells used a b vendor) ≤ 83
unfolding training_cells formed formed_by first_of
training-length used a b vendor hu ha hb l =
    simp length-append (omega (arith, decimal-length 6 used hu, decimal-length 6 a ha, decimal-length 6 b hb, vendor-length vendor l))

pub final-length : (vendor : List ℕ) → length vendor ≡ 16 → length (final_cells vendor) ≤ 83
unfolding final_cells
final-length vendor l = simp length-append (omega (arith, vendor-length vendor l))

pub none-length : length no_cells ≤ 83
unfolding no_cells
none-length = lit≤ tt

like-length : (n : ℕ) → length (like_cell n) ≤ 25
unfolding like_cell
like-length n = row-length (text "\n\tsame\n\tTURNED\n\tother\n\t-\n") n

findings-length : (n octets : ℕ) → n < 10000000 → octets < 10000000 → length (findings n octets) ≤ 722
unfolding findings
findings-length n octets h l = simp length-append (omega (arith, words-length n octets h l, todo-length n))

pub line-length : (name : List ℕ) (v : Verdict) → v.rank ≤ good → v.octets ≤ 530 → length (cells v.answer v) ≤ 83
    → length (card_line name v) ≤ length name + 900
unfolding card_line
line-length name v r o h =
    simp length-append
    (omega
    (arith, shown-length name, findings-length v.rank v.octets (omega arith) (omega arith), like-length v.alike, like-length v.blike))

-- ---- a reference that does not serve

pub reference-length : (name : List ℕ) (v : Verdict) → v.rank ≤ good → v.octets ≤ 530 → length (reference_line name v) ≤ length name + 600
unfolding reference_line reference_name
reference-length name v r o =
    simp length-append (omega (arith, shown-length name, words-length (cond (eqb v.rank good) final_frame v.rank) v.octets small (omega arith)))
  where
    either : (b : Bool) → cond b final_frame v.rank < 10000000
    either true = lit≤ tt
    either false = omega arith

    small : cond (eqb v.rank good) final_frame v.rank < 10000000
    small = either (eqb v.rank good)

pub heading-fits : (given : Bool) → length (heading given) ≤ 128
unfolding heading
heading-fits true = lit≤ tt
heading-fits false = lit≤ tt

-- ---- in comma-separated form

octet-length : (o : ℕ) → length (csv_octet o) ≤ 3
unfolding csv_octet
octet-length o =
    cond-length (eqb o 9) _ _ 3 (lit≤ tt) (cond-length (eqb o 10) _ _ 3 (lit≤ tt) (cond-length (eqb o 34) _ (o ∷ []) 3 (lit≤ tt) (lit≤ tt)))

octets-fit : (os : List ℕ) → length (csv_octets os) ≤ 3 * length os
unfolding csv_octets
octets-fit [] = lit≤ tt
octets-fit (o ∷ os) = omega (arith, length-append (csv_octet o) (csv_octets os), octet-length o, octets-fit os)

-- a line in that form is at most three times as long, and one octet
pub csv-fits : (line : List ℕ) → length (csv_line line) ≤ 3 * length line + 1
unfolding csv_line
csv-fits line = omega (arith, octets-fit line)
