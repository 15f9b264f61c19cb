-- The totals fit the program's room, so that nothing is cut there. Assumes nothing.
use mathlib.Core.Bool.{Bool, true, false}
use mathlib.Core.List.{List, [], ◌∷◌}
use Prim.Native.Nat.{ℕ, zero, suc, ◌-◌, ◌*◌, ◌≤◌, ◌<◌}
use native.Mathlib.Omega.{arith}
use lib.Dec.{eqb, lit≤}
use lib.ListN.{length, length-append}
use Rattle.ascii.specs.Text.{text}
use Rattle.ascii.proofs.Numbers.{decimal-length}
use Rattle.forms.specs.Forms.{first_of, formed_by, formed}
use Rattle.card.specs.Ranks.{verdicts}
use Rattle.card.specs.Words.{row_of_rank, refused_row}
use Rattle.card.proofs.Fits.{cond-length, name-length, todo-length}
use Rattle.totals.specs.Totals.{how_many, fine, written, cards_text, fine_text, first_line, joint, verdict_line, verdict_lines, all_fine, not_text}
use Rattle.totals.specs.Totals.{last_line, totals_text}

many-length : (w : ℕ) → w < 10000000000 → length (formed (text "# cards: ") (w ∷ [])) ≤ 18
unfolding formed formed_by first_of
many-length w h = simp length-append (omega (arith, decimal-length 9 w h))

cards-length : (n : ℕ) → length (cards_text n) ≤ 18
unfolding cards_text
cards-length n = cond-length (eqb n 1) _ _ 18 (lit≤ tt) (many-length (written n) (omega arith))

match-length : (w v : ℕ) → w < 10000000000 → v < 10000000000 → length (formed (text "# match, # do not\n") (w ∷ v ∷ [])) ≤ 36
unfolding formed formed_by first_of
match-length w v h l = simp length-append (omega (arith, decimal-length 9 w h, decimal-length 9 v l))

good_length : (w v : ℕ) → w < 10000000000 → v < 10000000000 → length (formed (text "# good, # bad\n") (w ∷ v ∷ [])) ≤ 36
unfolding formed formed_by first_of
good_length w v h l = simp length-append (omega (arith, decimal-length 9 w h, decimal-length 9 v l))

fine-length : (given : Bool) (n rest : ℕ) → length (fine_text given n rest) ≤ 36
unfolding fine_text
fine-length true n rest = match-length (written n) (written rest) (omega arith) (omega arith)
fine-length false n rest = good_length (written n) (written rest) (omega arith) (omega arith)

first-length : (given : Bool) (ranks : List ℕ) → length (first_line given ranks) ≤ 54
unfolding first_line
first-length given ranks =
    simp length-append
    (omega (
      arith,
      cards-length (length ranks),
      fine-length given (how_many (fine given) ranks) (length ranks - how_many (fine given) ranks),
    ))

joint-length : (n : ℕ) → length (joint n) ≤ 2
unfolding joint
joint-length n = cond-length (eqb (row_of_rank n) refused_row) _ _ 2 (lit≤ tt) (lit≤ tt)

count-length : (w : ℕ) → w < 10000000000 → length (formed (text "# ") (w ∷ [])) ≤ 11
unfolding formed formed_by first_of
count-length w h = simp length-append (omega (arith, decimal-length 9 w h))

line-length : (n count : ℕ) → n < 10000000 → length (verdict_line n count) ≤ 734
unfolding verdict_line
line-length n count h =
    cond-length (eqb count 0) [] _ 734 (lit≤ tt)
    (simp length-append (omega (arith, count-length (written count) (omega arith), name-length n h, joint-length n, todo-length n)))

lines-length : (n : ℕ) (ranks : List ℕ) → n < 10000000 → length (verdict_lines n ranks) ≤ n * 734
unfolding verdict_lines
lines-length zero ranks h = lit≤ tt
lines-length (suc n) ranks h =
    omega (
      arith,
      length-append (verdict_lines n ranks) (verdict_line n (how_many n ranks)),
      lines-length n ranks (omega arith),
      line-length n (how_many n ranks) (omega arith),
    )

last-length : (given all : Bool) → length (last_line given all) ≤ 14
unfolding last_line not_text
last-length true true = lit≤ tt
last-length true false = lit≤ tt
last-length false true = lit≤ tt
last-length false false = lit≤ tt

pub totals-fit : (given : Bool) (ranks : List ℕ) → length (totals_text given ranks) ≤ 16384
unfolding totals_text
totals-fit given ranks =
    simp length-append
    (omega (arith, first-length given ranks, lines-length verdicts ranks (lit≤ tt), last-length given (all_fine given ranks)))
