-- No cell of a card's line holds a tab or a line end: every line has as many cells as the heading, and one line end. Assumes nothing.
use mathlib.Core.Path.{◌≡◌, refl, ◌∙◌}
use mathlib.Core.Bool.{Bool, true, false, cond, ◌&&◌, ◌||◌, true≢false}
use mathlib.Core.List.{List, [], ◌∷◌, ◌++◌}
use Prim.Native.Nat.{ℕ, zero, suc, ◌+◌, ◌/◌, ◌%◌, ◌≤◌, ◌<◌}
use native.Mathlib.Omega.{arith}
use borrow.Author.Tests.{ne_eqb, leb-true, ltb-false, eqb-true}
use lib.Dec.{eqb, ltb, leb, lit≤}
use lib.ListN.{length, get_or, take, drop}
use Rattle.ascii.specs.Text.{text, digit, decimal, hex, hexes}
use Rattle.ascii.specs.Plain.{printables, all_zeros, text_length}
use Rattle.ascii.proofs.Reading.{decimal-is}
use Rattle.forms.specs.Forms.{first_of, formed_by, formed, row_by, row_of}
use Rattle.card.specs.declared.Verdict.{Verdict}
use Rattle.card.specs.Words.{row_of_rank, refused_row, names, todos, reasons, refusal, name_of, todo}
use Rattle.layout.specs.Places.{frame_length}
use Rattle.cardline.specs.Words.{short_words, length_words, verdict_words}
use Rattle.cardline.specs.Line.{shown_octet, shown, vendor_text, vendor_cells, training_cells, final_cells, no_cells, read_cells, cells, like_cell}
use Rattle.cardline.specs.Line.{findings, card_line, heading}

-- how often an octet occurs in a text
unfoldable pub times : ℕ → List ℕ → ℕ
times x [] = 0
times x (o ∷ os) = cond (eqb o x) 1 0 + times x os

zero-if : (b : Bool) → b ≡ false → ◌≡◌ {A = ℕ} (cond b 1 0) 0
zero-if true e = absurd (true≢false e)
zero-if false e = refl

module _ (x : ℕ) where
  times-append : (xs ys : List ℕ) → times x (xs ++ ys) ≡ times x xs + times x ys
  unfolding times
  times-append [] ys = omega arith
  times-append (o ∷ xs) ys = omega (arith, times-append xs ys)

  -- a row has no more of it than its table
  times-row : (table : List ℕ) (n : ℕ) → times x (row_of table n) ≤ times x table
  unfolding times row_of row_by
  times-row [] n = omega arith
  times-row (o ∷ os) n = pick (eqb o 10) n (times-row os)
    where
      pick : (b : Bool) (n : ℕ) → ((m : ℕ) → times x (row_of os m) ≤ times x os) → times x (row_by b o (row_of os) n) ≤ cond (eqb o x) 1 0 + times x os
      pick true zero h = omega arith
      pick true (suc n) h = omega (arith, h n)
      pick false zero h = omega (arith, h 0)
      pick false (suc n) h = omega (arith, h (suc n))

-- a row has no line end
row-end : (table : List ℕ) (n : ℕ) → times 10 (row_of table n) ≡ 0
unfolding times row_of row_by
row-end [] n = refl
row-end (o ∷ os) n = pick (eqb o 10) refl n (row-end os)
  where
    pick : (b : Bool) → eqb o 10 ≡ b → (n : ℕ) → ((m : ℕ) → times 10 (row_of os m) ≡ 0) → times 10 (row_by b o (row_of os) n) ≡ 0
    pick true e zero h = refl
    pick true e (suc n) h = h n
    pick false e zero h = omega (arith, zero-if (eqb o 10) e, h 0)
    pick false e (suc n) h = h (suc n)

-- ---- control octets, below 32, and texts that have none

module _ (x : ℕ) (control : x < 32) where
  -- an octet that is no control octet
  other : (o : ℕ) (os : List ℕ) → 32 ≤ o → times x (o ∷ os) ≡ times x os
  unfolding times
  other o os h = omega (arith, zero-if (eqb o x) (ne_eqb o x (λ e. omega arith)))

  none-at : (os : List ℕ) → ((i : ℕ) → i < length os → 32 ≤ get_or os i 0) → times x os ≡ 0
  unfolding times
  none-at [] h = refl
  none-at (o ∷ os) h = other o os (h 0 (omega arith)) ∙ none-at os (λ i l. h (suc i) (omega arith))

  decimal-none : (n : ℕ) → times x (decimal n) ≡ 0
  decimal-none n = let d = decimal-is n in none-at (decimal n) (λ i l. omega (arith, d.low i l))

  digit-high : (d : ℕ) → 32 ≤ digit d
  digit-high d = pick (ltb d 10)
    where
      pick : (b : Bool) → 32 ≤ cond b (48 + d) (55 + d)
      pick true = omega arith
      pick false = omega arith

  hexes-none : (os : List ℕ) → times x (hexes os) ≡ 0
  unfolding hexes hex times
  hexes-none [] = refl
  hexes-none (o ∷ os) =
      other (digit (o / 16)) (digit (o % 16) ∷ hexes os) (digit-high (o / 16)) ∙ other (digit (o % 16)) (hexes os) (digit-high (o % 16)) ∙ hexes-none os

  shown-high : (o : ℕ) → 32 ≤ shown_octet o
  shown-high o = pick (ltb o 32) refl (eqb o 127)
    where
      pick : (b : Bool) → ltb o 32 ≡ b → (c : Bool) → 32 ≤ cond (b || c) 63 o
      pick true e c = lit≤ tt
      pick false e true = lit≤ tt
      pick false e false = ltb-false o 32 e

  shown-no : (os : List ℕ) → times x (shown os) ≡ 0
  unfolding shown times
  shown-no [] = refl
  shown-no (o ∷ os) = other (shown_octet o) (shown os) (shown-high o) ∙ shown-no os

  -- printable octets at the front
  print-none : (os : List ℕ) → times x (take (printables os) os) ≡ 0
  unfolding printables times
  print-none [] = refl
  print-none (o ∷ os) = pick (leb 32 o) refl (leb o 126) (print-none os)
    where
      pick : (b : Bool) → leb 32 o ≡ b → (c : Bool) → times x (take (printables os) os) ≡ 0
          → times x (take (cond (b && c) (suc (printables os)) 0) (o ∷ os)) ≡ 0
      pick true e true h = other o (take (printables os) os) (leb-true 32 o e) ∙ h
      pick true e false h = refl
      pick false e c h = refl

  text-none : (os : List ℕ) → times x (take (text_length os) os) ≡ 0
  unfolding times
  text-none os = pick (all_zeros (drop (printables os) os))
    where
      pick : (b : Bool) → times x (take (cond b (printables os) 0) os) ≡ 0
      pick true = print-none os
      pick false = refl

  -- a form has as many as it has without its numbers
  times-formed : (form ns : List ℕ) → times x (formed form ns) ≡ times x form
  unfolding formed formed_by first_of times
  times-formed [] ns = refl
  times-formed (o ∷ os) ns = pick (eqb o 35) refl ns (times-formed os)
    where
      mark : eqb o 35 ≡ true → ◌≡◌ {A = ℕ} (cond (eqb o x) 1 0) 0
      mark e = zero-if (eqb o x) (ne_eqb o x (λ q. omega (arith, eqb-true o 35 e)))

      pick : (b : Bool) → eqb o 35 ≡ b → (ns : List ℕ) → ((ms : List ℕ) → times x (formed os ms) ≡ times x os)
          → times x (formed_by b o (formed os) ns) ≡ cond (eqb o x) 1 0 + times x os
      pick true e [] h = omega (arith, mark e, h [])
      pick true e (n ∷ ns) h = omega (arith, mark e, h ns, times-append x (decimal n) (formed os ns), decimal-none n)
      pick false e ns h = omega (arith, h ns)

-- either of two texts
cond-none : (x : ℕ) (b : Bool) (p q : List ℕ) → times x p ≡ 0 → times x q ≡ 0 → times x (cond b p q) ≡ 0
cond-none x true p q h l = h
cond-none x false p q h l = l

-- ---- the words for a verdict have none where their tables have none

module _ (x : ℕ) (control : x < 32) (free : (n : ℕ) → (times x (row_of names n) ≡ 0) × (times x (row_of todos n) ≡ 0) × (times x (row_of reasons n) ≡ 0))
    (colon : times x (text "#: ") ≡ 0) (more : times x (text "refused 1: the file has more than # octets") ≡ 0)
    (one : times x (text "refused 1: the file has 1 octet, a frame has #") ≡ 0)
    (some : times x (text "refused 1: the file has # octets, a frame has #") ≡ 0) (dash : times x (text "-") ≡ 0) where
  refusal-none : (n : ℕ) → times x (refusal n) ≡ 0
  unfolding refusal
  refusal-none n =
      omega
      (arith, times-append x (formed (text "#: ") (n ∷ [])) (row_of reasons n), times-formed x control (text "#: ") (n ∷ []), colon, (free n).2)

  name-none : (n : ℕ) → times x (name_of n) ≡ 0
  unfolding name_of times
  name-none n =
      omega (
        arith,
        times-append x (row_of names (row_of_rank n)) (cond (eqb (row_of_rank n) refused_row) (refusal n) []),
        (free (row_of_rank n)).0,
        cond-none x (eqb (row_of_rank n) refused_row) (refusal n) [] (refusal-none n) refl,
      )

  length_none : (n : ℕ) → times x (length_words n) ≡ 0
  unfolding length_words short_words
  length_none n =
      cond-none x (ltb frame_length n) _ _ (times-formed x control _ (frame_length ∷ []) ∙ more)
      (cond-none x (eqb n 1) _ _ (times-formed x control _ (frame_length ∷ []) ∙ one) (times-formed x control _ (n ∷ frame_length ∷ []) ∙ some))

  findings-tabs : (n octets : ℕ) → times x (findings n octets) ≡ times x (text "\t") + times x (text "\t")
  unfolding findings verdict_words todo
  findings-tabs n octets =
      let w = cond (eqb n 1) (length_words octets) (name_of n) in
      omega (
        arith,
        times-append x (text "\t" ++ w ++ text "\t") (row_of todos (row_of_rank n)),
        times-append x (text "\t" ++ w) (text "\t"),
        times-append x (text "\t") w,
        cond-none x (eqb n 1) (length_words octets) (name_of n) (length_none octets) (name-none n),
        (free (row_of_rank n)).1,
      )

  vendor-tabs : (os : List ℕ) → times x (vendor_cells os) ≡ times x (text "\t")
  unfolding vendor_cells vendor_text
  vendor-tabs os =
      let t = cond (eqb (text_length os) 0) (text "-") (take (text_length os) os) in
      omega (
        arith,
        times-append x (hexes os ++ text "\t") t,
        times-append x (hexes os) (text "\t"),
        hexes-none x control os,
        cond-none x (eqb (text_length os) 0) (text "-") (take (text_length os) os) dash (text-none x control os),
      )

  training-tabs : (used a b : ℕ) (os : List ℕ) → times x (training_cells used a b os) ≡ times x (text "\ttraining\t#\t#\t#\t") + times x (text "\t")
  unfolding training_cells
  training-tabs used a b os =
      let f = text "\ttraining\t#\t#\t#\t" in
      omega
      (arith, times-append x (formed f (used ∷ a ∷ b ∷ [])) (vendor_cells os), times-formed x control f (used ∷ a ∷ b ∷ []), vendor-tabs os)

  final-tabs : (os : List ℕ) → times x (final_cells os) ≡ times x (text "\tfinal\t-\t-\t-\t") + times x (text "\t")
  unfolding final_cells
  final-tabs os = omega (arith, times-append x (text "\tfinal\t-\t-\t-\t") (vendor_cells os), vendor-tabs os)

  -- a line, by its cells
  line-times : (name : List ℕ) (v : Verdict)
      → times x (card_line name v)
      ≡ times x (text "\t") + times x (text "\t") + times x (cells v.answer v) + times x (like_cell v.alike) + times x (like_cell v.blike)
      + times x (text "\n")
  unfolding card_line
  line-times name v =
      let s = shown name in
      let f = findings v.rank v.octets in
      let y = cells v.answer v in
      let p = like_cell v.alike in
      let q = like_cell v.blike in
      omega (
        arith,
        times-append x (s ++ f ++ y ++ p ++ q) (text "\n"),
        times-append x (s ++ f ++ y ++ p) q,
        times-append x (s ++ f ++ y) p,
        times-append x (s ++ f) y,
        times-append x s f,
        shown-no x control name,
        findings-tabs v.rank v.octets,
      )

-- ---- tabs (9)

tab-free : (n : ℕ) → (times 9 (row_of names n) ≡ 0) × (times 9 (row_of todos n) ≡ 0) × (times 9 (row_of reasons n) ≡ 0)
unfolding times
tab-free n = (omega (arith, times-row 9 names n), omega (arith, times-row 9 todos n), omega (arith, times-row 9 reasons n))

heading-tabs : (given : Bool) → times 9 (heading given) ≡ 8 + (cond given 1 0 + cond given 1 0)
unfolding times heading
heading-tabs true = refl
heading-tabs false = refl

-- a card's line has as many cells as the heading, where its parts have theirs
pub tabs-of : (name : List ℕ) (v : Verdict) (given : Bool) → times 9 (cells v.answer v) ≡ 6 → times 9 (like_cell v.alike) ≡ cond given 1 0
    → times 9 (like_cell v.blike) ≡ cond given 1 0 → times 9 (card_line name v) ≡ times 9 (heading given)
unfolding times
tabs-of name v given c a b = omega (arith, line-times 9 (lit≤ tt) tab-free refl refl refl refl refl name v, heading-tabs given)

pub no-cells-tabs : times 9 no_cells ≡ 6
unfolding times no_cells
no-cells-tabs = refl

pub training-cells-tabs : (used a b : ℕ) (os : List ℕ) → times 9 (training_cells used a b os) ≡ 6
unfolding times
training-cells-tabs used a b os = training-tabs 9 (lit≤ tt) tab-free refl refl refl refl refl used a b os

pub final-cells-tabs : (os : List ℕ) → times 9 (final_cells os) ≡ 6
unfolding times
final-cells-tabs os = final-tabs 9 (lit≤ tt) tab-free refl refl refl refl refl os

-- ---- line ends (10)

end-free : (n : ℕ) → (times 10 (row_of names n) ≡ 0) × (times 10 (row_of todos n) ≡ 0) × (times 10 (row_of reasons n) ≡ 0)
end-free n = (row-end names n, row-end todos n, row-end reasons n)

cells-end : (n : ℕ) (v : Verdict) → times 10 (cells n v) ≡ 0
unfolding times no_cells
cells-end zero v = pick v.kind
  where
    pick : (n : ℕ) → times 10 (read_cells n v) ≡ 0
    pick zero = training-tabs 10 (lit≤ tt) end-free refl refl refl refl refl v.used v.a v.b v.vendor
    pick (suc n) = final-tabs 10 (lit≤ tt) end-free refl refl refl refl refl v.vendor
cells-end (suc n) v = refl

like-end : (n : ℕ) → times 10 (like_cell n) ≡ 0
unfolding like_cell
like-end n = row-end (text "\n\tsame\n\tTURNED\n\tother\n\t-\n") n

-- and one line end, its last octet, whatever the name and the verdict are
pub line-end : (name : List ℕ) (v : Verdict) → times 10 (card_line name v) ≡ 1
unfolding times
line-end name v =
    omega
    (arith, line-times 10 (lit≤ tt) end-free refl refl refl refl refl name v, cells-end v.answer v, like-end v.alike, like-end v.blike)
