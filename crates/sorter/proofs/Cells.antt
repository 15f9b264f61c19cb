-- Every card's line has as many cells as the heading, whatever its file holds. Assumes nothing.
use mathlib.Core.Path.{◌≡◌, refl}
use mathlib.Core.Bool.{Bool, true, false, cond}
use mathlib.Core.List.{List}
use Prim.Native.Nat.{ℕ, zero, suc}
use lib.Dec.{eqb}
use Rattle.answer.specs.Answer.{answer}
use Rattle.octets.specs.Bits.{bits_of}
use Rattle.layout.specs.Frame.{training_sync}
use Rattle.layout.specs.Refusals.{has_sync, check_refusals}
use Rattle.forms.specs.Forms.{row_by, row_of}
use Rattle.card.specs.Ranks.{unreadable}
use Rattle.cardline.specs.Line.{like_cell, card_line, heading}
use Rattle.cardline.proofs.Cells.{times, tabs-of, no-cells-tabs, training-cells-tabs, final-cells-tabs}
use Rattle.verdict.specs.declared.Customer.{Customer}
use Rattle.verdict.specs.Verdict.{octets_of, like_of, last_first, absent, refused_verdict, training_verdict, final_verdict, judged, verdict_of}

-- a word's cell where a customer is given
like-tab : (given : Bool) (x y : ℕ) → times 9 (like_cell (like_of given x y)) ≡ cond given 1 0
unfolding times like_cell row_of row_by
like-tab true x y = pick (eqb x y) (eqb x (last_first y))
  where
    pick : (b c : Bool) → times 9 (like_cell (cond b 1 (cond c 2 3))) ≡ 1
    pick true c = refl
    pick false true = refl
    pick false false = refl
like-tab false x y = refl

absent-tab : (given : Bool) → times 9 (like_cell (absent given)) ≡ cond given 1 0
unfolding times like_cell row_of row_by
absent-tab true = refl
absent-tab false = refl

-- every card's line has as many cells as the heading
pub line-tabs : (name frame : List ℕ) (k : Customer) → times 9 (card_line name (verdict_of frame k)) ≡ times 9 (heading k.given)
unfolding verdict_of judged times
line-tabs name frame k = go (answer (check_refusals frame))
  where
    B : List ℕ
    B = bits_of frame

    o : ℕ
    o = octets_of frame

    reads : (t : Bool) → times 9 (card_line name (cond t (training_verdict o B k) (final_verdict o B k))) ≡ times 9 (heading k.given)
    reads true =
        let v = training_verdict o B k in
        tabs-of name v k.given (training-cells-tabs v.used v.a v.b v.vendor)
        (like-tab k.given v.a k.a) (like-tab k.given v.b k.b)
    reads false =
        let v = final_verdict o B k in
        tabs-of name v k.given (final-cells-tabs v.vendor) (absent-tab k.given) (absent-tab k.given)

    go : (n : ℕ) → times 9 (card_line name (judged n o B k)) ≡ times 9 (heading k.given)
    go zero = reads (has_sync training_sync B)
    go (suc n) = tabs-of name (refused_verdict (suc n) o k) k.given no-cells-tabs (absent-tab k.given) (absent-tab k.given)

pub unread-tabs : (name : List ℕ) (k : Customer) → times 9 (card_line name (refused_verdict unreadable 0 k)) ≡ times 9 (heading k.given)
unread-tabs name k =
    tabs-of name (refused_verdict unreadable 0 k) k.given no-cells-tabs (absent-tab k.given) (absent-tab k.given)
