-- What judging a message says, case by case. Assumes nothing.
use mathlib.Core.Path.{◌≡◌, refl, sym, ap, ap₂, ◌∙◌}
use mathlib.Core.Bool.{Bool, not, ◌&&◌, ◌||◌}
use mathlib.Core.List.{List, [], ◌∷◌, ◌++◌, append-nil}
use Prim.Native.Nat.{ℕ, ◌+◌, ◌-◌, ◌≤◌}
use native.Mathlib.Omega.{arith}
use borrow.Author.Tests.{eq-eqb, le-leb}
use lib.Dec.{eqb}
use lib.ListN.{length, get_or, take, drop, replicate, length-take, length-drop, length-append}
use lib.Seq.{get_or-drop, take_at}
use borrow.Rule.Slice.PartMut.{put_mid}
use Rattle.std.specs.List.{list_any}
use Rattle.octets.specs.Bits.{part}
use Rattle.octets.proofs.Words.{drop-take}
use Rattle.octets.proofs.Whole.{drop_all}
use Rattle.fcs.specs.Sequence.{sequence_of}
use Rattle.eoc.specs.Message.{flag, contents_most, padded}
use Rattle.eoc.specs.Reading.{among, is_between_flags, is_checked, body_in}

-- ---- the flags

-- a flag among octets
any-flag : (s : List ℕ) → list_any (λ y. eqb y flag) s ≡ among flag s
unfolding among
any-flag [] = refl
any-flag (o ∷ os) = ap (λ (b : Bool). eqb o flag || b) (any-flag os)

-- a flag at both ends, and among those between or not
pub at_both : (s : List ℕ) (found : Bool) → 2 ≤ length s → get_or s 0 0 ≡ flag → get_or s (length s - 1) 0 ≡ flag
    → found ≡ list_any (λ y. eqb y flag) (take (length s - 1 - 1) (drop 1 s)) → not found ≡ is_between_flags s
at_both s found h e f g =
    let n : length s - 1 - 1 ≡ length s - 2 = omega arith in
    simp (le-leb 2 (length s) h, eq-eqb (get_or s 0 0) flag e, eq-eqb (get_or s (length s - 1) 0) flag f)
    (ap not (g ∙ any-flag (take (length s - 1 - 1) (drop 1 s)) ∙ ap (λ (k : ℕ). among flag (part 1 k s)) n))

-- ---- the check sequence

-- the last two octets, and those before
module _ (fields : List ℕ) (a b : ℕ) (h : 4 ≤ length fields) (c : a ∷ b ∷ [] ≡ sequence_of (body_in fields)) where
  abbrev n : ℕ
  n = length fields

  pub checked-is : is_checked fields ≡ (eqb (get_or fields (n - 2) 0) a && eqb (get_or fields (n - 1) 0) b)
  checked-is =
      let s = sym c in
      let first : n - 2 + 0 ≡ n - 2 = omega arith in
      let second : n - 2 + 1 ≡ n - 1 = omega arith in
      ap₂ ◌&&◌ (ap₂ eqb (get_or-drop (n - 2) fields 0 0 ∙ ap (λ (k : ℕ). get_or fields k 0) first) (ap (λ (x : List ℕ). get_or x 0 0) s))
      (ap₂ eqb (get_or-drop (n - 2) fields 1 0 ∙ ap (λ (k : ℕ). get_or fields k 0) second) (ap (λ (x : List ℕ). get_or x 1 0) s))

-- ---- the contents

-- the contents put at the front of a room, and zeros behind them
pub contents-put : (room fields front zeros : List ℕ) → length room ≡ contents_most → 4 ≤ length fields → length fields ≤ 77
    → front ≡ take (length fields - 2 - 2) (drop 2 fields)
    → zeros ≡ replicate (length (take (length (front ++ drop (length fields - 4) room) - (length fields - 4)) (drop (length fields - 4) (front ++ drop (length fields - 4) room)))) 0
    → put_mid (length fields - 4) (length (front ++ drop (length fields - 4) room) - (length fields - 4)) (front ++ drop (length fields - 4) room) zeros
    ≡ padded contents_most (drop 2 (body_in fields))
contents-put room fields front zeros h l m e f =
    let k = length fields - 4 in
    let R = front ++ drop k room in
    let lX : length front ≡ k = omega (arith, ap length e, length-take (length fields - 2 - 2) (drop 2 fields), length-drop 2 fields) in
    let lR : length R ≡ 73 = omega (arith, length-append front (drop k room), length-drop k room, lX, h) in
    let lZ : length (take (length R - k) (drop k R)) ≡ contents_most - length front = omega (arith, length-take (length R - k) (drop k R), length-drop k R, lX, lR) in
    let none : drop (length R - k) (drop k R) ≡ [] = drop_all (length R - k) (drop k R) (omega (arith, length-drop k R)) in
    let n : length fields - 2 ≡ 2 + (length fields - 2 - 2) = omega arith in
    ap₂ (λ (x y : List ℕ). x ++ (zeros ++ y)) (take_at front (drop k room) k lX) none
    ∙ ap (λ (x : List ℕ). front ++ x) (append-nil zeros ∙ f ∙ ap (λ (i : ℕ). replicate i 0) lZ)
    ∙ ap (padded contents_most) (e ∙ sym (ap (λ (i : ℕ). drop 2 (take i fields)) n ∙ drop-take 2 (length fields - 2 - 2) fields))
