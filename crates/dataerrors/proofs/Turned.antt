-- A bit turned over, in any table: it turns one bit of its own stream, at its rank, and none of any other. Assumes nothing.
use mathlib.Core.Path.{◌≡◌, refl, sym, ap, ap₂, ◌∙◌, subst}
use mathlib.Core.Bool.{Bool, true, false, cond}
use mathlib.Core.Logic.{◌⊎◌, inl, inr}
use mathlib.Core.List.{List, [], ◌∷◌, ◌++◌}
use Prim.Native.Nat.{ℕ, zero, suc, ◌+◌, ◌-◌, ◌≤◌, ◌<◌}
use native.Mathlib.Decide.{dec_lt}
use native.Mathlib.Nat.{zero-add}
use native.Mathlib.Omega.{arith}
use borrow.Author.Tests.{lt-ltb, le-ltb}
use lib.Dec.{ltb}
use lib.ListN.{length, get_or, take, drop, set, length-set, length-drop, get_or-append}
use lib.Seq.{length-take-le, get_or-take, get_or-drop, get_or-set_same, set-append_left, take-set-le, take-set-lt, drop-set-lt, drop-set-add}
use Rattle.octets.specs.Bits.{value_of, part}
use Rattle.octets.proofs.Digits.{Bits, value-one}
use Rattle.places.specs.Places.{total, Holds}
use Rattle.places.specs.Streams.{Row, row, widths_in, among}
use Rattle.places.proofs.Streams.{plus, counted, before, sifted, counted_is, sifted-is, among-length}
use Rattle.remainder.proofs.Errors.{flipped-bits}
use Rattle.remainder.specs.Errors.{flipped}
use Rattle.dataerrors.specs.Errors.{stream_at, rank_at}

-- ---- one list

pub flipped-length : (B : List ℕ) (i : ℕ) → length (flipped B i) ≡ length B
flipped-length B i = length-set B i (1 - get_or B i 0)

-- it is another list
pub flipped-other : (B : List ℕ) (i : ℕ) → Bits B → i < length B → get_or (flipped B i) i 0 ≡ get_or B i 0 → ⊥
flipped-other B i h l e = omega (arith, get_or-set_same B i (1 - get_or B i 0) 0 l, h i)

-- of another value
pub flipped-value : (B C : List ℕ) (i : ℕ) → Bits B → i < length B → C ≡ flipped B i → value_of C ≡ value_of B → ⊥
flipped-value B C i h l e v =
    let same : flipped B i ≡ B = value-one (flipped B i) B (flipped-bits B i h) h (flipped-length B i) (sym (ap value_of e) ∙ v) in
    flipped-other B i h l (ap (λ (x : List ℕ). get_or x i 0) same)

-- in the first w bits, or behind them
module _ (w : ℕ) (B : List ℕ) (i : ℕ) where
  front-in : i < w → take w (flipped B i) ≡ flipped (take w B) i
  front-in h = take-set-lt w B i (1 - get_or B i 0) h ∙ ap (λ (x : ℕ). set (take w B) i (1 - x)) (sym (get_or-take w B i 0 h))

  rest-same : i < w → drop w (flipped B i) ≡ drop w B
  rest-same h = drop-set-lt w B i (1 - get_or B i 0) h

  front_same : w ≤ i → take w (flipped B i) ≡ take w B
  front_same h = take-set-le w B i (1 - get_or B i 0) h

  rest_in : w ≤ i → drop w (flipped B i) ≡ flipped (drop w B) (i - w)
  rest_in h =
      let e : i ≡ w + (i - w) = omega arith in
      ap (λ (j : ℕ). drop w (flipped B j)) e ∙ drop-set-add w B (i - w) (1 - get_or B (w + (i - w)) 0)
      ∙ ap (λ (x : ℕ). set (drop w B) (i - w) (1 - x)) (sym (get_or-drop w B (i - w) 0))

-- a part that the bit is none of stays
pub part-other : (B : List ℕ) (at n i : ℕ) → (i < at) ⊎ (at + n ≤ i) → part at n (flipped B i) ≡ part at n B
part-other B at n i (inl h) = ap (take n) (rest-same at B i h)
part-other B at n i (inr h) = ap (take n) (rest_in at B i (omega arith)) ∙ front_same n (drop at B) (i - at) (omega arith)

flipped-front : (p l : List ℕ) (i : ℕ) → i < length p → flipped (p ++ l) i ≡ flipped p i ++ l
flipped-front p l i h =
    set-append_left p l i (1 - get_or (p ++ l) i 0) h ∙ ap (λ (x : ℕ). set p i (1 - x) ++ l) (get_or-append p l 0 i h)

flipped-behind : (p l : List ℕ) (i n : ℕ) → length p + i ≡ n → flipped (p ++ l) n ≡ p ++ flipped l i
flipped-behind [] l i n e = ap (flipped l) (sym e ∙ zero-add i)
flipped-behind (x ∷ p) l i zero e = absurd (omega arith)
flipped-behind (x ∷ p) l i (suc n) e = ap (λ (y : List ℕ). x ∷ y) (flipped-behind p l i n (omega arith))

-- ---- any table

-- the first row holds the place, or a later one does
first-row : (r : Row) (rs : List Row) (i : ℕ) → i < r.width → stream_at (r ∷ rs) i ≡ r.stream
unfolding stream_at
first-row r rs i h = ap (λ (t : Bool). cond t r.stream (stream_at rs (i - r.width))) (lt-ltb i r.width h)

later-row : (r : Row) (rs : List Row) (i : ℕ) → r.width ≤ i → stream_at (r ∷ rs) i ≡ stream_at rs (i - r.width)
unfolding stream_at
later-row r rs i h = ap (λ (t : Bool). cond t r.stream (stream_at rs (i - r.width))) (le-ltb i r.width h)

module _ (wanted : ℕ → Bool) where
  -- a bit of a stream that is not wanted
  same_rows : (rs : List Row) (B : List ℕ) (i : ℕ) → i < total (widths_in rs) → wanted (stream_at rs i) ≡ false
      → sifted wanted rs (flipped B i) ≡ sifted wanted rs B
  same_rows [] B i h e = refl
  same_rows (r ∷ rs) B i h e = pick (dec_lt i r.width) (λ f g. same_rows rs (drop r.width B) (i - r.width) f g)
    where
      w : ℕ
      w = r.width

      pick : Dec (i < w)
          → (i - w < total (widths_in rs) → wanted (stream_at rs (i - w)) ≡ false
          → sifted wanted rs (flipped (drop w B) (i - w)) ≡ sifted wanted rs (drop w B))
          → sifted wanted (r ∷ rs) (flipped B i) ≡ sifted wanted (r ∷ rs) B
      pick (yes l) f =
          let u : wanted r.stream ≡ false = sym (ap wanted (first-row r rs i l)) ∙ e in
          ap (λ (t : Bool). before t (take w (flipped B i)) (sifted wanted rs (drop w (flipped B i)))) u
          ∙ ap (sifted wanted rs) (rest-same w B i l)
          ∙ sym (ap (λ (t : Bool). before t (take w B) (sifted wanted rs (drop w B))) u)
      pick (no l) f =
          let v : w ≤ i = omega arith in
          ap₂ (before (wanted r.stream)) (front_same w B i v)
          (ap (sifted wanted rs) (rest_in w B i v) ∙ f (omega arith) (sym (ap wanted (later-row r rs i v)) ∙ e))

  -- a bit of a wanted stream
  turned_rows : (rs : List Row) (B : List ℕ) (i : ℕ) → total (widths_in rs) ≤ length B → i < total (widths_in rs) → wanted (stream_at rs i) ≡ true
      → (sifted wanted rs (flipped B i) ≡ flipped (sifted wanted rs B) (rank_at wanted rs i)) × (rank_at wanted rs i < counted wanted rs)
  unfolding rank_at
  turned_rows [] B i n h e = absurd (omega arith)
  turned_rows (r ∷ rs) B i n h e =
      pick (dec_lt i r.width) (λ f g. turned_rows rs (drop r.width B) (i - r.width) (omega (arith, length-drop r.width B)) f g)
    where
      w : ℕ
      w = r.width

      F : List ℕ
      F = take w B

      L : List ℕ
      L = sifted wanted rs (drop w B)

      long : length F ≡ w
      long = length-take-le w B (omega arith)

      R : Bool → Bool → ℕ
      R t u = cond t i (cond u w 0 + rank_at wanted rs (i - w))

      pick : Dec (i < w)
          → (i - w < total (widths_in rs) → wanted (stream_at rs (i - w)) ≡ true
          → (sifted wanted rs (flipped (drop w B) (i - w)) ≡ flipped L (rank_at wanted rs (i - w))) × (rank_at wanted rs (i - w) < counted wanted rs))
          → (sifted wanted (r ∷ rs) (flipped B i) ≡ flipped (sifted wanted (r ∷ rs) B) (R (ltb i w) (wanted r.stream)))
          × (R (ltb i w) (wanted r.stream) < counted wanted (r ∷ rs))
      pick (yes l) f = (
        ap (λ (t : Bool). before t (take w (flipped B i)) (sifted wanted rs (drop w (flipped B i)))) u
            ∙ ap₂ ◌++◌ (front-in w B i l) (ap (sifted wanted rs) (rest-same w B i l))
            ∙ sym (flipped-front F L i (omega (arith, long)))
            ∙ ap₂ flipped (sym (ap (λ (t : Bool). before t F L) u)) (sym now),
        subst (λ (m : ℕ). R (ltb i w) (wanted r.stream) < m) (sym (ap (λ (t : Bool). plus t w (counted wanted rs)) u)) (omega (arith, now)),
      )
        where
          u : wanted r.stream ≡ true
          u = sym (ap wanted (first-row r rs i l)) ∙ e

          now : R (ltb i w) (wanted r.stream) ≡ i
          now = ap (λ (t : Bool). R t (wanted r.stream)) (lt-ltb i w l)
      pick (no l) f = by (wanted r.stream) refl (f (omega arith) (sym (ap wanted (later-row r rs i v)) ∙ e))
        where
          v : w ≤ i
          v = omega arith

          j : ℕ
          j = rank_at wanted rs (i - w)

          by : (t : Bool) → wanted r.stream ≡ t
              → (sifted wanted rs (flipped (drop w B) (i - w)) ≡ flipped L j) × (j < counted wanted rs)
              → (sifted wanted (r ∷ rs) (flipped B i) ≡ flipped (sifted wanted (r ∷ rs) B) (R (ltb i w) (wanted r.stream)))
              × (R (ltb i w) (wanted r.stream) < counted wanted (r ∷ rs))
          by true u p = (
            ap₂ (before (wanted r.stream)) (front_same w B i v) (ap (sifted wanted rs) (rest_in w B i v) ∙ p.0)
                ∙ ap (λ (t : Bool). before t F (flipped L j)) u
                ∙ sym (flipped-behind F L j (w + j) (omega (arith, long)))
                ∙ ap₂ flipped (sym (ap (λ (t : Bool). before t F L) u)) (sym (ap₂ R (le-ltb i w v) u)),
            subst (λ (m : ℕ). R (ltb i w) (wanted r.stream) < m) (sym (ap (λ (t : Bool). plus t w (counted wanted rs)) u))
                (omega (arith, ap₂ R (le-ltb i w v) u, p.1)),
          )
          by false u p = (
            ap₂ (before (wanted r.stream)) (front_same w B i v) (ap (sifted wanted rs) (rest_in w B i v) ∙ p.0)
                ∙ ap (λ (t : Bool). before t F (flipped L j)) u
                ∙ ap₂ flipped (sym (ap (λ (t : Bool). before t F L) u)) (sym (ap₂ R (le-ltb i w v) u ∙ zero-add j)),
            subst (λ (m : ℕ). R (ltb i w) (wanted r.stream) < m) (sym (ap (λ (t : Bool). plus t w (counted wanted rs)) u))
                (omega (arith, ap₂ R (le-ltb i w v) u, p.1)),
          )

  -- the same of what is read
  module _ (rs : List Row) (B : List ℕ) (i : ℕ) (h : i < total (widths_in rs)) where
    pub among_same : wanted (stream_at rs i) ≡ false → among wanted rs (flipped B i) ≡ among wanted rs B
    among_same e = sifted-is wanted rs (flipped B i) ∙ same_rows rs B i h e ∙ sym (sifted-is wanted rs B)

    pub among_turned : total (widths_in rs) ≤ length B → wanted (stream_at rs i) ≡ true
        → among wanted rs (flipped B i) ≡ flipped (among wanted rs B) (rank_at wanted rs i)
    among_turned n e =
        sifted-is wanted rs (flipped B i) ∙ (turned_rows rs B i n h e).0
        ∙ ap (λ (l : List ℕ). flipped l (rank_at wanted rs i)) (sym (sifted-is wanted rs B))

    pub rank-inside : total (widths_in rs) ≤ length B → wanted (stream_at rs i) ≡ true → rank_at wanted rs i < length (among wanted rs B)
    rank-inside n e =
        subst (λ (m : ℕ). rank_at wanted rs i < m) (sym (among-length wanted rs B n ∙ counted_is wanted rs)) (turned_rows rs B i n h e).1

-- ---- two places of one row

-- the row that holds a place
pub row-stream : (rs : List Row) (r i : ℕ) → Holds (widths_in rs) r i → stream_at rs i ≡ (get_or rs r (row 0 0)).stream
row-stream [] zero i h = absurd (omega (arith, h.within))
row-stream [] (suc r) i h = absurd (omega (arith, h.within))
row-stream (q ∷ rs) zero i h = first-row q rs i (omega (arith, h.within))
row-stream (q ∷ rs) (suc r) i h =
    later-row q rs i (omega (arith, h.begun))
    ∙ row-stream rs r (i - q.width) (record { begun = omega (arith, h.begun); within = omega (arith, h.begun, h.within) })

-- they are as far apart among the wanted bits as among all
pub row-rank : (wanted : ℕ → Bool) (rs : List Row) (r i j : ℕ) → Holds (widths_in rs) r i → Holds (widths_in rs) r j → i ≤ j
    → rank_at wanted rs j ≡ rank_at wanted rs i + (j - i)
unfolding rank_at
row-rank wanted [] r i j h k u = omega arith
row-rank wanted (q ∷ rs) zero i j h k u =
    omega (arith, ap (by i) (lt-ltb i w (omega (arith, h.within))), ap (by j) (lt-ltb j w (omega (arith, k.within))))
  where
    w : ℕ
    w = q.width

    by : ℕ → Bool → ℕ
    by n t = cond t n (cond (wanted q.stream) w 0 + rank_at wanted rs (n - w))
row-rank wanted (q ∷ rs) (suc r) i j h k u =
    omega (
      arith,
      ap (by i) (le-ltb i w (omega (arith, h.begun))),
      ap (by j) (le-ltb j w (omega (arith, k.begun))),
      h.begun,
      k.begun,
      row-rank wanted rs r (i - w) (j - w) (record { begun = omega (arith, h.begun); within = omega (arith, h.begun, h.within) })
          (record { begun = omega (arith, k.begun); within = omega (arith, k.begun, k.within) }) (omega arith),
    )
  where
    w : ℕ
    w = q.width

    by : ℕ → Bool → ℕ
    by n t = cond t n (cond (wanted q.stream) w 0 + rank_at wanted rs (n - w))
