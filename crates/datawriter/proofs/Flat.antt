-- What is laid run by run is the frame of the table. Assumes nothing.
use mathlib.Core.Path.{◌≡◌, refl, sym, ap, ap₂, ◌∙◌}
use mathlib.Core.List.{List, [], ◌∷◌, ◌++◌, append_assoc, append-nil}
use Prim.Native.Nat.{ℕ, zero, suc, ◌+◌, ◌-◌, ◌*◌, ◌/◌, ◌^◌, ◌≤◌}
use mathlib.Core.Bool.{true}
use mathlib.Core.Logic.{◌⊎◌, inl, inr}
use native.Mathlib.Omega.{arith}
use lib.Dec.{lit≤}
use lib.ListN.{length, take, drop, replicate, length-replicate}
use lib.Seq.{drop-drop, take_all}
use Rattle.octets.specs.Bits.{digits_of, bits_of, octets_of, part}
use Rattle.octets.proofs.Digits.{digits-take}
use Rattle.octets.proofs.Words.{digits-drop}
use Rattle.remainder.specs.Division.{check_bits}
use Rattle.dataframe.specs.declared.Overhead.{Overhead}
use Rattle.dataframe.specs.Table.{line_bits, room_of, end_width}
use Rattle.dataframe.specs.Frame.{mark_of, data_bits, data_octets}
use Rattle.dataframe.specs.Refusals.{is_stuffing}
use Rattle.datawriter.specs.declared.Marks.{Marks}
use Rattle.datawriter.specs.declared.Rows.{Rows}
use Rattle.datawriter.specs.Laying.{MarksOf, RowsOf, laid_frame}
use Rattle.datawriter.proofs.Laws.{cases}

-- w digits from the j-th on
piece : (n v j w : ℕ) → j + w ≤ n → part j w (digits_of n v) ≡ digits_of w (v / 2 ^ j)
piece n v j w h =
    let e : n ≡ j + (n - j) = omega arith in
    ap (take w) (digits-drop j (n - j) n v e) ∙ digits-take w (n - j) (v / 2 ^ j) (omega arith)

-- brackets of runs and blocks moved to the right
two : (a b p r : List ℕ) → ((a ++ b) ++ p) ++ r ≡ a ++ (b ++ (p ++ r))
two a b p r = append_assoc (a ++ b) p r ∙ append_assoc a b (p ++ r)

three : (a b c p r : List ℕ) → ((a ++ (b ++ c)) ++ p) ++ r ≡ a ++ (b ++ (c ++ (p ++ r)))
three a b c p r = two a (b ++ c) p r ∙ ap (λ (l : List ℕ). a ++ l) (append_assoc b c (p ++ r))

five : (a b c d e p r : List ℕ) → ((a ++ (b ++ (c ++ (d ++ e)))) ++ p) ++ r ≡ a ++ (b ++ (c ++ (d ++ (e ++ (p ++ r)))))
five a b c d e p r =
    three a b (c ++ (d ++ e)) p r
    ∙ ap (λ (l : List ℕ). a ++ (b ++ l)) (append_assoc c (d ++ e) (p ++ r) ∙ ap (λ (l : List ℕ). c ++ l) (append_assoc d e (p ++ r)))

module _ (k word : ℕ) (o : Overhead) (octets : List ℕ) where
  abbrev n : ℕ
  n = 12 * k

  abbrev I : List ℕ
  I = digits_of 4 o.indicators

  abbrev E : List ℕ
  E = digits_of 20 o.eoc

  abbrev C : List ℕ
  C = check_bits 6 o.crc

  abbrev P : List ℕ
  P = bits_of octets

  -- as the table deals them, with sbid1, sbid2, the end and the zeros as they come
  abbrev as_dealt : List ℕ → List ℕ → List ℕ → List ℕ → List ℕ
  as_dealt m₁ m₂ e z =
      take 14 (digits_of 14 word) ++ (take 2 I ++ (take n P
      ++ (take 4 E ++ (take 2 C ++ (take 1 (drop 2 I) ++ (m₁ ++ (take 2 (drop 4 E) ++ (take n (drop n P)
      ++ (take 4 (drop 2 (drop 4 E)) ++ (take 2 (drop 2 C) ++ (take 1 (drop 1 (drop 2 I)) ++ (take 2 (drop 4 (drop 2 (drop 4 E))) ++ (m₂
      ++ (take n (drop n (drop n P))
      ++ (take 4 (drop 2 (drop 4 (drop 2 (drop 4 E)))) ++ (take 2 (drop 2 (drop 2 C)) ++ (take 4 (drop 4 (drop 2 (drop 4 (drop 2 (drop 4 E)))))
      ++ (take n (drop n (drop n (drop n P)))
      ++ (e ++ (z ++ []))))))))))))))))))))

  -- as they stand
  abbrev as_laid : List ℕ → List ℕ → List ℕ → List ℕ → List ℕ
  as_laid m₁ m₂ e z =
      (((digits_of 14 word ++ digits_of 2 o.indicators) ++ part 0 n P)
      ++ (((digits_of 4 o.eoc ++ (part 0 2 C ++ (digits_of 1 (o.indicators / 4) ++ (m₁ ++ digits_of 2 (o.eoc / 16))))) ++ part n n P)
      ++ (((digits_of 4 (o.eoc / 64) ++ (part 2 2 C ++ (digits_of 1 (o.indicators / 8) ++ (digits_of 2 (o.eoc / 1024) ++ m₂)))) ++ part (2 * n) n P)
      ++ (((digits_of 4 (o.eoc / 4096) ++ (part 4 2 C ++ digits_of 4 (o.eoc / 65536))) ++ part (3 * n) n P)
      ++ (e ++ z)))))

  -- nested drops
  drops₂ : (a b c : ℕ) (l : List ℕ) → b + a ≡ c → drop a (drop b l) ≡ drop c l
  drops₂ a b c l e = drop-drop a b l ∙ ap (λ (x : ℕ). drop x l) e

  P₂ : drop n (drop n P) ≡ drop (2 * n) P
  P₂ = drops₂ n n (2 * n) P (omega arith)

  P₃ : drop n (drop n (drop n P)) ≡ drop (3 * n) P
  P₃ = ap (drop n) P₂ ∙ drops₂ n (2 * n) (3 * n) P (omega arith)

  E₆ : drop 2 (drop 4 E) ≡ drop 6 E
  E₆ = drops₂ 2 4 6 E refl

  E₁₀ : drop 4 (drop 2 (drop 4 E)) ≡ drop 10 E
  E₁₀ = ap (drop 4) E₆ ∙ drops₂ 4 6 10 E refl

  E₁₂ : drop 2 (drop 4 (drop 2 (drop 4 E))) ≡ drop 12 E
  E₁₂ = ap (drop 2) E₁₀ ∙ drops₂ 2 10 12 E refl

  E₁₆ : drop 4 (drop 2 (drop 4 (drop 2 (drop 4 E)))) ≡ drop 16 E
  E₁₆ = ap (drop 4) E₁₂ ∙ drops₂ 4 12 16 E refl

  pub dealt-laid : (m₁ m₂ e z : List ℕ) → as_laid m₁ m₂ e z ≡ as_dealt m₁ m₂ e z
  dealt-laid m₁ m₂ e z =
      let i = o.indicators in
      let v = o.eoc in
      let R₃ = e ++ z in
      let T₃ = ((digits_of 4 (v / 4096) ++ (part 4 2 C ++ digits_of 4 (v / 65536))) ++ part (3 * n) n P) ++ R₃ in
      let T₂ = ((digits_of 4 (v / 64) ++ (part 2 2 C ++ (digits_of 1 (i / 8) ++ (digits_of 2 (v / 1024) ++ m₂)))) ++ part (2 * n) n P) ++ T₃ in
      let T₁ = ((digits_of 4 v ++ (part 0 2 C ++ (digits_of 1 (i / 4) ++ (m₁ ++ digits_of 2 (v / 16))))) ++ part n n P) ++ T₂ in
      two (digits_of 14 word) (digits_of 2 i) (part 0 n P) T₁
      ∙ ap₂ ◌++◌ (sym (digits-take 14 14 word (lit≤ tt))) (ap₂ ◌++◌ (sym (digits-take 2 4 i (lit≤ tt))) (ap (λ (l : List ℕ). take n P ++ l)
      (five (digits_of 4 v) (part 0 2 C) (digits_of 1 (i / 4)) m₁ (digits_of 2 (v / 16)) (part n n P) T₂
      ∙ ap₂ ◌++◌ (sym (digits-take 4 20 v (lit≤ tt))) (ap (λ (l : List ℕ). take 2 C ++ l)
      (ap₂ ◌++◌ (sym (piece 4 i 2 1 (lit≤ tt))) (ap (λ (l : List ℕ). m₁ ++ l) (ap₂ ◌++◌ (sym (piece 20 v 4 2 (lit≤ tt))) (ap (λ (l : List ℕ). take n (drop n P) ++ l)
      (five (digits_of 4 (v / 64)) (part 2 2 C) (digits_of 1 (i / 8)) (digits_of 2 (v / 1024)) m₂ (part (2 * n) n P) T₃
      ∙ ap₂ ◌++◌ (sym (ap (take 4) E₆ ∙ piece 20 v 6 4 (lit≤ tt))) (ap (λ (l : List ℕ). take 2 (drop 2 C) ++ l)
      (ap₂ ◌++◌ (sym (ap (take 1) (drops₂ 1 2 3 I refl) ∙ piece 4 i 3 1 (lit≤ tt))) (ap₂ ◌++◌ (sym (ap (take 2) E₁₀ ∙ piece 20 v 10 2 (lit≤ tt)))
      (ap (λ (l : List ℕ). m₂ ++ l) (ap₂ ◌++◌ (sym (ap (take n) P₂))
      (three (digits_of 4 (v / 4096)) (part 4 2 C) (digits_of 4 (v / 65536)) (part (3 * n) n P) R₃
      ∙ ap₂ ◌++◌ (sym (ap (take 4) E₁₂ ∙ piece 20 v 12 4 (lit≤ tt))) (ap₂ ◌++◌ (sym (ap (take 2) (drops₂ 2 2 4 C refl)))
      (ap₂ ◌++◌ (sym (ap (take 4) E₁₆ ∙ piece 20 v 16 4 (lit≤ tt))) (ap₂ ◌++◌ (sym (ap (take n) P₃))
      (ap (λ (l : List ℕ). e ++ l) (sym (append-nil z)))))))))))))))))))))

-- rows as numbers, laid, are the frame
module _ (form k word : ℕ) (o : Overhead) (octets : List ℕ) (m : Marks) (r : Rows) (h : form ≤ 1) (a : MarksOf form o.spare o.stuffing m) (b : RowsOf word o m r) where
  abbrev rest : ℕ
  rest = 8 * room_of form - line_bits form k o.stuffing

  abbrev N : ℕ
  N = 12 * k

  rows-laid : laid_frame r N rest (bits_of octets)
      ≡ as_laid k word o octets (digits_of 1 m.first) (digits_of 1 m.second) (digits_of m.ends m.end) (replicate rest 0)
  rows-laid =
      let Q = bits_of octets in
      ap₂ ◌++◌ (ap (λ (l : List ℕ). l ++ part 0 N Q) b.head_is)
      (ap₂ ◌++◌ (ap (λ (l : List ℕ). l ++ part N N Q) b.first_is)
      (ap₂ ◌++◌ (ap (λ (l : List ℕ). l ++ part (2 * N) N Q) b.second_is)
      (ap₂ ◌++◌ (ap (λ (l : List ℕ). l ++ part (3 * N) N Q) b.third_is)
      (ap (λ (l : List ℕ). l ++ replicate rest 0) (ap₂ digits_of b.ends_is b.end_is)))))

all_of : (n x : ℕ) → take n (replicate n x) ≡ replicate n x
all_of n x = take_all n (replicate n x) (omega (arith, length-replicate n x))

pub frame_is : (form k word : ℕ) (o : Overhead) (octets : List ℕ) (m : Marks) (r : Rows) → form ≤ 1 → MarksOf form o.spare o.stuffing m → RowsOf word o m r
    → laid_frame r (12 * k) (8 * room_of form - line_bits form k o.stuffing) (bits_of octets) ≡ data_bits form k word o octets
unfolding data_bits
frame_is zero k word o octets m r h a b =
    let z = 8 * room_of 0 - line_bits 0 k o.stuffing in
    let S = digits_of 4 o.spare in
    let first : digits_of 1 m.first ≡ take 1 S = a.first_is ∙ sym (digits-take 1 4 o.spare (lit≤ tt)) in
    let second : digits_of 1 m.second ≡ take 1 (drop 1 S) = a.second_is ∙ sym (piece 4 o.spare 1 1 (lit≤ tt)) in
    let end : digits_of m.ends m.end ≡ take 2 (drop 1 (drop 1 S)) =
    a.end_is ∙ sym (ap (take 2) (drop-drop 1 1 S) ∙ piece 4 o.spare 2 2 (lit≤ tt)) in
    rows-laid 0 k word o octets m r h a b
    ∙ ap₂ (λ (x y : List ℕ). as_laid k word o octets x y (digits_of m.ends m.end) (replicate z 0)) first second
    ∙ ap₂ (as_laid k word o octets (take 1 S) (take 1 (drop 1 S))) end (sym (all_of z 0))
    ∙ dealt-laid k word o octets (take 1 S) (take 1 (drop 1 S)) (take 2 (drop 1 (drop 1 S))) (take z (replicate z 0))
frame_is (suc zero) k word o octets m r h a b =
    let z = 8 * room_of 1 - line_bits 1 k o.stuffing in
    let t : List ℕ = mark_of o.stuffing ∷ [] in
    rows-laid 1 k word o octets m r h a b
    ∙ ap₂ (λ (x y : List ℕ). as_laid k word o octets x y (digits_of m.ends m.end) (replicate z 0)) a.first_is a.second_is
    ∙ ap₂ (as_laid k word o octets t t) (a.end_is ∙ sym (all_of o.stuffing 1)) (sym (all_of z 0))
    ∙ dealt-laid k word o octets t t (take o.stuffing (replicate o.stuffing 1)) (take z (replicate z 0))
frame_is (suc (suc f)) k word o octets m r h a b = absurd (omega arith)

-- the numbers of a frame that is to be laid
pub ends-fit : (form k stuffed ends : ℕ) (frame : List ℕ) → form ≤ 1 → k ≤ 289 → is_stuffing form stuffed ≡ true → ends ≡ end_width form stuffed
    → length frame ≡ room_of form → (length frame ≤ 1741) × (ends ≤ 4) × (4 * (12 * k) + 46 + ends ≤ 8 * length frame)
ends-fit zero k stuffed ends frame h m t e l = (omega (arith, l), omega (arith, e), omega (arith, l, e, m))
ends-fit (suc zero) k stuffed ends frame h m t e l =
    let s = most (cases 1 0 stuffed (λ z. omega (arith, z)) t) in
    (omega (arith, l), omega (arith, e, s), omega (arith, l, e, m, s))
  where
    most : (stuffed ≡ 0) ⊎ (stuffed ≡ 4) → stuffed ≤ 4
    most (inl z) = omega (arith, z)
    most (inr z) = omega (arith, z)
ends-fit (suc (suc f)) k stuffed ends frame h m t e l = absurd (omega arith)

-- laid run by run, it is the frame
pub put-frame-is : (form k word : ℕ) (o : Overhead) (octets frame exit : List ℕ) (m : Marks) (r : Rows) → form ≤ 1 → length frame ≡ room_of form
    → MarksOf form o.spare o.stuffing m → RowsOf word o m r
    → exit ≡ octets_of (length frame) (laid_frame r (12 * k) (8 * length frame - (4 * (12 * k) + 46 + m.ends)) (bits_of octets))
    → exit ≡ data_octets form k word o octets
put-frame-is form k word o octets frame exit m r h l a b e =
    let z : 8 * length frame - (4 * (12 * k) + 46 + m.ends) ≡ 8 * room_of form - line_bits form k o.stuffing = omega (arith, l, a.ends_is) in
    e ∙ ap₂ octets_of l (ap (λ (x : ℕ). laid_frame r (12 * k) x (bits_of octets)) z ∙ frame_is form k word o octets m r h a b)
