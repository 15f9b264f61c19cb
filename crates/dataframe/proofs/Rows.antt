-- The rows of the table as bits at their places, and the streams as such bits: for every size k, and for either form. Assumes nothing.
use mathlib.Core.Path.{◌≡◌, refl, sym, ap, ap₂, ◌∙◌}
use mathlib.Core.List.{List, [], ◌∷◌, ◌++◌, append-nil}
use Prim.Native.Nat.{ℕ, zero, suc, ◌+◌, ◌-◌, ◌*◌, ◌≤◌}
use native.Mathlib.Omega.{arith}
use lib.Dec.{eqb}
use mathlib.Core.Bool.{Bool, true, false, cond}
use Rattle.octets.specs.Bits.{part}
use Rattle.places.specs.Places.{place_in, field_in, fields_from, fields_in, joined}
use Rattle.places.specs.Streams.{Row, widths_in, stream_in, chosen}
use Rattle.places.proofs.Fields.{joined-append, span-fields}
use Rattle.dataframe.specs.Table.{sync, indicators, payload, eoc, crc, spare, sbid, stuffing, unused, end_width, line_bits, room_of, table}
use Rattle.dataframe.specs.Frame.{carried, covered}

-- no row names the stream
abbrev lacks : ℕ → List Row → Bool
lacks x [] = true
lacks x (r ∷ rs) = cond (eqb x r.stream) false (lacks x rs)

-- then no field is of it
none-chosen : (x : ℕ) (rs : List Row) (fs : List (List ℕ)) → lacks x rs ≡ true → chosen (eqb x) rs fs ≡ []
none-chosen x [] fs h = refl
none-chosen x (r ∷ rs) [] h = refl
none-chosen x (r ∷ rs) (f ∷ fs) h = pick (eqb x r.stream) h (none-chosen x rs fs)
  where
    pick : (b : Bool) → cond b false (lacks x rs) ≡ true → (lacks x rs ≡ true → chosen (eqb x) rs fs ≡ []) → cond b (f ∷ chosen (eqb x) rs fs) (chosen (eqb x) rs fs) ≡ []
    pick true e g = absurd (let z : ◌≡◌ {A = ℕ} 0 1 = cc in omega arith)
    pick false e g = g e

-- and no bit is
none_read : (x : ℕ) (rs : List Row) (bits : List ℕ) → lacks x rs ≡ true → stream_in x rs bits ≡ []
none_read x rs bits h = ap joined (none-chosen x rs (fields_in (widths_in rs) bits) h)

-- ---- row by row: the number of the row, and the place and the width of its bits

module _ (form k s : ℕ) (bits : List ℕ) where
  abbrev W : List ℕ
  W = widths_in (table form k s)

  at : (i w p : ℕ) → place_in W i ≡ p → part (place_in W i) w bits ≡ part p w bits
  at i w p e = ap (λ (q : ℕ). part q w bits) e

  pub row-0 : field_in W 0 bits ≡ part 0 (14) bits
  row-0 = at 0 (14) 0 (omega arith)

  pub row-1 : field_in W 1 bits ≡ part (14) (2) bits
  row-1 = at 1 (2) (14) (omega arith)

  pub row-2 : field_in W 2 bits ≡ part (16) (12 * k) bits
  row-2 = at 2 (12 * k) (16) (omega arith)

  pub row-3 : field_in W 3 bits ≡ part (12 * k + 16) (4) bits
  row-3 = at 3 (4) (12 * k + 16) (omega arith)

  pub row-4 : field_in W 4 bits ≡ part (12 * k + 20) (2) bits
  row-4 = at 4 (2) (12 * k + 20) (omega arith)

  pub row-5 : field_in W 5 bits ≡ part (12 * k + 22) (1) bits
  row-5 = at 5 (1) (12 * k + 22) (omega arith)

  pub row-6 : field_in W 6 bits ≡ part (12 * k + 23) (1) bits
  row-6 = at 6 (1) (12 * k + 23) (omega arith)

  pub row-7 : field_in W 7 bits ≡ part (12 * k + 24) (2) bits
  row-7 = at 7 (2) (12 * k + 24) (omega arith)

  pub row-8 : field_in W 8 bits ≡ part (12 * k + 26) (12 * k) bits
  row-8 = at 8 (12 * k) (12 * k + 26) (omega arith)

  pub row-9 : field_in W 9 bits ≡ part (24 * k + 26) (4) bits
  row-9 = at 9 (4) (24 * k + 26) (omega arith)

  pub row-10 : field_in W 10 bits ≡ part (24 * k + 30) (2) bits
  row-10 = at 10 (2) (24 * k + 30) (omega arith)

  pub row-11 : field_in W 11 bits ≡ part (24 * k + 32) (1) bits
  row-11 = at 11 (1) (24 * k + 32) (omega arith)

  pub row-12 : field_in W 12 bits ≡ part (24 * k + 33) (2) bits
  row-12 = at 12 (2) (24 * k + 33) (omega arith)

  pub row-13 : field_in W 13 bits ≡ part (24 * k + 35) (1) bits
  row-13 = at 13 (1) (24 * k + 35) (omega arith)

  pub row-14 : field_in W 14 bits ≡ part (24 * k + 36) (12 * k) bits
  row-14 = at 14 (12 * k) (24 * k + 36) (omega arith)

  pub row-15 : field_in W 15 bits ≡ part (36 * k + 36) (4) bits
  row-15 = at 15 (4) (36 * k + 36) (omega arith)

  pub row-16 : field_in W 16 bits ≡ part (36 * k + 40) (2) bits
  row-16 = at 16 (2) (36 * k + 40) (omega arith)

  pub row-17 : field_in W 17 bits ≡ part (36 * k + 42) (4) bits
  row-17 = at 17 (4) (36 * k + 42) (omega arith)

  pub row-18 : field_in W 18 bits ≡ part (36 * k + 46) (12 * k) bits
  row-18 = at 18 (12 * k) (36 * k + 46) (omega arith)

  pub row-19 : field_in W 19 bits ≡ part (48 * k + 46) (end_width form s) bits
  row-19 = at 19 (end_width form s) (48 * k + 46) (omega arith)

-- ---- the streams of either form

module _ (k : ℕ) (bits : List ℕ) where
  pub sync-is : (form : ℕ) → form ≤ 1 → carried sync form k bits ≡ part 0 14 bits
  sync-is zero h = append-nil _
  sync-is (suc zero) h = append-nil _
  sync-is (suc (suc f)) h = absurd (omega arith)

  pub indicators-are : (form : ℕ) → form ≤ 1 → carried indicators form k bits ≡ part 14 2 bits ++ (part (12 * k + 22) 1 bits ++ part (24 * k + 32) 1 bits)
  indicators-are zero h = ap₂ ◌++◌ (row-1 0 k 0 bits) (ap₂ ◌++◌ (row-5 0 k 0 bits) (append-nil _ ∙ row-11 0 k 0 bits))
  indicators-are (suc zero) h = ap₂ ◌++◌ (row-1 1 k 0 bits) (ap₂ ◌++◌ (row-5 1 k 0 bits) (append-nil _ ∙ row-11 1 k 0 bits))
  indicators-are (suc (suc f)) h = absurd (omega arith)

  pub payload-is : (form : ℕ) → form ≤ 1
      → carried payload form k bits
      ≡ part 16 (12 * k) bits ++ (part (12 * k + 26) (12 * k) bits ++ (part (24 * k + 36) (12 * k) bits ++ part (36 * k + 46) (12 * k) bits))
  payload-is zero h =
      ap₂ ◌++◌ (row-2 0 k 0 bits) (ap₂ ◌++◌ (row-8 0 k 0 bits) (ap₂ ◌++◌ (row-14 0 k 0 bits) (append-nil _ ∙ row-18 0 k 0 bits)))
  payload-is (suc zero) h =
      ap₂ ◌++◌ (row-2 1 k 0 bits) (ap₂ ◌++◌ (row-8 1 k 0 bits) (ap₂ ◌++◌ (row-14 1 k 0 bits) (append-nil _ ∙ row-18 1 k 0 bits)))
  payload-is (suc (suc f)) h = absurd (omega arith)

  pub eoc-is : (form : ℕ) → form ≤ 1
      → carried eoc form k bits
      ≡ part (12 * k + 16) 4 bits ++ (part (12 * k + 24) 2 bits ++ (part (24 * k + 26) 4 bits
      ++ (part (24 * k + 33) 2 bits ++ (part (36 * k + 36) 4 bits ++ part (36 * k + 42) 4 bits))))
  eoc-is zero h =
      ap₂ ◌++◌ (row-3 0 k 0 bits) (ap₂ ◌++◌ (row-7 0 k 0 bits) (ap₂ ◌++◌ (row-9 0 k 0 bits)
      (ap₂ ◌++◌ (row-12 0 k 0 bits) (ap₂ ◌++◌ (row-15 0 k 0 bits) (append-nil _ ∙ row-17 0 k 0 bits)))))
  eoc-is (suc zero) h =
      ap₂ ◌++◌ (row-3 1 k 0 bits) (ap₂ ◌++◌ (row-7 1 k 0 bits) (ap₂ ◌++◌ (row-9 1 k 0 bits)
      (ap₂ ◌++◌ (row-12 1 k 0 bits) (ap₂ ◌++◌ (row-15 1 k 0 bits) (append-nil _ ∙ row-17 1 k 0 bits)))))
  eoc-is (suc (suc f)) h = absurd (omega arith)

  pub crc-is : (form : ℕ) → form ≤ 1 → carried crc form k bits ≡ part (12 * k + 20) 2 bits ++ (part (24 * k + 30) 2 bits ++ part (36 * k + 40) 2 bits)
  crc-is zero h = ap₂ ◌++◌ (row-4 0 k 0 bits) (ap₂ ◌++◌ (row-10 0 k 0 bits) (append-nil _ ∙ row-16 0 k 0 bits))
  crc-is (suc zero) h = ap₂ ◌++◌ (row-4 1 k 0 bits) (ap₂ ◌++◌ (row-10 1 k 0 bits) (append-nil _ ∙ row-16 1 k 0 bits))
  crc-is (suc (suc f)) h = absurd (omega arith)

  pub spare-is : carried spare 0 k bits ≡ part (12 * k + 23) 1 bits ++ (part (24 * k + 35) 1 bits ++ part (48 * k + 46) 2 bits)
  spare-is = ap₂ ◌++◌ (row-6 0 k 0 bits) (ap₂ ◌++◌ (row-13 0 k 0 bits) (append-nil _ ∙ row-19 0 k 0 bits))

  pub no-spare : carried spare 1 k bits ≡ []
  no-spare = none_read spare (table 1 k 0) bits refl

  pub sbid-is : carried sbid 1 k bits ≡ part (12 * k + 23) 1 bits ++ part (24 * k + 35) 1 bits
  sbid-is = ap₂ ◌++◌ (row-6 1 k 0 bits) (append-nil _ ∙ row-13 1 k 0 bits)

  pub no-sbid : carried sbid 0 k bits ≡ []
  no-sbid = none_read sbid (table 0 k 0) bits refl

  -- ---- the end, with so many stuffing bits

  pub stuffing-is : (s : ℕ) → stream_in stuffing (table 1 k s) bits ≡ part (48 * k + 46) s bits
  stuffing-is s = append-nil _ ∙ row-19 1 k s bits

  pub no-stuffing : (s : ℕ) → stream_in stuffing (table 0 k s) bits ≡ []
  no-stuffing s = none_read stuffing (table 0 k s) bits refl

  pub unused-is : (form s : ℕ) → form ≤ 1 → stream_in unused (table form k s) bits ≡ part (line_bits form k s) (8 * room_of form - line_bits form k s) bits
  unused-is zero s h =
      append-nil _ ∙ at 0 k s bits 20 (8 * room_of 0 - line_bits 0 k s) (line_bits 0 k s) (omega arith)
  unused-is (suc zero) s h =
      append-nil _ ∙ at 1 k s bits 20 (8 * room_of 1 - line_bits 1 k s) (line_bits 1 k s) (omega arith)
  unused-is (suc (suc f)) s h = absurd (omega arith)

-- ---- what the check bits cover: the bits between sync, the three pairs of check bits, and the end

module _ (form k : ℕ) (bits : List ℕ) where
  abbrev U : List ℕ
  U = widths_in (table form k 0)

  -- n rows from number i on
  rows : (i n at w : ℕ) → place_in U i ≡ at → place_in U (i + n) ≡ at + w → joined (fields_from U i n bits) ≡ part at w bits
  rows i n at w e f =
      let m : place_in U (i + n) - place_in U i ≡ w = omega (arith, e, f) in
      sym (span-fields U bits n i) ∙ ap₂ (λ (p q : ℕ). part p q bits) e m

  -- four runs of rows, of which the last has n
  four_runs : (n : ℕ) → place_in U (17 + n) ≡ 36 * k + 42 + (12 * k + 4 + end_width form 0)
      → joined (fields_from U 1 3 bits ++ (fields_from U 5 5 bits ++ (fields_from U 11 5 bits ++ fields_from U 17 n bits)))
      ≡ part 14 (12 * k + 6) bits ++ (part (12 * k + 22) (12 * k + 8) bits
      ++ (part (24 * k + 32) (12 * k + 8) bits ++ part (36 * k + 42) (12 * k + 4 + end_width form 0) bits))
  four_runs n e =
      let A = fields_from U 1 3 bits in
      let B = fields_from U 5 5 bits in
      let C = fields_from U 11 5 bits in
      let D = fields_from U 17 n bits in
      joined-append A (B ++ (C ++ D))
      ∙ ap₂ ◌++◌ (rows 1 3 14 (12 * k + 6) (omega arith) (omega arith))
      (joined-append B (C ++ D)
      ∙ ap₂ ◌++◌ (rows 5 5 (12 * k + 22) (12 * k + 8) (omega arith) (omega arith))
      (joined-append C D
      ∙ ap₂ ◌++◌ (rows 11 5 (24 * k + 32) (12 * k + 8) (omega arith) (omega arith))
      (rows 17 n (36 * k + 42) (12 * k + 4 + end_width form 0) (omega arith) e)))

pub covered-is : (form k : ℕ) (bits : List ℕ) → form ≤ 1
    → covered form k bits
    ≡ part 14 (12 * k + 6) bits ++ (part (12 * k + 22) (12 * k + 8) bits
    ++ (part (24 * k + 32) (12 * k + 8) bits ++ part (36 * k + 42) (12 * k + 4 + end_width form 0) bits))
covered-is zero k bits h = four_runs 0 k bits 3 (omega arith)
covered-is (suc zero) k bits h = four_runs 1 k bits 2 (omega arith)
covered-is (suc (suc f)) k bits h = absurd (omega arith)
