-- Every payload bit and every overhead bit has a frame bit of its own, together they are the frame, and each is read there: for every size k.
-- Assumes nothing.
use mathlib.Core.Path.{◌≡◌, sym, ap, ap₂, ◌∙◌}
use mathlib.Core.List.{List, [], ◌++◌, append-nil, append_assoc}
use Prim.Native.Nat.{ℕ, zero, suc, ◌+◌, ◌-◌, ◌*◌, ◌/◌, ◌≤◌, ◌<◌}
use native.Mathlib.Decide.{dec_lt}
use native.Mathlib.Nat.{mul-le-mul_left, mul-div-le, lt-mul-div-succ, le-div_iff_mul-le, div-mul-le_self, div-eq_of_lt-le, div-lt_iff_lt-mul}
use native.Mathlib.Omega.{arith}
use lib.ListN.{length, get_or, length-append}
use lib.Seq.{take-add}
use Rattle.octets.specs.Bits.{bits_of, part}
use Rattle.octets.proofs.Laws.{bits-length}
use Rattle.places.specs.Places.{place_in, width_in, field_in, fields_from, joined}
use Rattle.places.specs.Streams.{widths_in, stream_in}
use Rattle.places.proofs.Fields.{joined-append, span-fields}
use Rattle.places.proofs.Streams.{whole_back, laid-out-length}
use Rattle.dataframe.specs.declared.Overhead.{Overhead}
use Rattle.dataframe.specs.Table.{payload, last_payload, end_width, line_bits, table}
use Rattle.dataframe.specs.Frame.{streams, data_bits, carried}
use Rattle.dataframe.specs.Places.{payload_place, overhead_place, payload_bits, overhead_count, Placed, payload_bit, overhead_bit, overhead_bits}
use Rattle.dataframe.proofs.Streams.{amount-is, fits}
use Rattle.dataframe.proofs.Runs.{long, head_at, tail_at, runs, runs-at, runs-length}

-- ---- places of their own

-- places that grow with the bit's number belong to one bit
grows-own : (place : ℕ → ℕ) → ((i j : ℕ) → i < j → place i < place j) → (i j : ℕ) → place i ≡ place j → i ≡ j
grows-own place grows i j e = pick (dec_lt i j) (dec_lt j i)
  where
    pick : Dec (i < j) → Dec (j < i) → i ≡ j
    pick (yes h) d = absurd (omega (arith, grows i j h))
    pick (no n) (yes h) = absurd (omega (arith, grows j i h))
    pick (no n) (no m) = omega arith

-- no two overhead bits share a place
pub overhead-own : (k o o' : ℕ) → overhead_place k o ≡ overhead_place k o' → o ≡ o'
overhead-own k = grows-own (overhead_place k) grows
  where
    grows : (i j : ℕ) → i < j → overhead_place k i < overhead_place k j
    grows i j h =
        let d : (i - 7) / 10 ≤ (j - 7) / 10 = omega arith in
        omega (arith, mul-le-mul_left (12 * k) d)

module _ (k : ℕ) (some : 1 ≤ k) where
  wide : 0 < 12 * k
  wide = omega arith

  -- no two payload bits share a place
  pub payload-own : (p q : ℕ) → payload_place k p ≡ payload_place k q → p ≡ q
  payload-own = grows-own (payload_place k) grows
    where
      grows : (i j : ℕ) → i < j → payload_place k i < payload_place k j
      grows i j h =
          let d : i / (12 * k) ≤ j / (12 * k) = (le-div_iff_mul-le wide).1 (omega (arith, div-mul-le_self i (12 * k))) in
          omega arith

  -- no payload bit shares one with an overhead bit
  pub aside : (p o : ℕ) → payload_place k p ≡ overhead_place k o → ⊥
  aside p o e = pick (dec_lt q m)
    where
      q : ℕ
      q = p / (12 * k)

      m : ℕ
      m = (o - 7) / 10

      pick : Dec (q < m) → ⊥
      pick (yes h) = omega (arith, mul-le-mul_left (12 * k) h, lt-mul-div-succ p wide)
      pick (no n) =
          let h : m ≤ q = omega arith in
          omega (arith, mul-le-mul_left (12 * k) h, mul-div-le p (12 * k))

-- ---- together they are the frame

-- two spare bits at the end, or no or four stuffing bits
end-most : (form s : ℕ) → form ≤ 1 → s ≤ 4 → end_width form s ≤ 4
end-most zero s h l = omega arith
end-most (suc zero) s h l = l
end-most (suc (suc f)) s h l = absurd (omega arith)

module _ (form k s : ℕ) (known : form ≤ 1) (few : s ≤ 4) where
  -- an overhead bit's place is a frame bit
  pub overhead-within : (o : ℕ) → 1 ≤ o → o ≤ overhead_count form s → (1 ≤ overhead_place k o) × (overhead_place k o ≤ line_bits form k s)
  overhead-within o h l =
      let four : (o - 7) / 10 ≤ 4 = omega (arith, end-most form s known few) in
      omega (arith, mul-le-mul_left (12 * k) four)

  -- a payload bit's place is one
  pub payload-within : (p : ℕ) → p < payload_bits k → (1 ≤ payload_place k p) × (payload_place k p ≤ line_bits form k s)
  payload-within p h =
      let wide : 0 < 12 * k = omega arith in
      let block : p / (12 * k) < 4 = (div-lt_iff_lt-mul wide).1 (omega arith) in
      omega arith

  -- at each frame bit stands a payload bit or an overhead bit
  pub every-place : 1 ≤ k → (x : ℕ) → 1 ≤ x → x ≤ line_bits form k s → Placed form k s x
  every-place some x h l = pick (dec_lt x 17) (dec_lt (x - 17) (12 * k * (n + 1) + 10 * n))
    where
      -- so many times a block and ten overhead bits stand between the first sixteen bits and this one
      n : ℕ
      n = (x - 17) / (12 * k + 10)

      before : (12 * k + 10) * n ≤ x - 17
      before = mul-div-le (x - 17) (12 * k + 10)

      behind : x - 17 < (12 * k + 10) * (n + 1)
      behind = lt-mul-div-succ (x - 17) (omega arith)

      three : n ≤ 3
      three = pick (dec_lt 3 n)
        where
          pick : Dec (3 < n) → n ≤ 3
          pick (yes g) = absurd (omega (arith, before, mul-le-mul_left (12 * k + 10) g, end-most form s known few))
          pick (no g) = omega arith

      pick : Dec (x < 17) → Dec (x - 17 < 12 * k * (n + 1) + 10 * n) → Placed form k s x
      pick (yes g) d =
          let none : (x - 7) / 10 ≡ 0 = omega arith in
          overhead_bit x h (omega arith) (omega (arith, ap (λ (m : ℕ). 12 * k * m) none))
      pick (no g) (yes d) = payload_bit p (omega (arith, before, mul-le-mul_left (12 * k) three)) (omega (arith, before, block))
        where
          p : ℕ
          p = x - 17 - 10 * n

          block : p / (12 * k) ≡ n
          block = div-eq_of_lt-le (12 * k) (omega (arith, before)) (omega (arith, before))
      pick (no g) (no d) = overhead_bit o (omega (arith, ten)) most (omega (arith, ten, ap (λ (m : ℕ). 12 * k * m) ten))
        where
          o : ℕ
          o = x - 12 * k * (n + 1)

          ten : (o - 7) / 10 ≡ n + 1
          ten = omega (arith, behind)

          most : o ≤ overhead_count form s
          most = last (dec_lt n 3)
            where
              last : Dec (n < 3) → o ≤ overhead_count form s
              last (yes e) = omega (arith, behind)
              last (no e) =
                  let four : 4 ≤ n + 1 = omega arith in
                  omega (arith, mul-le-mul_left (12 * k) four)

-- ---- each bit is read at its place

module _ (form k s : ℕ) (bits : List ℕ) where
  abbrev W : List ℕ
  W = widths_in (table form k s)

  -- row i, at its place
  row : (i at : ℕ) → place_in W i ≡ at → field_in W i bits ≡ part at (width_in W i) bits
  row i at e = ap (λ (p : ℕ). part p (width_in W i) bits) e

  -- n rows from number i on, and what follows them
  rows : (i n at w : ℕ) (rest : List (List ℕ)) → place_in W i ≡ at → place_in W (i + n) ≡ at + w
      → joined (fields_from W i n bits ++ rest) ≡ part at w bits ++ joined rest
  rows i n at w rest e f =
      let m : place_in W (i + n) - place_in W i ≡ w = omega (arith, e, f) in
      joined-append (fields_from W i n bits) rest
      ∙ ap (λ (l : List ℕ). l ++ joined rest) (sym (span-fields W bits n i) ∙ ap₂ (λ (p q : ℕ). part p q bits) e m)

  -- the payload is four blocks with ten bits behind each but the last
  payload-rows : field_in W 2 bits ++ (field_in W 8 bits ++ (field_in W 14 bits ++ (field_in W 18 bits ++ []))) ≡ runs bits (12 * k) 10 (12 * k) 3 16
  payload-rows =
      ap₂ ◌++◌ (row 2 16 (omega arith))
      (ap₂ ◌++◌ (row 8 (16 + 12 * k + 10) (omega arith))
      (ap₂ ◌++◌ (row 14 (16 + 12 * k + 10 + 12 * k + 10) (omega arith))
      (append-nil _ ∙ row 18 (16 + 12 * k + 10 + 12 * k + 10 + 12 * k + 10) (omega arith))))

  -- the overhead is six bits, then ten before each block, and behind the last what the form has there
  overhead-rows : joined (fields_from W 0 2 bits ++ (fields_from W 3 5 bits ++ (fields_from W 9 5 bits ++ (fields_from W 15 3 bits ++ fields_from W 19 1 bits))))
      ≡ part 0 6 bits ++ runs bits 10 (12 * k) (end_width form s) 4 6
  overhead-rows =
      rows 0 2 0 16 (R 3 5 (R 9 5 (R 15 3 (R 19 1 [])))) (omega arith) (omega arith)
      ∙ ap (λ (l : List ℕ). part 0 16 bits ++ l)
      (rows 3 5 (6 + 10 + 12 * k) 10 (R 9 5 (R 15 3 (R 19 1 []))) (omega arith) (omega arith)
      ∙ ap (λ (l : List ℕ). part (6 + 10 + 12 * k) 10 bits ++ l)
      (rows 9 5 (6 + 10 + 12 * k + 10 + 12 * k) 10 (R 15 3 (R 19 1 [])) (omega arith) (omega arith)
      ∙ ap (λ (l : List ℕ). part (6 + 10 + 12 * k + 10 + 12 * k) 10 bits ++ l)
      (rows 15 3 (6 + 10 + 12 * k + 10 + 12 * k + 10 + 12 * k) 10 (R 19 1 []) (omega arith) (omega arith)
      ∙ ap (λ (l : List ℕ). part (6 + 10 + 12 * k + 10 + 12 * k + 10 + 12 * k) 10 bits ++ l)
      (append-nil _ ∙ row 19 (6 + 10 + 12 * k + 10 + 12 * k + 10 + 12 * k + 10 + 12 * k) (omega arith)))))
      ∙ ap (λ (l : List ℕ). l ++ runs bits 10 (12 * k) (end_width form s) 3 (6 + 10 + 12 * k)) (take-add 6 10 bits)
      ∙ append_assoc (part 0 6 bits) (part 6 10 bits) (runs bits 10 (12 * k) (end_width form s) 3 (6 + 10 + 12 * k))
    where
      R : ℕ → ℕ → List (List ℕ) → List (List ℕ)
      R i n rest = fields_from W i n bits ++ rest

-- of either form
payload-runs : (form k s : ℕ) (bits : List ℕ) → form ≤ 1 → stream_in payload (table form k s) bits ≡ runs bits (12 * k) 10 (12 * k) 3 16
payload-runs zero k s bits h = payload-rows 0 k s bits
payload-runs (suc zero) k s bits h = payload-rows 1 k s bits
payload-runs (suc (suc f)) k s bits h = absurd (omega arith)

overhead-runs : (form k s : ℕ) (bits : List ℕ) → form ≤ 1
    → overhead_bits form k s bits ≡ part 0 6 bits ++ runs bits 10 (12 * k) (end_width form s) 4 6
overhead-runs zero k s bits h = overhead-rows 0 k s bits
overhead-runs (suc zero) k s bits h = overhead-rows 1 k s bits
overhead-runs (suc (suc f)) k s bits h = absurd (omega arith)

module _ (form k s : ℕ) (bits : List ℕ) (known : form ≤ 1) where
  -- payload bit p is read at its place, stuffing or not
  pub payload-at : last_payload k ≤ length bits → (p : ℕ) → p < payload_bits k
      → get_or (stream_in payload (table form k s) bits) p 0 ≡ get_or bits (payload_place k p - 1) 0
  payload-at l p h =
      ap (λ (x : List ℕ). get_or x p 0) (payload-runs form k s bits known)
      ∙ runs-at bits (12 * k) 10 (12 * k) (omega arith) (omega arith) 3 16 p (omega arith) (omega arith)
      ∙ ap (λ (i : ℕ). get_or bits i 0) (same (p / (12 * k)))
    where
      same : (q : ℕ) → 16 + p + 10 * q ≡ 17 + p + 10 * q - 1
      same q = omega arith

  -- overhead bit o is read at its place
  pub overhead-read : s ≤ 4 → line_bits form k s ≤ length bits → (o : ℕ) → 1 ≤ o → o ≤ overhead_count form s
      → get_or (overhead_bits form k s bits) (o - 1) 0 ≡ get_or bits (overhead_place k o - 1) 0
  overhead-read few l o h m = ap (λ (x : List ℕ). get_or x (o - 1) 0) (overhead-runs form k s bits known) ∙ pick (dec_lt (o - 1) 6)
    where
      rest : List ℕ
      rest = runs bits 10 (12 * k) (end_width form s) 4 6

      pick : Dec (o - 1 < 6) → get_or (part 0 6 bits ++ rest) (o - 1) 0 ≡ get_or bits (overhead_place k o - 1) 0
      pick (yes g) = head_at bits 0 6 rest (o - 1) (omega arith) g ∙ ap (λ (i : ℕ). get_or bits i 0) same
        where
          same : 0 + (o - 1) ≡ overhead_place k o - 1
          same =
              let none : (o - 7) / 10 ≡ 0 = omega arith in
              omega (arith, ap (λ (m : ℕ). 12 * k * m) none)
      pick (no g) =
          tail_at bits 0 6 rest (o - 1) (omega arith) (omega arith)
          ∙ ap (λ (i : ℕ). get_or rest i 0) seventh
          ∙ runs-at bits 10 (12 * k) (end_width form s) (omega arith) (omega (arith, end-most form s known few)) 4 6 (o - 7) (omega arith) (omega arith)
          ∙ ap (λ (i : ℕ). get_or bits i 0) (same ((o - 7) / 10))
        where
          seventh : o - 1 - 6 ≡ o - 7
          seventh = omega arith

          same : (q : ℕ) → 6 + (o - 7) + 12 * k * q ≡ o + 12 * k * q - 1
          same q = omega arith

  -- as many as the form has
  pub overhead-length : line_bits form k s ≤ length bits → length (overhead_bits form k s bits) ≡ overhead_count form s
  overhead-length l =
      ap length (overhead-runs form k s bits known) ∙ length-append (part 0 6 bits) (runs bits 10 (12 * k) (end_width form s) 4 6)
      ∙ omega (arith, long bits 0 6 [] 0 (omega arith), runs-length bits 10 (12 * k) (end_width form s) 4 6 (omega arith))

-- so it is in the stream that reading takes
pub payload-read : (form k : ℕ) (bits : List ℕ) → form ≤ 1 → last_payload k ≤ length bits → (p : ℕ) → p < payload_bits k
    → get_or (carried payload form k bits) p 0 ≡ get_or bits (payload_place k p - 1) 0
payload-read form k bits = payload-at form k 0 bits

-- ---- and written there

-- payload bit p of what is written stands at its place
pub payload-written : (form k word : ℕ) (o : Overhead) (octets : List ℕ) → form ≤ 1 → length octets ≡ 6 * k
    → (p : ℕ) → p < payload_bits k → get_or (data_bits form k word o octets) (payload_place k p - 1) 0 ≡ get_or (bits_of octets) p 0
unfolding data_bits
payload-written form k word o octets known l p h =
    let T = table form k o.stuffing in
    let S = streams form k word o octets in
    let F = fits form k word o octets known l in
    let e : length (bits_of octets) ≡ 48 * k = omega (arith, bits-length octets, l) in
    sym (payload-at form k o.stuffing (data_bits form k word o octets) known (omega (arith, laid-out-length T S F)) p h)
    ∙ ap (λ (x : List ℕ). get_or x p 0) (whole_back T S F payload (e ∙ sym (amount-is form k o.stuffing payload known)))
