-- An overhead stream's bits are those at the places of its numbers in table 7.2, in that order: for every size k. Assumes nothing.
use mathlib.Core.Path.{◌≡◌, refl, sym, ap, ap₂, ◌∙◌, subst}
use mathlib.Core.Bool.{Bool, true, false, cond}
use mathlib.Core.List.{List, [], ◌∷◌, ◌++◌, map, map-append}
use Prim.Native.Nat.{ℕ, suc, ◌+◌, ◌-◌, ◌≤◌, ◌<◌}
use native.Mathlib.Nat.{add-zero}
use native.Mathlib.Omega.{arith}
use borrow.Author.Tests.{eqb-true}
use lib.Dec.{eqb}
use lib.ListN.{length, get_or, drop, length-append, get_or-append}
use lib.Seq.{get_or-append-add}
use Rattle.places.specs.Places.{total, fields_in, joined, widths_of}
use Rattle.places.specs.Streams.{Row, widths_in, chosen, stream_in}
use Rattle.places.proofs.Fields.{fields-widths}
use Rattle.dataframe.specs.Table.{line_bits, table}
use Rattle.dataframe.specs.Places.{overhead_place, is_overhead, overhead_bits, numbers_from, numbers_in, numbers_of}
use Rattle.dataframe.proofs.Places.{overhead-read, overhead-length}

-- a list of which element j is known by its number i + j
listed : (f : List ℕ) (i : ℕ) (g : ℕ → ℕ) → ((j : ℕ) → j < length f → get_or f j 0 ≡ g (i + j)) → f ≡ map g (numbers_from i (length f))
listed [] i g h = refl
listed (b ∷ f) i g h =
    ap₂ ◌∷◌ (h 0 (omega arith) ∙ ap g (add-zero i))
    (listed f (suc i) g (λ (j : ℕ) (l : j < length f). h (suc j) (omega arith) ∙ ap g (omega arith)))

module _ (x : ℕ) (over : is_overhead x ≡ true) (g : ℕ → ℕ) where
  -- of any rows whose overhead bits are known by their numbers, from i on, a stream's bits
  fields-listed : (rs : List Row) (fs : List (List ℕ)) → widths_of fs ≡ widths_in rs → (i : ℕ)
      → ((j : ℕ) → j < length (joined (chosen is_overhead rs fs)) → get_or (joined (chosen is_overhead rs fs)) j 0 ≡ g (i + j))
      → joined (chosen (eqb x) rs fs) ≡ map g (numbers_in x i rs)
  fields-listed [] fs e i h = refl
  fields-listed (r ∷ rs) [] e i h = absurd (omega (arith, ap length e))
  fields-listed (r ∷ rs) (f ∷ fs) e i h =
      own (eqb x r.stream) refl
      ∙ ap (λ (l : List ℕ). map g mine ++ l) (fields-listed rs fs (ap (drop 1) e) next (rest (is_overhead r.stream) refl))
      ∙ sym (map-append g mine (numbers_in x next rs))
    where
      mine : List ℕ
      mine = cond (eqb x r.stream) (numbers_from i r.width) []

      next : ℕ
      next = i + cond (is_overhead r.stream) r.width 0

      wide : length f ≡ r.width
      wide = ap (λ (l : List ℕ). get_or l 0 0) e

      later : List (List ℕ)
      later = chosen is_overhead rs fs

      -- where the row is overhead its bits come first
      known : (b : Bool) → is_overhead r.stream ≡ b
          → (j : ℕ) → j < length (joined (cond b (f ∷ later) later)) → get_or (joined (cond b (f ∷ later) later)) j 0 ≡ g (i + j)
      known b t =
          subst (λ (b : Bool). (j : ℕ) → j < length (joined (cond b (f ∷ later) later)) → get_or (joined (cond b (f ∷ later) later)) j 0 ≡ g (i + j)) t h

      own : (b : Bool) → eqb x r.stream ≡ b → joined (chosen (eqb x) (r ∷ rs) (f ∷ fs)) ≡ map g mine ++ joined (chosen (eqb x) rs fs)
      own true t =
          ap (λ (b : Bool). joined (cond b (f ∷ chosen (eqb x) rs fs) (chosen (eqb x) rs fs))) t
          ∙ ap (λ (l : List ℕ). l ++ joined (chosen (eqb x) rs fs)) (listed f i g first ∙ ap (λ (w : ℕ). map g (numbers_from i w)) wide)
          ∙ ap (λ (b : Bool). map g (cond b (numbers_from i r.width) []) ++ joined (chosen (eqb x) rs fs)) (sym t)
        where
          first : (j : ℕ) → j < length f → get_or f j 0 ≡ g (i + j)
          first j l =
              sym (get_or-append f (joined later) 0 j l)
              ∙ known true (ap is_overhead (sym (eqb-true x r.stream t)) ∙ over) j (omega (arith, length-append f (joined later)))
      own false t =
          ap (λ (b : Bool). joined (cond b (f ∷ chosen (eqb x) rs fs) (chosen (eqb x) rs fs))) t
          ∙ ap (λ (b : Bool). map g (cond b (numbers_from i r.width) []) ++ joined (chosen (eqb x) rs fs)) (sym t)

      rest : (b : Bool) → is_overhead r.stream ≡ b → (j : ℕ) → j < length (joined later) → get_or (joined later) j 0 ≡ g (next + j)
      rest true t j l =
          sym (get_or-append-add f (joined later) j 0) ∙ known true t (length f + j) (omega (arith, length-append f (joined later))) ∙ ap g step
        where
          step : i + (length f + j) ≡ next + j
          step = omega (arith, wide, ap (λ (b : Bool). cond b r.width 0) t)
      rest false t j l = known false t j l ∙ ap g step
        where
          step : i + j ≡ next + j
          step = omega (arith, ap (λ (b : Bool). cond b r.width 0) t)

-- an overhead stream, read
pub named-read : (x form k s : ℕ) (bits : List ℕ) → is_overhead x ≡ true → form ≤ 1 → s ≤ 4 → length bits ≡ total (widths_in (table form k s))
    → stream_in x (table form k s) bits ≡ map (λ (o : ℕ). get_or bits (overhead_place k o - 1) 0) (numbers_of x form k s)
named-read x form k s bits over known few l =
    fields-listed x over (λ (o : ℕ). get_or bits (overhead_place k o - 1) 0) (table form k s) (fields_in (widths_in (table form k s)) bits)
    (fields-widths (widths_in (table form k s)) bits l) 1 each
  where
    room : line_bits form k s ≤ length bits
    room = omega arith

    each : (j : ℕ) → j < length (overhead_bits form k s bits) → get_or (overhead_bits form k s bits) j 0 ≡ get_or bits (overhead_place k (1 + j) - 1) 0
    each j h =
        let same : j ≡ 1 + j - 1 = omega arith in
        ap (λ (i : ℕ). get_or (overhead_bits form k s bits) i 0) same
        ∙ overhead-read form k s bits known few room (1 + j) (omega arith) (omega (arith, overhead-length form k s bits known room))
