-- Streams that a table lays out are read back, and bits are the streams of their table, whatever the table is. Assumes nothing.
use mathlib.Core.Path.{◌≡◌, refl, sym, ap, ap₂, ◌∙◌, subst}
use mathlib.Core.Bool.{Bool, true, false, cond}
use mathlib.Core.List.{List, [], ◌∷◌, ◌++◌}
use Prim.Native.Nat.{ℕ, zero, suc, ◌+◌, ◌≤◌}
use native.Mathlib.Nat.{zero-add, suc-add}
use native.Mathlib.Omega.{arith}
use borrow.Author.Tests.{eq-eqb, eqb-true}
use lib.Dec.{eqb}
use lib.ListN.{length, get_or, take, drop, length-append, length-drop}
use lib.Seq.{take_at, take_all, take-nil, take-take, take-add, drop-drop, length-take-le}
use Rattle.octets.proofs.Digits.{Bits, nil-bits, append_bits, take-bits, drop_bits}
use Rattle.places.specs.Places.{total, width_in, place_in, fields_from, fields_in, joined, widths_of}
use Rattle.places.specs.Streams.{Row, widths_in, amount, chosen, among, stream_in, without, dealt, laid_out}
use Rattle.places.proofs.Fields.{joined_length, all_back, fields-widths, all-bits}

-- the streams have as many bits as the table takes of each; what they have beyond that is not laid out
abbrev pub Fits : List Row → (ℕ → List ℕ) → Type 0
Fits rs s = (x : ℕ) → amount (eqb x) rs ≤ length (s x)

own : (x : ℕ) → eqb x x ≡ true
own x = eq-eqb x x refl

-- ---- one row

module _ (r : Row) (rs : List Row) (s : ℕ → List ℕ) (h : Fits (r ∷ rs) s) where
  abbrev x₀ : ℕ
  x₀ = r.stream

  abbrev w : ℕ
  w = r.width

  -- what the table takes of a stream, by whether the first row is one of it
  takes : (y : ℕ) (b : Bool) → eqb y x₀ ≡ b → amount (eqb y) (r ∷ rs) ≡ cond b (w + amount (eqb y) rs) (amount (eqb y) rs)
  takes y b e = ap (λ (b : Bool). cond b (w + amount (eqb y) rs) (amount (eqb y) rs)) e

  enough : w + amount (eqb x₀) rs ≤ length (s x₀)
  enough = omega (arith, h x₀, takes x₀ true (own x₀))

  pub first-length : length (take w (s x₀)) ≡ w
  first-length = length-take-le w (s x₀) (omega (arith, enough))

  -- the rest of the streams fits the rest of the table
  pub rest-fits : Fits rs (without s x₀ w)
  rest-fits y = pick (eqb y x₀) refl
    where
      pick : (b : Bool) → eqb y x₀ ≡ b → amount (eqb y) rs ≤ length (without s x₀ w y)
      pick true e =
          omega (
            arith,
            h y,
            takes y true e,
            ap (λ (b : Bool). length (cond b (drop w (s y)) (s y))) e,
            length-drop w (s y),
          )
      pick false e = omega (arith, h y, takes y false e, ap (λ (b : Bool). length (cond b (drop w (s y)) (s y))) e)

-- ---- what is laid out is read back

-- the fields have the table's widths
pub dealt-widths : (rs : List Row) (s : ℕ → List ℕ) → Fits rs s → widths_of (dealt rs s) ≡ widths_in rs
dealt-widths [] s h = refl
dealt-widths (r ∷ rs) s h = ap₂ ◌∷◌ (first-length r rs s h) (dealt-widths rs (without s r.stream r.width) (rest-fits r rs s h))

-- the fields of a stream are as much of it as the table takes
pub dealt_back : (rs : List Row) (s : ℕ → List ℕ) (x : ℕ) → joined (chosen (eqb x) rs (dealt rs s)) ≡ take (amount (eqb x) rs) (s x)
dealt_back [] s x = refl
dealt_back (r ∷ rs) s x = pick (eqb x r.stream) refl (dealt_back rs (without s r.stream r.width) x)
  where
    w : ℕ
    w = r.width

    a : ℕ
    a = amount (eqb x) rs

    later : List (List ℕ)
    later = chosen (eqb x) rs (dealt rs (without s r.stream w))

    pick : (b : Bool) → eqb x r.stream ≡ b → joined later ≡ take a (without s r.stream w x)
        → joined (cond (eqb x r.stream) (take w (s r.stream) ∷ later) later) ≡ take (cond (eqb x r.stream) (w + a) a) (s x)
    pick true e behind =
        ap (λ (b : Bool). joined (cond b (take w (s r.stream) ∷ later) later)) e
        ∙ ap₂ ◌++◌ (ap (λ (y : ℕ). take w (s y)) (sym (eqb-true x r.stream e)))
        (behind ∙ ap (λ (b : Bool). take a (cond b (drop w (s x)) (s x))) e)
        ∙ sym (take-add w a (s x)) ∙ ap (λ (b : Bool). take (cond b (w + a) a) (s x)) (sym e)
    pick false e behind =
        ap (λ (b : Bool). joined (cond b (take w (s r.stream) ∷ later) later)) e ∙ behind
        ∙ ap (λ (b : Bool). take a (cond b (drop w (s x)) (s x))) e ∙ ap (λ (b : Bool). take (cond b (w + a) a) (s x)) (sym e)

module _ (rs : List Row) (s : ℕ → List ℕ) (h : Fits rs s) where
  pub fields_back : fields_in (widths_in rs) (laid_out rs s) ≡ dealt rs s
  fields_back = ap (λ (ws : List ℕ). fields_in ws (laid_out rs s)) (sym (dealt-widths rs s h)) ∙ all_back (dealt rs s)

  -- of what is laid out, the wanted streams' fields
  pub among-back : (wanted : ℕ → Bool) → among wanted rs (laid_out rs s) ≡ joined (chosen wanted rs (dealt rs s))
  among-back wanted = ap (λ (fs : List (List ℕ)). joined (chosen wanted rs fs)) fields_back

  -- of each stream, what was laid out is read back
  pub stream-back : (x : ℕ) → stream_in x rs (laid_out rs s) ≡ take (amount (eqb x) rs) (s x)
  stream-back x = among-back (eqb x) ∙ dealt_back rs s x

  -- all of it, where the table takes all
  pub whole_back : (x : ℕ) → length (s x) ≡ amount (eqb x) rs → stream_in x rs (laid_out rs s) ≡ s x
  whole_back x e = stream-back x ∙ take_all (amount (eqb x) rs) (s x) (omega arith)

  pub laid-out-length : length (laid_out rs s) ≡ total (widths_in rs)
  laid-out-length = joined_length (dealt rs s) ∙ ap total (dealt-widths rs s h)

-- bits are laid out as bits
pub laid-out-bits : (rs : List Row) (s : ℕ → List ℕ) → ((x : ℕ) → Bits (s x)) → Bits (laid_out rs s)
laid-out-bits [] s h = nil-bits
laid-out-bits (r ∷ rs) s h =
    append_bits (take r.width (s r.stream)) (laid_out rs (without s r.stream r.width)) (take-bits r.width (s r.stream) (h r.stream))
    (laid-out-bits rs (without s r.stream r.width) rest)
  where
    rest : (y : ℕ) → Bits (without s r.stream r.width y)
    rest y = pick (eqb y r.stream)
      where
        pick : (b : Bool) → Bits (cond b (drop r.width (s y)) (s y))
        pick true = drop_bits r.width (s y) (h y)
        pick false = h y

-- ---- bits are their streams, laid out

-- only what the table takes of each stream matters
pub dealt-same : (rs : List Row) (s t : ℕ → List ℕ) → ((x : ℕ) → take (amount (eqb x) rs) (s x) ≡ take (amount (eqb x) rs) (t x))
    → dealt rs s ≡ dealt rs t
dealt-same [] s t h = refl
dealt-same (r ∷ rs) s t h = ap₂ ◌∷◌ first (dealt-same rs (without s x₀ w) (without t x₀ w) rest)
  where
    x₀ : ℕ
    x₀ = r.stream

    w : ℕ
    w = r.width

    a : ℕ → ℕ
    a y = amount (eqb y) rs

    -- of a stream that the first row is one of
    mine : (y : ℕ) → eqb y x₀ ≡ true → take (w + a y) (s y) ≡ take (w + a y) (t y)
    mine y e = subst (λ (b : Bool). take (cond b (w + a y) (a y)) (s y) ≡ take (cond b (w + a y) (a y)) (t y)) e (h y)

    first : take w (s x₀) ≡ take w (t x₀)
    first =
        sym (take-take w (w + a x₀) (s x₀) (omega arith)) ∙ ap (take w) (mine x₀ (own x₀)) ∙ take-take w (w + a x₀) (t x₀) (omega arith)

    behind : (n m : ℕ) (l : List ℕ) → take m (drop n l) ≡ drop n (take (n + m) l)
    behind zero m l = ap (λ (k : ℕ). take k l) (sym (zero-add m))
    behind (suc n) m [] = take-nil m ∙ sym (ap (drop (suc n)) (take-nil (suc n + m)))
    behind (suc n) m (b ∷ l) = behind n m l ∙ ap (λ (k : ℕ). drop (suc n) (take k (b ∷ l))) (sym (suc-add n m))

    rest : (y : ℕ) → take (a y) (without s x₀ w y) ≡ take (a y) (without t x₀ w y)
    rest y = pick (eqb y x₀) refl
      where
        pick : (b : Bool) → eqb y x₀ ≡ b → take (a y) (without s x₀ w y) ≡ take (a y) (without t x₀ w y)
        pick true e =
            ap (λ (b : Bool). take (a y) (cond b (drop w (s y)) (s y))) e
            ∙ behind w (a y) (s y) ∙ ap (drop w) (mine y e) ∙ sym (behind w (a y) (t y))
            ∙ ap (λ (b : Bool). take (a y) (cond b (drop w (t y)) (t y))) (sym e)
        pick false e =
            ap (λ (b : Bool). take (a y) (cond b (drop w (s y)) (s y))) e
            ∙ subst (λ (b : Bool). take (cond b (w + a y) (a y)) (s y) ≡ take (cond b (w + a y) (a y)) (t y)) e (h y)
            ∙ ap (λ (b : Bool). take (a y) (cond b (drop w (t y)) (t y))) (sym e)

-- fields of the table's widths are those that their streams give
pub dealt-again : (rs : List Row) (fs : List (List ℕ)) → widths_of fs ≡ widths_in rs → dealt rs (λ x. joined (chosen (eqb x) rs fs)) ≡ fs
dealt-again [] [] e = refl
dealt-again [] (f ∷ fs) e = absurd (omega (arith, ap length e))
dealt-again (r ∷ rs) [] e = absurd (omega (arith, ap length e))
dealt-again (r ∷ rs) (f ∷ fs) e =
    ap₂ ◌∷◌ first
    (dealt-same rs (without s r.stream r.width) (λ x. joined (chosen (eqb x) rs fs)) (λ y. ap (take (amount (eqb y) rs)) (rest y))
    ∙ dealt-again rs fs (ap (drop 1) e))
  where
    s : ℕ → List ℕ
    s x = joined (chosen (eqb x) (r ∷ rs) (f ∷ fs))

    wide : length f ≡ r.width
    wide = ap (λ (l : List ℕ). get_or l 0 0) e

    later : ℕ → List (List ℕ)
    later x = chosen (eqb x) rs fs

    yes-is : (x : ℕ) → eqb x r.stream ≡ true → s x ≡ f ++ joined (later x)
    yes-is x t = ap (λ (b : Bool). joined (cond b (f ∷ later x) (later x))) t

    first : take r.width (s r.stream) ≡ f
    first = ap (take r.width) (yes-is r.stream (own r.stream)) ∙ take_at f (joined (later r.stream)) r.width wide

    rest : (y : ℕ) → without s r.stream r.width y ≡ joined (later y)
    rest y = pick (eqb y r.stream) refl
      where
        pick : (b : Bool) → eqb y r.stream ≡ b → without s r.stream r.width y ≡ joined (later y)
        pick true t =
            ap (λ (b : Bool). cond b (drop r.width (s y)) (s y)) t ∙ ap (drop r.width) (yes-is y t)
            ∙ lib.Seq.drop_at f (joined (later y)) r.width wide
        pick false t =
            ap (λ (b : Bool). cond b (drop r.width (s y)) (s y)) t ∙ ap (λ (b : Bool). joined (cond b (f ∷ later y) (later y))) t

-- all bits are in their streams
pub laid-out-again : (rs : List Row) (bits : List ℕ) → length bits ≡ total (widths_in rs) → laid_out rs (λ x. stream_in x rs bits) ≡ bits
laid-out-again rs bits l =
    ap joined (dealt-again rs (fields_in (widths_in rs) bits) (fields-widths (widths_in rs) bits l)) ∙ all-bits (widths_in rs) bits l

-- ---- the wanted streams, row by row: the same, and quicker to compute

-- so many more, where they are wanted
abbrev pub plus : Bool → ℕ → ℕ → ℕ
plus true w n = w + n
plus false w n = n

abbrev pub counted : (ℕ → Bool) → List Row → ℕ
counted wanted [] = 0
counted wanted (r ∷ rs) = plus (wanted r.stream) r.width (counted wanted rs)

-- these bits before the others, where they are wanted
abbrev pub before : Bool → List ℕ → List ℕ → List ℕ
before true f l = f ++ l
before false f l = l

abbrev pub sifted : (ℕ → Bool) → List Row → List ℕ → List ℕ
sifted wanted [] bits = []
sifted wanted (r ∷ rs) bits = before (wanted r.stream) (take r.width bits) (sifted wanted rs (drop r.width bits))

pub counted_is : (wanted : ℕ → Bool) (rs : List Row) → amount wanted rs ≡ counted wanted rs
counted_is wanted [] = refl
counted_is wanted (r ∷ rs) = pick (wanted r.stream) (counted_is wanted rs)
  where
    pick : (b : Bool) → amount wanted rs ≡ counted wanted rs
        → cond b (r.width + amount wanted rs) (amount wanted rs) ≡ plus b r.width (counted wanted rs)
    pick true e = ap (λ (n : ℕ). r.width + n) e
    pick false e = e

pub sifted-is : (wanted : ℕ → Bool) (rs : List Row) (bits : List ℕ) → among wanted rs bits ≡ sifted wanted rs bits
sifted-is wanted rs bits = ap (λ (fs : List (List ℕ)). joined (chosen wanted rs fs)) (cut-is (widths_in rs) bits) ∙ from rs bits
  where
    -- the fields, each behind the one before
    cut : List ℕ → List ℕ → List (List ℕ)
    cut [] bits = []
    cut (w ∷ ws) bits = take w bits ∷ cut ws (drop w bits)

    behind : (w : ℕ) (ws bits : List ℕ) (i n : ℕ) → fields_from (w ∷ ws) (suc i) n bits ≡ fields_from ws i n (drop w bits)
    behind w ws bits i zero = refl
    behind w ws bits i (suc n) =
        ap₂ ◌∷◌ (ap (take (width_in ws i)) (sym (drop-drop (place_in ws i) w bits))) (behind w ws bits (suc i) n)

    cut-is : (ws bits : List ℕ) → fields_in ws bits ≡ cut ws bits
    cut-is [] bits = refl
    cut-is (w ∷ ws) bits = ap (λ (fs : List (List ℕ)). take w bits ∷ fs) (behind w ws bits 0 (length ws) ∙ cut-is ws (drop w bits))

    from : (rs : List Row) (bits : List ℕ) → joined (chosen wanted rs (cut (widths_in rs) bits)) ≡ sifted wanted rs bits
    from [] bits = refl
    from (r ∷ rs) bits = pick (wanted r.stream) (from rs (drop r.width bits))
      where
        f : List ℕ
        f = take r.width bits

        later : List (List ℕ)
        later = chosen wanted rs (cut (widths_in rs) (drop r.width bits))

        pick : (b : Bool) → joined later ≡ sifted wanted rs (drop r.width bits)
            → joined (cond b (f ∷ later) later) ≡ before b f (sifted wanted rs (drop r.width bits))
        pick true e = ap (λ (l : List ℕ). f ++ l) e
        pick false e = e

-- ---- how many they are, and that they are bits

module _ (wanted : ℕ → Bool) where
  pub among-length : (rs : List Row) (bits : List ℕ) → total (widths_in rs) ≤ length bits → length (among wanted rs bits) ≡ amount wanted rs
  among-length rs bits h = ap length (sifted-is wanted rs bits) ∙ from rs bits h ∙ sym (counted_is wanted rs)
    where
      from : (rs : List Row) (bits : List ℕ) → total (widths_in rs) ≤ length bits → length (sifted wanted rs bits) ≡ counted wanted rs
      from [] bits h = refl
      from (r ∷ rs) bits h = pick (wanted r.stream) (from rs (drop r.width bits) (omega (arith, length-drop r.width bits)))
        where
          later : List ℕ
          later = sifted wanted rs (drop r.width bits)

          pick : (b : Bool) → length later ≡ counted wanted rs
              → length (before b (take r.width bits) later) ≡ plus b r.width (counted wanted rs)
          pick true e = length-append (take r.width bits) later ∙ omega (arith, length-take-le r.width bits (omega arith))
          pick false e = e

  pub among-bits : (rs : List Row) (bits : List ℕ) → Bits bits → Bits (among wanted rs bits)
  among-bits rs bits h = subst Bits (sym (sifted-is wanted rs bits)) (from rs bits h)
    where
      from : (rs : List Row) (bits : List ℕ) → Bits bits → Bits (sifted wanted rs bits)
      from [] bits h = nil-bits
      from (r ∷ rs) bits h = pick (wanted r.stream) (from rs (drop r.width bits) (drop_bits r.width bits h))
        where
          later : List ℕ
          later = sifted wanted rs (drop r.width bits)

          pick : (b : Bool) → Bits later → Bits (before b (take r.width bits) later)
          pick true g = append_bits (take r.width bits) later (take-bits r.width bits h) g
          pick false g = g

  -- only the rows up to the last wanted one matter
  pub among-front : (rs ts us : List Row) (bits : List ℕ) → ((b : List ℕ) → sifted wanted ts b ≡ []) → ((b : List ℕ) → sifted wanted us b ≡ [])
      → among wanted (rs ++ ts) bits ≡ among wanted (rs ++ us) bits
  among-front rs ts us bits p q = sifted-is wanted (rs ++ ts) bits ∙ from rs bits ∙ sym (sifted-is wanted (rs ++ us) bits)
    where
      from : (rs : List Row) (bits : List ℕ) → sifted wanted (rs ++ ts) bits ≡ sifted wanted (rs ++ us) bits
      from [] bits = p bits ∙ sym (q bits)
      from (r ∷ rs) bits = ap (before (wanted r.stream) (take r.width bits)) (from rs (drop r.width bits))
