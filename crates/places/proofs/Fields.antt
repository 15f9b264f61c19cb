-- Fields that are laid one behind the other are read back, and bits are their fields, whatever the widths are. Assumes nothing.
use mathlib.Core.Path.{◌≡◌, refl, sym, ap, ap₂, ◌∙◌, subst}
use mathlib.Core.Logic.{◌⊎◌}
use mathlib.Core.List.{List, [], ◌∷◌, ◌++◌, append_assoc}
use Prim.Native.Nat.{ℕ, zero, suc, ◌+◌, ◌-◌, ◌*◌, ◌≤◌, ◌<◌}
use native.Mathlib.Nat.{zero-add, add-zero}
use native.Mathlib.Omega.{arith}
use lib.ListN.{length, get_or, take, drop, length-append, length-drop}
use lib.Seq.{drop-cons, take_at, take_all, take-add, drop-drop, length-take-le}
use Rattle.octets.specs.Bits.{bits_of, octets_of, part, laid}
use Rattle.octets.proofs.Digits.{Bits, append_bits}
use Rattle.octets.proofs.Laws.{bits-octets}
use Rattle.octets.proofs.Fields.{part-behind, part_stays, reads-back}
use Rattle.places.specs.Places.{total, width_in, place_in, field_in, span_in, fields_from, fields_in, joined, widths_of}
use Rattle.places.proofs.Places.{place-next, place-grows, place_end, inside, aside}

-- ---- what is laid is read back

pub joined_length : (fs : List (List ℕ)) → length (joined fs) ≡ total (widths_of fs)
joined_length [] = refl
joined_length (f ∷ fs) = omega (arith, length-append f (joined fs), joined_length fs)

pub joined-bits : (fs : List (List ℕ)) → ((k : ℕ) → Bits (get_or fs k [])) → Bits (joined fs)
joined-bits [] h = h 0
joined-bits (f ∷ fs) h = append_bits f (joined fs) (h 0) (joined-bits fs (λ k. h (suc k)))

-- fields behind others
pub joined-append : (xs ys : List (List ℕ)) → joined (xs ++ ys) ≡ joined xs ++ joined ys
joined-append [] ys = refl
joined-append (x ∷ xs) ys = ap (λ (l : List ℕ). x ++ l) (joined-append xs ys) ∙ sym (append_assoc x (joined xs) (joined ys))

-- field k, where the widths are those of the fields
pub laid-back : (ws : List ℕ) (fs : List (List ℕ)) → ws ≡ widths_of fs → (k : ℕ) → field_in ws k (joined fs) ≡ get_or fs k []
laid-back ws fs e k = ap (λ (v : List ℕ). field_in v k (joined fs)) e ∙ own fs k
  where
    own : (fs : List (List ℕ)) (k : ℕ) → field_in (widths_of fs) k (joined fs) ≡ get_or fs k []
    own [] zero = refl
    own [] (suc k) = refl
    own (f ∷ fs) zero = take_at f (joined fs) (length f) refl
    own (f ∷ fs) (suc k) = part-behind f (joined fs) (place_in (widths_of fs) k) (width_in (widths_of fs) k) _ refl ∙ own fs k

-- all of them
pub all_back : (fs : List (List ℕ)) → fields_in (widths_of fs) (joined fs) ≡ fs
all_back fs = from fs
  where
    behind : (f : List ℕ) (ws bits : List ℕ) (i n : ℕ) → fields_from (length f ∷ ws) (suc i) n (f ++ bits) ≡ fields_from ws i n bits
    behind f ws bits i zero = refl
    behind f ws bits i (suc n) = ap₂ ◌∷◌ (part-behind f bits (place_in ws i) (width_in ws i) _ refl) (behind f ws bits (suc i) n)

    from : (fs : List (List ℕ)) → fields_in (widths_of fs) (joined fs) ≡ fs
    from [] = refl
    from (f ∷ fs) =
        ap₂ ◌∷◌ (take_at f (joined fs) (length f) refl)
        (behind f (widths_of fs) (joined fs) 0 (length (widths_of fs)) ∙ from fs)

-- in octets, where the fields fill them
pub octets-back : (n : ℕ) (ws : List ℕ) (fs : List (List ℕ)) → ws ≡ widths_of fs → total ws ≡ 8 * n → Bits (joined fs)
    → (k : ℕ) → field_in ws k (bits_of (octets_of n (joined fs))) ≡ get_or fs k []
octets-back n ws fs e l h k =
    ap (field_in ws k) (bits-octets n (joined fs) (joined_length fs ∙ ap total (sym e) ∙ l) h) ∙ laid-back ws fs e k

-- ---- a field put at its place, over octets that hold all fields

module _ (s ws bs : List ℕ) (k : ℕ) (w : length bs ≡ width_in ws k) (h : Bits bs) where
  pub put_back : total ws ≤ 8 * length s → field_in ws k (bits_of (laid s (place_in ws k) bs)) ≡ bs
  put_back f =
      ap (λ (n : ℕ). part (place_in ws k) n (bits_of (laid s (place_in ws k) bs))) (sym w) ∙ reads-back s (place_in ws k) bs h (omega (arith, inside ws k))

  pub put-others-stay : (j : ℕ) → (j ≡ k → ⊥) → field_in ws j (bits_of (laid s (place_in ws k) bs)) ≡ field_in ws j (bits_of s)
  put-others-stay j n =
      part_stays s (place_in ws k) bs h (place_in ws j) (width_in ws j)
      (subst (λ (m : ℕ). (place_in ws j + width_in ws j ≤ place_in ws k) ⊎ (place_in ws k + m ≤ place_in ws j)) (sym w) (aside ws j k n))

-- ---- bits are their fields

module _ (ws bits : List ℕ) where
  -- fields from i to j and from j to k
  pub span-split : (i j k : ℕ) → i ≤ j → j ≤ k → span_in ws i k bits ≡ span_in ws i j bits ++ span_in ws j k bits
  span-split i j k h l =
      let p = place_in ws i in
      let q = place_in ws j in
      let r = place_in ws k in
      let e : r - p ≡ (q - p) + (r - q) = omega (arith, place-grows ws i j h, place-grows ws j k l) in
      let f : p + (q - p) ≡ q = omega (arith, place-grows ws i j h) in
      ap (λ (n : ℕ). part p n bits) e ∙ take-add (q - p) (r - q) (drop p bits)
      ∙ ap (λ (x : List ℕ). part p (q - p) bits ++ take (r - q) x) (drop-drop (q - p) p bits ∙ ap (λ (n : ℕ). drop n bits) f)

  -- from a field to the next
  pub span-one : (k : ℕ) → span_in ws k (suc k) bits ≡ field_in ws k bits
  span-one k = ap (λ (n : ℕ). part (place_in ws k) n bits) wide
    where
      wide : place_in ws (suc k) - place_in ws k ≡ width_in ws k
      wide = omega (arith, place-next ws k)

  -- n fields from number i on
  pub span-fields : (n i : ℕ) → span_in ws i (i + n) bits ≡ joined (fields_from ws i n bits)
  span-fields zero i = ap (λ (n : ℕ). part (place_in ws i) n bits) none
    where
      none : place_in ws (i + 0) - place_in ws i ≡ 0
      none = omega (arith, ap (place_in ws) (add-zero i))
  span-fields (suc n) i =
      span-split i (suc i) (i + suc n) (omega arith) (omega arith)
      ∙ ap₂ ◌++◌ (span-one i) (ap (λ (j : ℕ). span_in ws (suc i) j bits) step ∙ span-fields n (suc i))
    where
      step : i + suc n ≡ suc i + n
      step = omega arith

  -- field number k of all fields
  pub fields_at : (k : ℕ) → k < length ws → get_or (fields_in ws bits) k [] ≡ field_in ws k bits
  fields_at k h = from (length ws) 0 k h ∙ ap (λ (j : ℕ). field_in ws j bits) (zero-add k)
    where
      from : (n i k : ℕ) → k < n → get_or (fields_from ws i n bits) k [] ≡ field_in ws (i + k) bits
      from zero i k l = absurd (omega arith)
      from (suc n) i zero l = ap (λ (j : ℕ). field_in ws j bits) (sym (add-zero i))
      from (suc n) i (suc k) l = from n (suc i) k (omega arith) ∙ ap (λ (j : ℕ). field_in ws j bits) step
        where
          step : suc i + k ≡ i + suc k
          step = omega arith

  module _ (l : length bits ≡ total ws) where
    pub field-length : (k : ℕ) → length (field_in ws k bits) ≡ width_in ws k
    field-length k = length-take-le (width_in ws k) (drop (place_in ws k) bits) (omega (arith, length-drop (place_in ws k) bits, inside ws k))

    -- the fields have the widths of the list
    pub fields-widths : widths_of (fields_in ws bits) ≡ ws
    fields-widths = from (length ws) 0 (omega arith) ∙ take_all (length ws) ws (omega arith)
      where
        from : (n i : ℕ) → i + n ≤ length ws → widths_of (fields_from ws i n bits) ≡ part i n ws
        from zero i h = refl
        from (suc n) i h = ap₂ ◌∷◌ (field-length i) (from n (suc i) (omega arith)) ∙ ap (take (suc n)) (sym (drop-cons ws i 0 (omega arith)))

    -- from the first field to behind the last
    pub span-all : span_in ws 0 (length ws) bits ≡ bits
    span-all = take_all (place_in ws (length ws) - 0) bits (omega (arith, place_end ws))

    -- all bits are in the fields, one behind the other
    pub all-bits : joined (fields_in ws bits) ≡ bits
    all-bits = sym (span-fields (length ws) 0) ∙ ap (λ (n : ℕ). span_in ws 0 n bits) (zero-add (length ws)) ∙ span-all

-- of laid fields, n from number i on
pub span-back : (ws : List ℕ) (fs : List (List ℕ)) → ws ≡ widths_of fs → (i n : ℕ) → i + n ≤ length fs
    → span_in ws i (i + n) (joined fs) ≡ joined (part i n fs)
span-back ws fs e i n h = span-fields ws (joined fs) n i ∙ ap joined (from n i h)
  where
    from : (n i : ℕ) → i + n ≤ length fs → fields_from ws i n (joined fs) ≡ part i n fs
    from zero i h = refl
    from (suc n) i h = ap₂ ◌∷◌ (laid-back ws fs e i) (from n (suc i) (omega arith)) ∙ ap (take (suc n)) (sym (drop-cons fs i [] (omega arith)))

-- bits with the same fields are the same
pub same-fields : (ws b c : List ℕ) → length b ≡ total ws → length c ≡ total ws → ((k : ℕ) → k < length ws → field_in ws k b ≡ field_in ws k c) → b ≡ c
same-fields ws b c l m h = sym (all-bits ws b l) ∙ ap joined (from (length ws) 0 (omega arith)) ∙ all-bits ws c m
  where
    from : (n i : ℕ) → i + n ≤ length ws → fields_from ws i n b ≡ fields_from ws i n c
    from zero i f = refl
    from (suc n) i f = ap₂ ◌∷◌ (h i (omega arith)) (from n (suc i) (omega arith))
