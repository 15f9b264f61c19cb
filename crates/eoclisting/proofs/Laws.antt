-- Laws of the texts of messages. Assumes nothing.
use mathlib.Core.Path.{◌≡◌, refl, ap, ◌∙◌}
use mathlib.Core.Bool.{Bool, true, false, cond, ◌&&◌}
use mathlib.Core.List.{List, [], ◌∷◌, ◌++◌}
use Prim.Native.Nat.{ℕ, zero, suc, ◌+◌, ◌-◌, ◌≤◌, ◌<◌}
use native.Mathlib.Numerals.{add-one}
use native.Mathlib.Omega.{arith}
use borrow.Author.Tests.{eq-eqb, ne_eqb, lt-ltb, le-ltb}
use lib.Dec.{eqb}
use lib.ListN.{length, get_or, take, drop, drop_of_length-le}
use lib.Seq.{drop-cons}
use Rattle.ascii.specs.Text.{text, hexes}
use Rattle.ascii.specs.Plain.{text_length}
use Rattle.forms.specs.Forms.{formed}
use Rattle.eoclisting.specs.Contents.{hex_part, margin_text, string_length, string_by, string_text}
use Rattle.eoclisting.specs.Contents.{short_part, margins_text, status_part, inventory_text, inventory_part, contents_text}
use Rattle.eoclisting.specs.Totals.{count_text}

-- ---- a margin

pub margin-none : (m : ℕ) → m ≡ 127 → text "not available" ≡ margin_text m
unfolding margin_text
margin-none m e = simp (eq-eqb m 127 e)

pub margin-over : (m : ℕ) → (m ≡ 127 → ⊥) → m < 128 → formed (text "# dB") (m ∷ []) ≡ margin_text m
unfolding margin_text
margin-over m h l = simp (ne_eqb m 127 h, lt-ltb m 128 l)

pub margin-under : (m : ℕ) → (m ≡ 127 → ⊥) → 128 ≤ m → formed (text "-# dB") ((256 - m) ∷ []) ≡ margin_text m
unfolding margin_text
margin-under m h l = simp (ne_eqb m 127 h, le-ltb m 128 l)

-- ---- contents by their length and their number

pub status-short : (c : List ℕ) → length c < 3 → short_part c ≡ status_part c
unfolding status_part
status-short c h = simp (lt-ltb (length c) 3 h)

pub status-whole : (c : List ℕ) → 3 ≤ length c → margins_text (get_or c 0 0) (get_or c 1 0) (get_or c 2 0) ≡ status_part c
unfolding status_part
status-whole c h = simp (le-ltb (length c) 3 h)

pub inventory-short : (c : List ℕ) → length c < 67 → short_part c ≡ inventory_part c
unfolding inventory_part
inventory-short c h = simp (lt-ltb (length c) 67 h)

pub inventory-whole : (c : List ℕ) → 67 ≤ length c → inventory_text c ≡ inventory_part c
unfolding inventory_part
inventory-whole c h = simp (le-ltb (length c) 67 h)

pub of-status : (n : ℕ) (c : List ℕ) → n ≡ 139 → status_part c ≡ contents_text n c
unfolding contents_text
of-status n c e = simp (eq-eqb n 139 e)

pub of-inventory : (n : ℕ) (c : List ℕ) → (n ≡ 139 → ⊥) → n ≡ 130 → inventory_part c ≡ contents_text n c
unfolding contents_text
of-inventory n c h e = simp (ne_eqb n 139 h, eq-eqb n 130 e)

pub of_others : (n : ℕ) (c : List ℕ) → (n ≡ 139 → ⊥) → (n ≡ 130 → ⊥) → hex_part c ≡ contents_text n c
unfolding contents_text
of_others n c h e = simp (ne_eqb n 139 h, ne_eqb n 130 e)

-- ---- how long a string is

-- by what was found before place k, and how much is found from there on
abbrev pub length_from : ℕ → ℕ → ℕ → ℕ
length_from last k rest = cond (eqb rest 0) last (k + rest)

pub length-first : (s : List ℕ) → length_from 0 0 (string_length s) ≡ string_length s
length-first s = go (string_length s)
  where
    go : (r : ℕ) → length_from 0 0 r ≡ r
    go zero = refl
    go (suc r) = simp (ne_eqb (suc r) 0 (λ z. omega arith)) (omega arith)

-- an octet behind which there is more
length_at : (s : List ℕ) (k : ℕ) → k < length s → (get_or s k 0 ≡ 0 → ⊥)
    → string_length (drop k s) ≡ cond (eqb (get_or s k 0) 32 && eqb (string_length (drop (k + 1) s)) 0) 0 (suc (string_length (drop (k + 1) s)))
unfolding string_length
length_at s k h e = rw (add-one, drop-cons s k 0 h) (simp (ne_eqb (get_or s k 0) 0 e))

-- a zero ends it
pub length-stop : (s : List ℕ) (last k : ℕ) → k < length s → get_or s k 0 ≡ 0 → length_from last k (string_length (drop k s)) ≡ last
unfolding string_length
length-stop s last k h e = rw (drop-cons s k 0 h) (simp (eq-eqb (get_or s k 0) 0 e))

-- and so does the field's end
pub length-end : (s : List ℕ) (last k : ℕ) → length s ≤ k → length_from last k (string_length (drop k s)) ≡ last
unfolding string_length
length-end s last k h = rw (drop_of_length-le s h)

-- an octet that is no blank
pub length_over : (s : List ℕ) (last k : ℕ) → k < length s → (get_or s k 0 ≡ 0 → ⊥) → (get_or s k 0 ≡ 32 → ⊥)
    → length_from (k + 1) (k + 1) (string_length (drop (k + 1) s)) ≡ length_from last k (string_length (drop k s))
length_over s last k h z b =
    go (string_length (drop k s)) (string_length (drop (k + 1) s)) (length_at s k h z ∙ simp (ne_eqb (get_or s k 0) 32 b))
  where
    go : (r q : ℕ) → r ≡ suc q → length_from (k + 1) (k + 1) q ≡ length_from last k r
    go r zero e = simp (ne_eqb r 0 (λ z. omega arith)) (omega arith)
    go r (suc q) e = simp (ne_eqb r 0 (λ z. omega arith), ne_eqb (suc q) 0 (λ z. omega arith)) (omega arith)

-- a blank
pub length-blank : (s : List ℕ) (last k : ℕ) → k < length s → (get_or s k 0 ≡ 0 → ⊥) → get_or s k 0 ≡ 32
    → length_from last (k + 1) (string_length (drop (k + 1) s)) ≡ length_from last k (string_length (drop k s))
length-blank s last k h z b =
    go (string_length (drop k s)) (string_length (drop (k + 1) s)) (length_at s k h z ∙ simp (eq-eqb (get_or s k 0) 32 b))
  where
    go : (r q : ℕ) → r ≡ cond (eqb q 0) 0 (suc q) → length_from last (k + 1) q ≡ length_from last k r
    go r zero e = simp (eq-eqb r 0 e)
    go r (suc q) e =
        let f : r ≡ suc (suc q) = e ∙ simp (ne_eqb (suc q) 0 (λ z. omega arith)) in
        simp (ne_eqb r 0 (λ z. omega arith), ne_eqb (suc q) 0 (λ z. omega arith)) (omega arith)

-- a string lies within its field
pub string-within : (s : List ℕ) → string_length s ≤ length s
unfolding string_length
string-within [] = omega arith
string-within (o ∷ os) = go (eqb o 0) (eqb o 32 && eqb (string_length os) 0) (string-within os)
  where
    go : (a b : Bool) → string_length os ≤ length os → cond a 0 (cond b 0 (suc (string_length os))) ≤ suc (length os)
    go true b h = omega arith
    go false true h = omega arith
    go false false h = omega arith

-- ---- a string as text

module _ (f : List ℕ) (n : ℕ) (e : n ≡ string_length f) where
  string-by : string_by n f ≡ string_text f
  unfolding string_text
  string-by = ap (λ (m : ℕ). string_by m f) e

  pub string-hex : (text_length (take n f) ≡ n → ⊥) → hexes f ≡ string_text f
  unfolding string_by
  string-hex h = by ∙ string-by
    where
      by : hexes f ≡ string_by n f
      by = simp (ne_eqb (text_length (take n f)) n h)

  pub string-quoted : text_length (take n f) ≡ n → 34 ∷ (take n f ++ (34 ∷ [])) ≡ string_text f
  unfolding string_by
  string-quoted h = by ∙ string-by
    where
      by : 34 ∷ (take n f ++ (34 ∷ [])) ≡ string_by n f
      by = simp (eq-eqb (text_length (take n f)) n h)

-- ---- totals

module _ (n good refused : ℕ) (e : refused ≡ n - good) where
  pub count-one : n ≡ 1 → formed (text "# message: # good, # refused") (n ∷ good ∷ refused ∷ []) ≡ count_text n good
  unfolding count_text
  count-one h = ap (λ (r : ℕ). formed (text "# message: # good, # refused") (n ∷ good ∷ r ∷ [])) e ∙ (simp (eq-eqb n 1 h))

  pub count-more : (n ≡ 1 → ⊥) → formed (text "# messages: # good, # refused") (n ∷ good ∷ refused ∷ []) ≡ count_text n good
  unfolding count_text
  count-more h = ap (λ (r : ℕ). formed (text "# messages: # good, # refused") (n ∷ good ∷ r ∷ [])) e ∙ (simp (ne_eqb n 1 h))
