-- Laws of a card's line. Assumes nothing.
use mathlib.Core.Path.{◌≡◌, refl, sym, ap, ◌∙◌}
use mathlib.Core.List.{List, [], ◌∷◌, ◌++◌, append_assoc, append-nil}
use Prim.Native.Nat.{ℕ, zero, suc, ◌+◌, ◌<◌}
use borrow.Author.Tests.{eq-eqb, ne_eqb}
use lib.ListN.{length, get_or, take}
use Rattle.ascii.specs.Text.{text}
use Rattle.ascii.specs.Plain.{text_length}
use Rattle.ascii.proofs.Numbers.{word_next}
use Rattle.card.specs.declared.Verdict.{Verdict}
use Rattle.cardline.specs.Line.{shown_octet, shown, vendor_text, training_cells, final_cells, no_cells, read_cells, cells}
use Rattle.cardline.specs.Line.{csv_octet, csv_octets}

-- ---- a file's name

shown-append : (os : List ℕ) (o : ℕ) → shown (os ++ (o ∷ [])) ≡ shown os ++ (shown_octet o ∷ [])
unfolding shown
shown-append [] o = refl
shown-append (p ∷ os) o = ap (λ (l : List ℕ). shown_octet p ∷ l) (shown-append os o)

pub shown-none : [] ≡ shown []
unfolding shown
shown-none = refl

pub shown-next : (os : List ℕ) (k d : ℕ) → k < length os → d ≡ shown_octet (get_or os k 0) → shown (take k os) ++ (d ∷ []) ≡ shown (take (k + 1) os)
shown-next os k d h e =
    ap (λ (x : ℕ). shown (take k os) ++ (x ∷ [])) e ∙ sym (shown-append (take k os) (get_or os k 0)) ∙ ap shown (word_next os k h)

-- ---- vendor data as text

module _ (os : List ℕ) (n : ℕ) (e : n ≡ text_length os) where
  pub text-none : n ≡ 0 → text "-" ≡ vendor_text os
  unfolding vendor_text
  text-none z = simp (eq-eqb (text_length os) 0 (sym e ∙ z))

  pub text-is : (n ≡ 0 → ⊥) → take n os ≡ vendor_text os
  unfolding vendor_text
  text-is h = ap (λ (m : ℕ). take m os) e ∙ (simp (ne_eqb (text_length os) 0 (λ z. h (e ∙ z))))

-- ---- a card's cells

pub bad-cells : (v : Verdict) → (v.answer ≡ 0 → ⊥) → text "\t-\t-\t-\t-\t-\t-" ≡ cells v.answer v
unfolding no_cells
bad-cells v h = go v.answer h
  where
    go : (n : ℕ) → (n ≡ 0 → ⊥) → no_cells ≡ cells n v
    go zero h = absurd (h refl)
    go (suc n) h = refl

pub training-cells : (v : Verdict) → v.answer ≡ 0 → v.kind ≡ 0 → training_cells v.used v.a v.b v.vendor ≡ cells v.answer v
training-cells v z k = simp (z, k)

pub final-cells : (v : Verdict) → v.answer ≡ 0 → (v.kind ≡ 0 → ⊥) → final_cells v.vendor ≡ cells v.answer v
final-cells v z h = go v.kind h ∙ ap (λ (n : ℕ). cells n v) (sym z)
  where
    go : (m : ℕ) → (m ≡ 0 → ⊥) → final_cells v.vendor ≡ read_cells m v
    go zero h = absurd (h refl)
    go (suc m) h = refl

-- ---- a line in comma-separated form

csv-append : (os : List ℕ) (o : ℕ) → csv_octets (os ++ (o ∷ [])) ≡ csv_octets os ++ csv_octet o
unfolding csv_octets
csv-append [] o = append-nil (csv_octet o)
csv-append (p ∷ os) o = ap (λ (l : List ℕ). csv_octet p ++ l) (csv-append os o) ∙ sym (append_assoc (csv_octet p) (csv_octets os) (csv_octet o))

pub csv-none : [] ≡ csv_octets []
unfolding csv_octets
csv-none = refl

pub csv-next : (os : List ℕ) (k : ℕ) → k < length os → csv_octets (take k os) ++ csv_octet (get_or os k 0) ≡ csv_octets (take (k + 1) os)
csv-next os k h = sym (csv-append (take k os) (get_or os k 0)) ∙ ap csv_octets (word_next os k h)
