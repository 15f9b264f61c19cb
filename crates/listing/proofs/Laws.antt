-- Laws of the listing's lines. Assumes nothing.
use mathlib.Core.Path.{◌≡◌, refl, sym, ap, ap₂, ◌∙◌}
use mathlib.Core.Bool.{Bool, true, false, cond}
use mathlib.Core.List.{List, [], ◌∷◌, ◌++◌, append-nil, append_assoc, reverse}
use Prim.Native.Nat.{ℕ, zero, suc, ◌+◌, ◌<◌, ◌≤◌}
use native.Mathlib.Numerals.{add-one}
use native.Mathlib.Omega.{arith}
use lib.IntN.{ℤ}
use Rattle.octets.specs.Bits.{digits_of, value_of, bits_of}
use Rattle.octets.proofs.Digits.{turned_lt}
use Rattle.remainder.specs.Division.{polynomial}
use Rattle.layout.specs.Places.{a_field, b_field, check_field}
use Rattle.layout.specs.Frame.{training_sync, field_of, coefficients_of}
use Rattle.layout.specs.Refusals.{has_sync}
use Rattle.reader.specs.declared.Found.{Found}
use Rattle.reader.specs.declared.Found.TheVariants.{Final}
use Rattle.std.specs.Prelude.{Ok, Err}
use Rattle.answer.specs.declared.Refused.{Refused}
use Rattle.answer.specs.Given.{number_of}
use Rattle.answer.proofs.Given.{refused-number}
use Rattle.listing.specs.Listing.{kind_lines}
use Rattle.reader.proofs.Laws.{Rooms}
use Rattle.reader.proofs.Given.{refused-with, none-applies, coefficients-are, vendor-is, found-is}
use Rattle.reader.specs.Promises.{words_in, vendor_octets, Read}
use Rattle.ascii.specs.Text.{text, decimal}
use Rattle.forms.specs.Forms.{first_of, formed_by, formed}
use Rattle.listing.specs.Listing.{number_line, coefficient_line, coefficient_lines, vendor_line, check_line, training_lines, training_text, final_text, listed, listing}

-- ---- coefficient lines, behind those that are written

pub lines-next : (xs all : List ℕ) (c : ℤ) (k m n : ℕ) (cs ds : List ℤ) → k ≡ n → m ≡ k + 1 → ds ≡ c ∷ cs
    → xs ++ coefficient_lines n ds ≡ all → (xs ++ coefficient_line k c) ++ coefficient_lines m cs ≡ all
unfolding coefficient_lines
lines-next xs all c k m n cs ds e f g h =
    append_assoc xs (coefficient_line k c) (coefficient_lines m cs)
    ∙ ap (λ (i : ℕ). xs ++ (coefficient_line k c ++ coefficient_lines i cs)) (f ∙ add-one k)
    ∙ ap₂ (λ (i : ℕ) (l : List ℤ). xs ++ coefficient_lines i l) e (sym g) ∙ h

-- none is left
pub lines-last : (xs : List ℕ) (n : ℕ) (cs : List ℤ) → cs ≡ [] → xs ≡ xs ++ coefficient_lines n cs
unfolding coefficient_lines
lines-last xs n cs e = sym (append-nil xs) ∙ ap (λ l. xs ++ coefficient_lines n l) (sym e)

-- ---- lines by their forms

pub coefficient-form : (k : ℕ) (v : List ℕ) → formed (text "c # ") (k ∷ []) ++ v ++ text "\n" ≡ text "c " ++ decimal k ++ text " " ++ v ++ text "\n"
unfolding formed formed_by first_of
coefficient-form k v = refl

pub kind-form : (n : ℕ) → formed (text "kind training\ncoefficients #\n") (n ∷ []) ≡ text "kind training\n" ++ number_line "coefficients " n
unfolding formed formed_by first_of number_line
kind-form n = refl

pub words-form : (a b : ℕ) → formed (text "A #\nB #\n") (a ∷ b ∷ []) ≡ number_line "A " a ++ number_line "B " b
unfolding formed formed_by first_of number_line
words-form a b = ap (λ (l : List ℕ). text "A " ++ l) (sym (append_assoc (decimal a) (text "\n") (number_line "B " b)))

-- ---- check bits as a number

pub check-small : (c t : ℕ) → t ≡ value_of (reverse (digits_of 16 c)) → t < 65536
check-small c t e = omega (arith, turned_lt 16 c)

-- ---- the listing, of what reading gives

module _ (f : List ℕ) (cs : List ℤ) (v s : List ℕ) (rooms : Rooms cs v s) (cs' : List ℤ) (v' s' : List ℕ) where
  abbrev B : List ℕ
  B = bits_of f

  -- a refusal
  pub refused-text : (e : Refused) → Read f cs v s (Err e) cs' v' s' → number_line "refused " (number_of e) ≡ listing f
  unfolding listing listed
  refused-text e d = go (number_of e) (refused-number e) ∙ ap (λ (n : ℕ). listed n B) (refused-with f cs v s rooms cs' v' s' e d)
    where
      go : (n : ℕ) → 1 ≤ n → number_line "refused " n ≡ listed n B
      go zero h = absurd (omega (arith, h))
      go (suc n) h = refl

  module _ (r : Found) (d : Read f cs v s (Ok r) cs' v' s') where
    -- what is printed where nothing is wrong
    listing-is : listed 0 B ≡ listing f
    unfolding listing
    listing-is = ap (λ (n : ℕ). listed n B) (sym (none-applies f cs v s rooms cs' v' s' r d))

    module _ (c : ℕ) (e : c ≡ polynomial (field_of check_field B)) where
      abbrev A : ℕ
      A = value_of (field_of a_field B)

      abbrev W : ℕ
      W = value_of (field_of b_field B)

      abbrev training : List ℕ
      training = training_text (coefficients_of B) A W (vendor_octets B) (polynomial (field_of check_field B))

      abbrev final : List ℕ
      final = final_text (vendor_octets B) (polynomial (field_of check_field B))

      pub read-text : kind_lines r cs' ++ (vendor_line v' ++ check_line c) ≡ listing f
      unfolding listed training_text final_text
      read-text = go (has_sync training_sync B) (found-is f cs v s rooms cs' v' s' r d) (coefficients-are f cs v s rooms cs' v' s' r d) ∙ listing-is
        where
          go : (t : Bool) → r ≡ cond t (words_in B) Final → cs' ≡ cond t (coefficients_of B) cs
              → kind_lines r cs' ++ (vendor_line v' ++ check_line c) ≡ cond t training final
          go true p q =
              ap₂ (λ (x : Found) (l : List ℤ). kind_lines x l ++ (vendor_line v' ++ check_line c)) p q
              ∙ sym (append_assoc (training_lines (coefficients_of B) A W) (vendor_line v') (check_line c))
              ∙ ap₂ (training_text (coefficients_of B) A W) (vendor-is f cs v s rooms cs' v' s' r d) e
          go false p q =
              ap (λ (x : Found). kind_lines x cs' ++ (vendor_line v' ++ check_line c)) p
              ∙ sym (append_assoc (text "kind final\n") (vendor_line v') (check_line c))
              ∙ ap₂ final_text (vendor-is f cs v s rooms cs' v' s' r d) e
