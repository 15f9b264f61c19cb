-- Laws of what the lister says in words. Assumes nothing.
use mathlib.Core.Path.{◌≡◌, refl, sym, ap, ◌∙◌}
use mathlib.Core.List.{List, ◌++◌}
use Prim.Native.Nat.{ℕ, zero, suc, ◌≤◌}
use native.Mathlib.Omega.{arith}
use borrow.Author.Tests.{ne_eqb}
use lib.IntN.{ℤ}
use lib.ListN.{length, take}
use Rattle.reader.specs.declared.Found.{Found}
use Rattle.std.specs.Prelude.{Ok, Err}
use Rattle.answer.specs.declared.Refused.{Refused}
use Rattle.answer.specs.Given.{number_of}
use Rattle.answer.proofs.Given.{refused-number}
use Rattle.reader.specs.Promises.{Read}
use Rattle.reader.proofs.Laws.{Rooms}
use Rattle.reader.proofs.Given.{refused-with, none-applies, vendor-is}
use Rattle.ascii.specs.Text.{text}
use Rattle.ascii.specs.Plain.{text_length}
use Rattle.listing.specs.Words.{refusal_words, vendor_words, worded, words_of}

-- ---- vendor data

pub vendor-some : (v : List ℕ) (n : ℕ) → n ≡ text_length v → (n ≡ 0 → ⊥)
    → text "lister: vendor data as text: " ++ take n v ++ text "\n" ≡ vendor_words v
unfolding vendor_words
vendor-some v n e h =
    simp (ne_eqb (text_length v) 0 (λ z. h (e ∙ z))) (ap (λ (k : ℕ). text "lister: vendor data as text: " ++ take k v ++ text "\n") e)

-- ---- of what reading gives

module _ (f : List ℕ) (cs : List ℤ) (v s : List ℕ) (rooms : Rooms cs v s) (cs' : List ℤ) (v' s' : List ℕ) where
  pub refused-words : (e : Refused) → Read f cs v s (Err e) cs' v' s' → refusal_words (number_of e) (length f) ≡ words_of f
  unfolding words_of worded
  refused-words e d = go (number_of e) (refused-number e) ∙ ap (λ (n : ℕ). worded n f) (refused-with f cs v s rooms cs' v' s' e d)
    where
      go : (n : ℕ) → 1 ≤ n → refusal_words n (length f) ≡ worded n f
      go zero h = absurd (omega (arith, h))
      go (suc n) h = refl

  pub vendor-words : (r : Found) → Read f cs v s (Ok r) cs' v' s' → vendor_words v' ≡ words_of f
  unfolding words_of worded
  vendor-words r d =
      ap vendor_words (vendor-is f cs v s rooms cs' v' s' r d) ∙ ap (λ (n : ℕ). worded n f) (sym (none-applies f cs v s rooms cs' v' s' r d))
