-- What reading gives, where the three rooms have their lengths. Assumes nothing.
use mathlib.Core.Path.{◌≡◌, sym, ◌∙◌}
use mathlib.Core.List.{List}
use Prim.Native.Nat.{ℕ}
use lib.IntN.{ℤ}
use lib.ListN.{length}
use Rattle.std.specs.Prelude.{Ok, Err}
use Rattle.answer.specs.Answer.{answer}
use Rattle.answer.specs.declared.Refused.{Refused}
use Rattle.answer.specs.Given.{number_of}
use Rattle.answer.proofs.Laws.{given}
use Rattle.octets.specs.Bits.{bits_of}
use Rattle.layout.specs.Refusals.{check_refusals, read_refusals}
use Rattle.checker.proofs.Laws.{right-length}
use Rattle.reader.specs.declared.Found.{Found}
use Rattle.reader.specs.Promises.{found_in, coefficients_left, vendor_octets, Read}
use Rattle.reader.proofs.Laws.{Rooms, as-checked}

module _ (f : List ℕ) (cs : List ℤ) (v s : List ℕ) (rooms : Rooms cs v s) (cs' : List ℤ) (v' s' : List ℕ) where
  -- reading answers as checking does
  same : answer (read_refusals f cs v s) ≡ answer (check_refusals f)
  same = sym (as-checked f cs v s rooms)

  -- a refusal
  pub refused-with : (e : Refused) → Read f cs v s (Err e) cs' v' s' → number_of e ≡ answer (check_refusals f)
  refused-with e d = d.answered ∙ same

  -- where nothing is refused
  module _ (r : Found) (d : Read f cs v s (Ok r) cs' v' s') where
    pub none-applies : answer (check_refusals f) ≡ 0
    none-applies = sym (d.answered ∙ same)

    pub read_length : length f ≡ 529
    read_length = right-length f none-applies

    pub coefficients-are : cs' ≡ coefficients_left (bits_of f) cs
    coefficients-are = d.coefficients_held ∙ given _ cs (coefficients_left (bits_of f) cs) (same ∙ none-applies)

    pub vendor-is : v' ≡ vendor_octets (bits_of f)
    vendor-is = d.vendor_held ∙ given _ v (vendor_octets (bits_of f)) (same ∙ none-applies)

    pub found-is : r ≡ found_in (bits_of f)
    found-is = d.found
