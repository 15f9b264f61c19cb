-- One result per call. Assumes nothing.
use mathlib.Core.Path.{◌≡◌, sym, subst, ◌∙◌}
use mathlib.Core.List.{List}
use Prim.Native.Nat.{ℕ}
use lib.IntN.{ℤ}
use Rattle.std.specs.Prelude.{Result, IfOk}
use Rattle.answer.specs.declared.Refused.{Refused}
use Rattle.answer.proofs.Given.{result-one}
use Rattle.octets.specs.Bits.{bits_of}
use Rattle.reader.specs.declared.Found.{Found}
use Rattle.reader.specs.Promises.{found_in, Read}

pub read_one : (frame : List ℕ) (cs : List ℤ) (vendor reserved : List ℕ) (r r' : Result Found Refused) (d d' : List ℤ) (v v' s s' : List ℕ)
    → Read frame cs vendor reserved r d v s → Read frame cs vendor reserved r' d' v' s' → (r ≡ r') × (d ≡ d') × (v ≡ v') × (s ≡ s')
read_one frame cs vendor reserved r r' d d' v v' s s' p q = (
  result-one r r' (p.answered ∙ sym q.answered)
      (λ x y e e'. subst (λ (z : Result Found Refused). IfOk z (λ w. w ≡ found_in (bits_of frame))) e p.found
      ∙ sym (subst (λ (z : Result Found Refused). IfOk z (λ w. w ≡ found_in (bits_of frame))) e' q.found)),
  p.coefficients_held ∙ sym q.coefficients_held,
  p.vendor_held ∙ sym q.vendor_held,
  p.reserved_held ∙ sym q.reserved_held,
)
