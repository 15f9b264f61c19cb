-- Laws of octets that are text. Assumes nothing.
use mathlib.Core.Path.{◌≡◌, refl, ap}
use mathlib.Core.Bool.{Bool, true, false, cond}
use mathlib.Core.List.{List, [], ◌∷◌}
use Prim.Native.Nat.{ℕ, ◌-◌, ◌≤◌}
use native.Mathlib.Omega.{arith}
use lib.ListN.{length, take, drop, length-drop}
use lib.Seq.{take_all}
use Rattle.std.specs.List.{prefix_len}
use Rattle.std.proofs.lemmas.List.Sums.{prefix_len-le-length}
use Rattle.ascii.specs.Plain.{is_printable, printables, all_zeros, text_length}

-- the printable octets at the front, as the library counts them
pub printables-prefix : (os : List ℕ) → printables os ≡ prefix_len is_printable os
unfolding printables
printables-prefix [] = refl
printables-prefix (o ∷ os) = ap (λ (n : ℕ). cond (is_printable o) n 0) (omega (arith, printables-prefix os))

pub text_of : (os : List ℕ) (n : ℕ) (b : Bool) → n ≡ printables os → b ≡ all_zeros (drop n os) → cond b n 0 ≡ text_length os
text_of os n b p q = rw (q, p)

-- the octets from place n on
pub rest_of : (os : List ℕ) (n : ℕ) → all_zeros (take (length os - n) (drop n os)) ≡ all_zeros (drop n os)
rest_of os n = ap all_zeros (take_all (length os - n) (drop n os) (omega (arith, length-drop n os)))

pub prints-within : (os : List ℕ) → printables os ≤ length os
prints-within os = rw (printables-prefix os) (prefix_len-le-length is_printable os)

-- text lies within its field
pub text-within : (os : List ℕ) → text_length os ≤ length os
text-within os = go (all_zeros (drop (printables os) os)) (prints-within os)
  where
    go : (b : Bool) → printables os ≤ length os → cond b (printables os) 0 ≤ length os
    go true h = h
    go false h = omega arith
