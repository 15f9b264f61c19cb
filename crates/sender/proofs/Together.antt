-- Sending refuses what writing refuses and what scrambling refuses, and nothing else. Assumes nothing.
use mathlib.Core.Path.{◌≡◌, refl, sym, ap, ◌∙◌}
use mathlib.Core.Bool.{Bool, true, false, cond, not, ◌&&◌, ◌||◌}
use mathlib.Core.List.{[], ◌∷◌}
use Prim.Native.Nat.{ℕ, zero, suc}
use native.Mathlib.Omega.{arith}
use borrow.Author.Tests.{le-ltb}
use lib.Dec.{eqb, ltb, leb}
use lib.ListN.{length, take}
use Rattle.answer.specs.Answer.{refuse, answer}
use Rattle.octets.specs.Bits.{value_of, bits_of}
use Rattle.octets.proofs.Laws.{octets-length}
use Rattle.ranges.specs.Ranges.{is_coefficient, is_word, every}
use Rattle.layout.specs.Places.{pad_field}
use Rattle.layout.specs.Frame.{field_of}
use Rattle.layout.specs.Refusals.{write_refusals}
use Rattle.sender.specs.Promises.{frame_octets, least_of, Together}
use Rattle.sender.proofs.Promise.{pad-clear}

-- 1 before any
pub least-one : (n : ℕ) → 1 ≡ least_of 1 n
least-one zero = refl
least-one (suc zero) = refl
least-one (suc (suc n)) = sym (ap (λ (t : Bool). cond t (suc (suc n)) 1) (le-ltb (suc (suc n)) 1 (omega arith)))

-- the checks of each: a b c the lengths (c of the room), d the kind, e the end, f the count, g h the fields' ranges, i the state, p the pad
abbrev sending : Bool → Bool → Bool → Bool → Bool → Bool → Bool → Bool → Bool → ℕ
sending a b c d e f g h i =
    answer (refuse 1 a ∷ refuse 1 b ∷ refuse 1 c ∷ refuse 2 d ∷ refuse 2 e ∷ refuse 3 f ∷ refuse 4 g ∷ refuse 4 h ∷ refuse 4 i ∷ [])

abbrev writing : Bool → Bool → Bool → Bool → Bool → Bool → Bool → ℕ
writing a b c d f g h = answer (refuse 1 a ∷ refuse 1 b ∷ refuse 1 c ∷ refuse 2 d ∷ refuse 3 f ∷ refuse 4 g ∷ refuse 4 h ∷ [])

abbrev scrambling : Bool → Bool → Bool → Bool → ℕ
scrambling c e i p = answer (refuse 1 false ∷ refuse 1 c ∷ refuse 2 e ∷ refuse 4 i ∷ refuse 6 p ∷ [])

-- behind the lengths, the kind and the end
ranges-both : (f g h i p : Bool) → (writing false false false false f g h ≡ 0 → p ≡ false)
    → sending false false false false false f g h i ≡ least_of (writing false false false false f g h) (scrambling false false i p)
ranges-both true g h true p z = refl
ranges-both true g h false true z = refl
ranges-both true g h false false z = refl
ranges-both false true h true p z = refl
ranges-both false true h false true z = refl
ranges-both false true h false false z = refl
ranges-both false false true true p z = refl
ranges-both false false true false true z = refl
ranges-both false false true false false z = refl
ranges-both false false false true p z = refl
ranges-both false false false false true z = absurd (mathlib.Core.Bool.true≢false (z refl))
ranges-both false false false false false z = refl

-- behind the lengths and the kind: an unknown end
end-both : (f g h i p : Bool) → 2 ≡ least_of (writing false false false false f g h) (scrambling false true i p)
end-both true g h i p = refl
end-both false true h i p = refl
end-both false false true i p = refl
end-both false false false i p = refl

-- behind the lengths: an unknown kind
kind-both : (e i p : Bool) → 2 ≡ least_of 2 (scrambling false e i p)
kind-both true i p = refl
kind-both false true p = refl
kind-both false false true = refl
kind-both false false false = refl

both : (a b c d e f g h i p : Bool) → (writing a b c d f g h ≡ 0 → p ≡ false)
    → sending a b c d e f g h i ≡ least_of (writing a b c d f g h) (scrambling c e i p)
both true b c d e f g h i p z = least-one (scrambling c e i p)
both false true c d e f g h i p z = least-one (scrambling c e i p)
both false false true d e f g h i p z = refl
both false false false true e f g h i p z = kind-both e i p
both false false false false true f g h i p z = end-both f g h i p
both false false false false false f g h i p z = ranges-both f g h i p z

-- as the code has it: what is refused for the end and the state, and for the fields' numbers
pub merged : (e f g h i : Bool) → answer (refuse 2 e ∷ refuse 3 f ∷ refuse 4 g ∷ refuse 4 h ∷ refuse 4 i ∷ [])
    ≡ least_of (answer (refuse 2 e ∷ refuse 4 i ∷ [])) (answer (refuse 3 f ∷ refuse 4 g ∷ refuse 4 h ∷ []))
merged true true g h i = refl
merged true false true h i = refl
merged true false false true i = refl
merged true false false false i = refl
merged false true g h true = refl
merged false true g h false = refl
merged false false true h true = refl
merged false false true h false = refl
merged false false false true true = refl
merged false false false true false = refl
merged false false false false true = refl
merged false false false false false = refl

pub together : Together
together x kind count cs a b vendor frame =
    let F = frame_octets kind count cs a b vendor in
    let P = not (eqb (value_of (field_of pad_field (bits_of F))) 0) in
    let whole : not (eqb (length F) 529) ≡ false = ap (λ (n : ℕ). not (eqb n 529)) (octets-length 529 _) in
    both (not (eqb (length cs) 180)) (not (eqb (length vendor) 16)) (not (eqb (length frame) 529)) (ltb 1 kind) (ltb 1 x.end)
    (eqb kind 0 && (ltb count 128 || ltb 180 count)) (eqb kind 0 && not (every is_coefficient (take count cs))) (eqb kind 0 && not (is_word a && is_word b))
    (leb 8388608 x.state) P
    (λ z. ap (λ (n : ℕ). not (eqb n 0)) (pad-clear kind count cs a b vendor frame z))
    ∙ ap (λ (t : Bool). least_of (answer (write_refusals kind count cs a b vendor frame))
    (answer (refuse 1 t ∷ refuse 1 (not (eqb (length frame) 529)) ∷ refuse 2 (ltb 1 x.end) ∷ refuse 4 (leb 8388608 x.state) ∷ refuse 6 P ∷ [])))
    (sym whole)
