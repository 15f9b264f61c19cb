-- One result per call. Assumes nothing.
use mathlib.Core.Path.{◌≡◌, refl, sym, ◌∙◌}
use mathlib.Core.List.{List}
use Prim.Native.Nat.{ℕ, zero, suc}
use native.Mathlib.Omega.{arith}
use Rattle.answer.specs.Answer.{answer}
use Rattle.octets.specs.Bits.{bits_of, part}
use Rattle.remainder.specs.Promises.{start_refusals}
use Rattle.remainder.proofs.Division.{unique-from}
use Rattle.remainder.proofs.Start.{start-sound}
use Rattle.checktrial.specs.Promises.{Tried}

pub tried-one : (g k start : ℕ) (s : List ℕ) (at n r r' : ℕ) → Tried g k start s at n r → Tried g k start s at n r' → r ≡ r'
tried-one g k start s at n r r' p q = pick (answer (start_refusals g k start)) refl
  where
    pick : (x : ℕ) → answer (start_refusals g k start) ≡ x → r ≡ r'
    pick zero e = unique-from k g (start-sound g k start e).2 start (part at n (bits_of s)) r r' (p.given e) (q.given e)
    pick (suc x) e = p.none (λ z. omega (arith, e)) ∙ sym (q.none (λ z. omega (arith, e)))
