-- `bitfields::opened` meets its contract.
use mathlib.Core.Path.{◌≡◌, sym, ap, ◌∙◌}
use Prim.Native.Nat.{ℕ, ◌+◌, ◌*◌, ◌/◌, ◌%◌, ◌^◌, ◌≤◌}
use native.Mathlib.Nat.{div-one}
use native.Mathlib.Omega.{arith}
use Rattle.octets.specs.Bits.{bits_of}
use Rattle.octets.proofs.Laws.{bits-bits}
use Rattle.octets.proofs.Words.{size_is, bits_in}
use Rattle.bitfields.proofs.opened.Goals as goal

-- the size of the bits before the place
size : (c : goal.After-word) → 1 * 2 ^ (c.args.at % 8) % 2 ^ 64 ≡ 2 ^ (c.args.at % 8)
size c = let r = c.args.at % 8 in let h : r ≤ 63 = omega arith in size_is r h

pub returns : goal.returns
returns c =
    let a = c.args in
    let s = a.s.now in
    let i = a.at / 8 in
    let r = a.at % 8 in
    let p : 8 * i + 0 ≡ 8 * i = omega arith in
    ap (λ (x : ℕ). record { octet = i; held = x; count = r })
    (ap (λ (m : ℕ). c.word.result % m) (size c) ∙ ap (λ (x : ℕ). x % 2 ^ r) (c.word.ensures ∙ sym (div-one _))
    ∙ bits_in (bits_of s) (bits-bits s) (8 * i) 0 r (8 * i) p (omega arith))
