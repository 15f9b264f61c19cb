-- `bitfields::pushed` meets its contract.
use mathlib.Core.Path.{◌≡◌, refl, ap, ◌∙◌}
use mathlib.Core.Logic.{inl, inr}
use Prim.Native.Nat.{ℕ, ◌+◌, ◌-◌, ◌*◌, ◌/◌, ◌%◌, ◌^◌, ◌≤◌}
use native.Mathlib.Omega.{arith}
use lib.Bits.{bit_or}
use Rattle.octets.specs.Bits.{digits_of, laid}
use Rattle.octets.proofs.Digits.{digits-mod-pow}
use Rattle.octets.proofs.Words.{size_is}
use Rattle.bitfields.proofs.Holding.{low-is, stays, high_is}
use Rattle.bitfields.proofs.pushed.Goals as goal

pub returns-then-count-w-lt64 : goal.returns-then-count-w-lt64
returns-then-count-w-lt64 c =
    let a = c.args in
    let b = a.window in
    let h : a.w ≤ 63 = omega arith in
    let e : bit_or (a.v % (1 * 2 ^ a.w % 2 ^ 64) * 2 ^ b.count % 2 ^ 64) b.held ≡ a.v % 2 ^ a.w * 2 ^ b.count + b.held =
    ap (λ (m : ℕ). bit_or (a.v % m * 2 ^ b.count % 2 ^ 64) b.held) (size_is a.w h)
    ∙ stays b.count b.held a.w a.v c.requires.0 c.requires.1 c.requires.3 c.if-count-w-lt64.true in
    inl (c.if-count-w-lt64.true, refl, ap (λ (x : ℕ). record { octet = b.octet; held = x; count = b.count + a.w }) e)

pub returns : goal.returns
returns c =
    let a = c.args in
    let b = a.window in
    let h : a.w ≤ 63 = omega arith in
    let H = a.v % 2 ^ a.w * 2 ^ b.count + b.held in
    let size = size_is a.w h in
    let low : bit_or (a.v % (1 * 2 ^ a.w % 2 ^ 64) * 2 ^ b.count % 2 ^ 64) b.held ≡ H % 2 ^ 64 =
    ap (λ (m : ℕ). bit_or (a.v % m * 2 ^ b.count % 2 ^ 64) b.held) size
    ∙ low-is b.count b.held a.w a.v c.requires.0 c.requires.1 c.requires.3 in
    let up : a.v % (1 * 2 ^ a.w % 2 ^ 64) / 2 ^ (64 - b.count) ≡ H / 2 ^ 64 =
    ap (λ (m : ℕ). a.v % m / 2 ^ (64 - b.count)) size ∙ high_is b.count b.held a.w a.v c.requires.0 c.requires.1 c.requires.3 c.if-count-w-lt64.false in
    inr (
      c.if-count-w-lt64.false,
      c.put_word.ensures ∙ ap (laid a.s.now (8 * b.octet)) (ap (digits_of 64) low ∙ digits-mod-pow 64 H),
      ap (λ (x : ℕ). record { octet = b.octet + 8; held = x; count = b.count + a.w - 64 }) up,
    )
