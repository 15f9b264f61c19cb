-- `remainder::after` meets its contract: the bits up to an octet, and the word or the words behind them.
use borrow.Author.Tests.{ltb-true}
use mathlib.Core.Path.{◌≡◌, sym, ap, ap₂, subst, ◌∙◌}
use mathlib.Core.List.{List}
use Prim.Native.Nat.{ℕ, ◌+◌, ◌-◌, ◌*◌, ◌/◌, ◌%◌, ◌^◌, ◌≤◌, ◌<◌}
use native.Mathlib.Omega.{arith}
use lib.Dec.{lit≤}
use lib.ListN.{length}
use Rattle.octets.specs.Bits.{bits_of, part}
use Rattle.octets.proofs.Laws.{bits-length}
use Rattle.octets.proofs.Words.{part-more}
use Rattle.remainder.specs.Division.{generator}
use Rattle.remainder.specs.Register.{register_of}
use Rattle.remainder.proofs.Division.{register-append}
use Rattle.remainder.proofs.Errors.{generator-degree}
use Rattle.remainder.proofs.Quotient.{so-far-lt}
use Rattle.remainder.proofs.after.Goals as goal

-- behind the bits up to an octet: what is left of them is below 2 to the 16
begun : (s : List ℕ) (at start m r : ℕ) → start < 2 ^ 16 → r ≡ register_of 16 generator start (part at m (bits_of s)) → r < 2 ^ 16
begun s at start m r h e = subst (λ (x : ℕ). x < 2 ^ 16) (sym e) (so-far-lt 16 generator (lit≤ tt) generator-degree s at start h m)

-- all n bits are there, where the last of them is
there : (s : List ℕ) (at n : ℕ) → 16 ≤ n → at + (n - 1) < length (bits_of s) → at + n ≤ 8 * length s
there s at n h l = omega (arith, bits-length s)

-- and the register after k bits more, from the octet on
behind : (s : List ℕ) (at start n k r : ℕ) → (8 - at % 8) % 8 + k ≡ n → r ≡ register_of 16 generator start (part at ((8 - at % 8) % 8) (bits_of s))
    → register_of 16 generator r (part (8 * (at / 8 + (at % 8 + 7) / 8)) k (bits_of s)) ≡ register_of 16 generator start (part at n (bits_of s))
behind s at start n k r e f =
    let B = bits_of s in
    let m = (8 - at % 8) % 8 in
    let p : 8 * (at / 8 + (at % 8 + 7) / 8) ≡ at + m = omega arith in
    ap₂ (λ (x i : ℕ). register_of 16 generator x (part i k B)) f p
    ∙ sym (register-append 16 generator start (part at m B) (part (at + m) k B)) ∙ ap (register_of 16 generator start) (part-more B at m k n e)

pub overflow_cast-register : goal.overflow_cast-register
overflow_cast-register c =
    let a = c.args in
    record { fits = begun a.s.now a.at a.start ((8 - a.at % 8) % 8) c.by_bits-register.result c.ranges.start.fits (rw c.from-2.ensures at c.by_bits-register.ensures) }

pub short-requires : goal.short-requires
short-requires c =
    let a = c.args in
    let m = (8 - a.at % 8) % 8 in
    let all : a.at + a.n ≤ 8 * length a.s.now = there a.s.now a.at a.n (omega arith) (ltb-true _ _ (sym c.has.ensures ∙ c.if-not-has.false)) in
    (omega arith, omega arith, omega arith)

pub returns-then-rest-le-WORD : goal.returns-then-rest-le-WORD
returns-then-rest-le-WORD c =
    let a = c.args in
    let m = (8 - a.at % 8) % 8 in
    c.short.ensures
    ∙ behind a.s.now a.at a.start a.n (a.n - m) c.by_bits-register.result (omega arith)
    (rw c.from-2.ensures at c.by_bits-register.ensures)

pub by_words-requires : goal.by_words-requires
by_words-requires c =
    let a = c.args in
    let m = (8 - a.at % 8) % 8 in
    let all : a.at + a.n ≤ 8 * length a.s.now = there a.s.now a.at a.n (omega arith) (ltb-true _ _ (sym c.has.ensures ∙ c.if-not-has.false)) in (
      omega arith,
      omega arith,
      in_words a.at a.n (8 * length a.s.now) (omega arith) all,
    )
  where
    in_words : (at n l : ℕ) → (8 - at % 8) % 8 ≤ n → at + n ≤ l
        → 8 * (at / 8 + (at % 8 + 7) / 8) + (64 * ((n - (8 - at % 8) % 8) / 64) + (n - (8 - at % 8) % 8) % 64) ≤ l
    in_words at n l h k = omega arith

pub returns : goal.returns
returns c =
    let a = c.args in
    let m = (8 - a.at % 8) % 8 in
    let n = a.n - m in
    c.by_words.ensures
    ∙ behind a.s.now a.at a.start a.n (64 * (n / 64) + n % 64) c.by_bits-register.result (omega arith)
    (rw c.from-2.ensures at c.by_bits-register.ensures)
