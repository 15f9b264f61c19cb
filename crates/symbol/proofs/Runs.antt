-- Laws of steps and runs: what one turn adds to a run. Assumes nothing.
use mathlib.Core.Path.{◌≡◌, ap, ◌∙◌}
use mathlib.Core.Bool.{true}
use mathlib.Core.List.{List, [], ◌∷◌, ◌++◌, append-nil}
use Prim.Native.Nat.{ℕ, zero, suc, ◌+◌, ◌/◌, ◌^◌, ◌≤◌, ◌<◌}
use native.Mathlib.Omega.{arith}
use native.Mathlib.Numerals.{add-one}
use native.Mathlib.Nat.{mod-eq_of_lt}
use borrow.Author.Tests.{le-leb, leb-true, ltb-true, lt-ltb}
use lib.Dec.{leb, lit≤}
use lib.ListN.{length, get_or, take, drop, set}
use lib.Seq.{take-suc-set, drop-cons, drop-length, take-length, append_snoc}
use Rattle.octets.specs.Bits.{value_of}
use Rattle.octets.proofs.Digits.{Bits, cons-bits, digits-bits, digits-take, value-digits, value-part}
use Rattle.ranges.proofs.Laws.{both}
use Rattle.symbol.specs.declared.Encoder.{Encoder}
use Rattle.symbol.specs.Encoder.{x1, code_of, sent_after, codes_of, register_of, held_in, encoder_in, symbols_in, with_register}
use Rattle.symbol.proofs.Sent.{bit_below, codes-from-register, register-from-register}

-- ---- the tests

-- an encoder in range has A, B and the register in theirs
pub encoder-in : (e : Encoder) → encoder_in e ≡ true → (e.a ≤ 2097151) × (e.b ≤ 2097151) × (e.register < 2 ^ 20)
encoder-in e h =
    let p = both _ _ h in
    let q = both _ _ p.1 in
    (leb-true _ _ p.0, leb-true _ _ q.0, ltb-true _ _ q.1)

-- a code has four bits
pub code-small : (a b : ℕ) (earlier : List ℕ) (symbol : ℕ) → code_of a b earlier symbol ≤ 15
code-small a b earlier symbol = omega arith

-- each symbol of a list in range is
pub symbol-in : (symbols : List ℕ) (i : ℕ) → i < length symbols → symbols_in symbols ≡ true → get_or symbols i 0 ≤ 7
unfolding symbols_in
symbol-in [] i h e = omega arith
symbol-in (s ∷ symbols) zero h e = leb-true s 7 (both (leb s 7) (symbols_in symbols) e).0
symbol-in (s ∷ symbols) (suc i) h e = symbol-in symbols i (omega arith) (both (leb s 7) (symbols_in symbols) e).1

-- ---- a turn of a run

-- a register's own bits make it
register-own : (register : ℕ) → register < 2 ^ 20 → register_of (held_in register) ≡ register
register-own register h = ap value_of (digits-take 20 20 register (lit≤ tt)) ∙ value-digits 20 register ∙ mod-eq_of_lt h

-- a symbol's X1 before a register's are bits
next-bits : (symbols : List ℕ) (register i : ℕ) → Bits (x1 (get_or symbols i 0) ∷ held_in register)
next-bits symbols register i = cons-bits (x1 (get_or symbols i 0)) (held_in register) (bit_below (get_or symbols i 0 / 2 ^ 2)) (digits-bits 20 register)

pub next_small : (symbols : List ℕ) (register i : ℕ) → register_of (x1 (get_or symbols i 0) ∷ held_in register) < 2 ^ 20
next_small symbols register i = value-part 20 (x1 (get_or symbols i 0) ∷ held_in register) (next-bits symbols register i)

module _ (a b : ℕ) (symbols : List ℕ) (register i : ℕ) (hi : i < length symbols) where
  abbrev symbol : ℕ
  symbol = get_or symbols i 0

  abbrev earlier : List ℕ
  earlier = held_in register

  abbrev next : ℕ
  next = register_of (x1 symbol ∷ earlier)

  -- the codes done, with the definition on what remains, are what they were
  pub codes-turn : (codes : List ℕ) → i < length codes
      → take (i + 1) (set codes i (code_of a b earlier symbol)) ++ codes_of a b (held_in next) (drop (i + 1) symbols)
      ≡ take i codes ++ codes_of a b earlier (drop i symbols)
  unfolding codes_of
  codes-turn codes hc =
      rw (
        add-one i,
        drop-cons symbols i 0 hi,
        take-suc-set codes i (code_of a b earlier symbol) hc,
        codes-from-register a b (x1 symbol ∷ earlier)
            (drop (suc i) symbols) (next-bits symbols register i),
      )
      (append_snoc (take i codes) (code_of a b earlier symbol) (codes_of a b (x1 symbol ∷ earlier) (drop (suc i) symbols)))

  -- and so is the register at the end
  pub register-turn : register_of (sent_after (held_in next) (drop (i + 1) symbols)) ≡ register_of (sent_after earlier (drop i symbols))
  unfolding sent_after
  register-turn =
      rw (add-one i, drop-cons symbols i 0 hi) (register-from-register (x1 symbol ∷ earlier) (drop (suc i) symbols) (next-bits symbols register i))

-- when nothing remains, all codes are done
pub codes-end : (a b : ℕ) (symbols codes : List ℕ) (register i : ℕ) → length symbols ≤ i → i ≤ length symbols → length codes ≡ length symbols
    → take i codes ++ codes_of a b (held_in register) (drop i symbols) ≡ codes
unfolding codes_of
codes-end a b symbols codes register i h k l =
    let e : i ≡ length symbols = omega arith in
    let f : i ≡ length codes = omega arith in
    ap (λ (d : List ℕ). take i codes ++ codes_of a b (held_in register) d) (ap (λ (n : ℕ). drop n symbols) e ∙ drop-length symbols)
    ∙ append-nil (take i codes) ∙ ap (λ (n : ℕ). take n codes) f ∙ take-length codes

pub register-end : (symbols : List ℕ) (register i : ℕ) → length symbols ≤ i → i ≤ length symbols → register < 2 ^ 20
    → register_of (sent_after (held_in register) (drop i symbols)) ≡ register
unfolding sent_after
register-end symbols register i h k l =
    let e : i ≡ length symbols = omega arith in
    ap (λ (d : List ℕ). register_of (sent_after (held_in register) d)) (ap (λ (n : ℕ). drop n symbols) e ∙ drop-length symbols) ∙ register-own register l

-- an encoder in range, with another register in range
pub with_in : (e : Encoder) (register : ℕ) → encoder_in e ≡ true → register < 2 ^ 20 → encoder_in (with_register e register) ≡ true
with_in e register h k =
    let p = encoder-in e h in
    simp (le-leb e.a 2097151 p.0, le-leb e.b 2097151 p.1, lt-ltb register (2 ^ 20) k)
