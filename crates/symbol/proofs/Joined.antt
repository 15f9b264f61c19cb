-- The promises and the definition: a step and a run are it, for any number of symbols, and two runs one after the other are one. Assumes nothing.
use mathlib.Core.Path.{◌≡◌, refl, sym, ap, ap₂, ◌∙◌, subst}
use mathlib.Core.Bool.{true, not}
use mathlib.Core.List.{List, [], ◌∷◌, ◌++◌}
use Prim.Native.Nat.{ℕ, ◌+◌}
use borrow.Author.Tests.{eqb-true, eq-eqb, not-false}
use lib.Dec.{eqb, leb}
use lib.ListN.{length, length-append}
use Rattle.std.specs.Prelude.{Ok}
use Rattle.answer.specs.Answer.{refuse}
use Rattle.answer.proofs.Laws.{none}
use Rattle.octets.proofs.Digits.{Bits, nil-bits, digits-bits}
use Rattle.ranges.proofs.Laws.{both}
use Rattle.symbol.specs.declared.Encoder.{Encoder}
use Rattle.symbol.specs.declared.Step.{Step}
use Rattle.symbol.specs.Encoder.{x1, code_of, codes_of, sent_after, register_of, held_in, encoder_in, symbols_in, with_register, start_of, Stepped, Ran}
use Rattle.symbol.proofs.Sent.{Agree, agree-kept, held-sent, sent-bits, code_agree, register-agree, codes-joined, sent-joined}
use Rattle.symbol.proofs.Sent.{codes-from-register, register-from-register}

-- what a run that was not refused has shown and written
pub record Done (e : Encoder) (symbols codes : List ℕ) (n : Encoder) (codes' : List ℕ) : Type 0 where
  pub lengths : length codes ≡ length symbols
  pub in-range : encoder_in e ≡ true
  pub symbols-in : symbols_in symbols ≡ true
  pub written : codes' ≡ codes_of e.a e.b (held_in e.register) symbols
  pub next : n ≡ with_register e (register_of (sent_after (held_in e.register) symbols))

pub done : (e : Encoder) (symbols codes : List ℕ) (n : Encoder) (codes' : List ℕ) → Ran e symbols codes (Ok n) codes' → Done e symbols codes n codes'
done e symbols codes n codes' p =
    let first = none 0 (not (eqb (length codes) (length symbols))) (refuse 4 (not (encoder_in e)) ∷ refuse 4 (not (symbols_in symbols)) ∷ [])
    (sym p.answered) in
    let second = none 3 (not (encoder_in e)) (refuse 4 (not (symbols_in symbols)) ∷ []) first.1 in
    let third = none 3 (not (symbols_in symbols)) [] second.1 in
    record {
      lengths = eqb-true (length codes) (length symbols) (not-false _ first.0);
      in-range = not-false _ second.0;
      symbols-in = not-false _ third.0;
      written = p.written;
      next = p.next;
    }

symbols-joined : (first second : List ℕ) → symbols_in first ≡ true → symbols_in second ≡ true → symbols_in (first ++ second) ≡ true
unfolding symbols_in
symbols-joined [] second p q = q
symbols-joined (s ∷ first) second p q =
    let h = both (leb s 7) (symbols_in first) p in
    rw h.0 (symbols-joined first second h.1 q)

-- two runs, the second from the state that the first handed back, are one run of the joined symbols
pub joined : (e : Encoder) (first second codes more : List ℕ) (n last : Encoder) (codes' more' : List ℕ)
    → Ran e first codes (Ok n) codes' → Ran n second more (Ok last) more' → Ran e (first ++ second) (codes ++ more) (Ok last) (codes' ++ more')
joined e first second codes more n last codes' more' p q =
    let f = done e first codes n codes' p in
    let g = done n second more last more' q in
    let earlier = held_in e.register in
    let bits = sent-bits earlier first (digits-bits 20 e.register) in
    let h : Done (with_register e (register_of (sent_after earlier first))) second more last more' = subst (λ (x : Encoder). Done x second more last more')
    f.next g in
    let lengths : length (codes ++ more) ≡ length (first ++ second) =
    length-append codes more ∙ ap₂ (λ (m n : ℕ). m + n) f.lengths h.lengths ∙ sym (length-append first second) in
    record {
      answered = sym
          (rw (eq-eqb (length (codes ++ more)) (length (first ++ second)) lengths, f.in-range, symbols-joined first second f.symbols-in h.symbols-in));
      written = ap₂ (λ (x y : List ℕ). x ++ y) f.written (h.written ∙ codes-from-register e.a e.b (sent_after earlier first) second bits)
          ∙ sym (codes-joined e.a e.b earlier first second);
      next = h.next
          ∙ ap (with_register e) (register-from-register (sent_after earlier first) second bits ∙ ap register_of (sym (sent-joined earlier first second)));
    }

-- a step from a register that holds the last twenty X1 is the definition over all that was sent
pub step_is : (e : Encoder) (sent : List ℕ) (symbol : ℕ) (s : Step) → Bits sent → e.register ≡ register_of sent → Stepped e symbol (Ok s)
    → (s.code ≡ code_of e.a e.b sent symbol) × (s.next ≡ with_register e (register_of (x1 symbol ∷ sent)))
step_is e sent symbol s bits h p =
    let agree : Agree 20 (held_in e.register) sent = rw h (held-sent sent bits) in (
      p.sent.code ∙ code_agree e.a e.b (held_in e.register) sent symbol agree,
      p.sent.next ∙ ap (with_register e) (register-agree (x1 symbol ∷ held_in e.register) (x1 symbol ∷ sent)
          (agree-kept 20 (x1 symbol) (held_in e.register) sent agree)),
    )

-- and so is a run, for any number of symbols
pub run_is : (e : Encoder) (sent symbols codes : List ℕ) (n : Encoder) (codes' : List ℕ) → Bits sent → e.register ≡ register_of sent
    → Ran e symbols codes (Ok n) codes' → (codes' ≡ codes_of e.a e.b sent symbols) × (n ≡ with_register e (register_of (sent_after sent symbols)))
run_is e sent symbols codes n codes' bits h p = (
  p.written ∙ ap (λ (r : ℕ). codes_of e.a e.b (held_in r) symbols) h ∙ codes-from-register e.a e.b sent symbols bits,
  p.next ∙ ap (with_register e) (ap (λ (r : ℕ). register_of (sent_after (held_in r) symbols)) h ∙ register-from-register sent symbols bits),
)

-- from the start, before which no X1 was sent
pub from_start : (a b : ℕ) (symbols codes : List ℕ) (n : Encoder) (codes' : List ℕ)
    → Ran (start_of a b) symbols codes (Ok n) codes' → codes' ≡ codes_of a b [] symbols
from_start a b symbols codes n codes' p = (run_is (start_of a b) [] symbols codes n codes' nil-bits refl p).0
