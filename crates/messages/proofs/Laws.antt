-- Laws of a channel's flags and of what is told of a message. Assumes nothing.
use mathlib.Core.Path.{◌≡◌, refl, sym, ap, ◌∙◌}
use mathlib.Core.Bool.{Bool, true, false, cond, ◌&&◌}
use mathlib.Core.List.{List, [], ◌∷◌, ◌++◌, append-nil, append_assoc}
use Prim.Native.Nat.{ℕ, suc, ◌+◌, ◌≤◌, ◌<◌}
use native.Mathlib.Numerals.{add-one}
use native.Mathlib.Omega.{arith}
use borrow.Author.Tests.{eq-eqb, ne_eqb, eqb-true}
use lib.Dec.{eqb}
use lib.ListN.{length, get_or, take, drop, length-drop}
use lib.Seq.{get_or-drop}
use Rattle.std.specs.Prelude.{Result, Ok, Err, IfOk}
use Rattle.std.proofs.lemmas.Result.{IfOk-at_ok}
use Rattle.answer.specs.Answer.{answer}
use Rattle.answer.specs.declared.Refused.{Refused}
use Rattle.answer.specs.Given.{answer_of}
use Rattle.answer.proofs.Given.{refused-number}
use Rattle.eoc.specs.Message.{flag}
use Rattle.eoc.specs.Reading.{message_in}
use Rattle.eoc.specs.Refusals.{form_refusals}
use Rattle.eoc.specs.Addresses.{is_meant}
use Rattle.eoc.specs.Channel.{behind_flag, before, pieces_from}
use Rattle.messages.specs.Messages.{up_to_flag, flag_from, is_good, is_taken}

-- ---- where the next flag stands

-- none in no octets; at the first; behind the first
pub none-there : up_to_flag [] ≡ 0
unfolding up_to_flag
none-there = refl

pub flag-first : (o : ℕ) (os : List ℕ) → o ≡ flag → up_to_flag (o ∷ os) ≡ 0
unfolding up_to_flag
flag-first o os e = simp (eq-eqb o flag e)

pub flag-later : (o : ℕ) (os : List ℕ) → (o ≡ flag → ⊥) → up_to_flag (o ∷ os) ≡ up_to_flag os + 1
unfolding up_to_flag
flag-later o os n = simp (ne_eqb o flag n) (sym (add-one (up_to_flag os)))

up-to-within : (l : List ℕ) → up_to_flag l ≤ length l
unfolding up_to_flag
up-to-within [] = omega arith
up-to-within (o ∷ os) = pick (eqb o flag) (up-to-within os)
  where
    pick : (b : Bool) → up_to_flag os ≤ length os → cond b 0 (suc (up_to_flag os)) ≤ suc (length os)
    pick true h = omega arith
    pick false h = omega arith

-- within the channel
pub flag-within : (s : List ℕ) (at : ℕ) → at ≤ length s → flag_from s at ≤ length s
flag-within s at h = omega (arith, up-to-within (drop at s), length-drop at s)

up-to-flag : (l : List ℕ) → up_to_flag l < length l → get_or l (up_to_flag l) 0 ≡ flag
unfolding up_to_flag
up-to-flag [] h = absurd (omega arith)
up-to-flag (o ∷ os) h = pick (eqb o flag) refl (up-to-flag os) h
  where
    pick : (b : Bool) → eqb o flag ≡ b → (up_to_flag os < length os → get_or os (up_to_flag os) 0 ≡ flag) → cond b 0 (suc (up_to_flag os)) < suc (length os)
        → get_or (o ∷ os) (cond b 0 (suc (up_to_flag os))) 0 ≡ flag
    pick true e rest h = eqb-true o flag e
    pick false e rest h = rest (omega arith)

-- and a flag stands there
pub flag-stands : (s : List ℕ) (at : ℕ) → flag_from s at < length s → get_or s (flag_from s at) 0 ≡ flag
flag-stands s at h = sym (get_or-drop at s (up_to_flag (drop at s)) 0) ∙ up-to-flag (drop at s) (omega (arith, length-drop at s))

-- ---- pieces, by where the next flag stands

pub behind-drop : (s : List ℕ) → behind_flag s ≡ drop (suc (up_to_flag s)) s
unfolding behind_flag up_to_flag
behind-drop [] = refl
behind-drop (o ∷ os) = pick (eqb o flag) (behind-drop os)
  where
    pick : (b : Bool) → behind_flag os ≡ drop (suc (up_to_flag os)) os → cond b os (behind_flag os) ≡ drop (suc (cond b 0 (suc (up_to_flag os)))) (o ∷ os)
    pick true e = refl
    pick false e = e

-- what stands before it is one
pub piece-next : (begun s : List ℕ) → up_to_flag s < length s
    → pieces_from begun s ≡ before (begun ++ take (up_to_flag s) s) (pieces_from [] (drop (suc (up_to_flag s)) s))
unfolding pieces_from up_to_flag
piece-next begun [] h = absurd (omega arith)
piece-next begun (o ∷ os) h = pick (eqb o flag) (piece-next (begun ++ (o ∷ [])) os) h
  where
    pick : (b : Bool)
        → (up_to_flag os < length os
        → pieces_from (begun ++ (o ∷ [])) os ≡ before ((begun ++ (o ∷ [])) ++ take (up_to_flag os) os) (pieces_from [] (drop (suc (up_to_flag os)) os)))
        → cond b 0 (suc (up_to_flag os)) < suc (length os)
        → cond b (before begun (pieces_from [] os)) (pieces_from (begun ++ (o ∷ [])) os)
        ≡ before (begun ++ take (cond b 0 (suc (up_to_flag os))) (o ∷ os)) (pieces_from [] (drop (suc (cond b 0 (suc (up_to_flag os)))) (o ∷ os)))
    pick true rest h = ap (λ (l : List ℕ). before l (pieces_from [] os)) (sym (append-nil begun))
    pick false rest h =
        rest (omega arith)
        ∙ ap (λ (l : List ℕ). before l (pieces_from [] (drop (suc (up_to_flag os)) os))) (append_assoc begun (o ∷ []) (take (up_to_flag os) os))

-- where there is none there is no piece
pub piece-none : (begun s : List ℕ) → length s ≤ up_to_flag s → pieces_from begun s ≡ []
unfolding pieces_from up_to_flag
piece-none begun [] h = refl
piece-none begun (o ∷ os) h = pick (eqb o flag) (piece-none (begun ++ (o ∷ [])) os) h
  where
    pick : (b : Bool) → (length os ≤ up_to_flag os → pieces_from (begun ++ (o ∷ [])) os ≡ []) → suc (length os) ≤ cond b 0 (suc (up_to_flag os))
        → cond b (before begun (pieces_from [] os)) (pieces_from (begun ++ (o ∷ [])) os) ≡ []
    pick true rest h = absurd (omega arith)
    pick false rest h = rest (omega arith)

-- ---- what is told of a message

-- it is good, and a unit takes it that its destination means
pub told-ok : (s : List ℕ) (r : Result ℕ Refused) (d own : ℕ) → r ≡ Ok d → answer_of r ≡ answer (form_refusals s)
    → IfOk r (λ n. n ≡ (message_in s).destination) → (true ≡ is_good s) × (is_meant own d ≡ is_taken own s)
told-ok s r d own h e t =
    let g : is_good s ≡ true = eq-eqb _ 0 (sym e ∙ ap answer_of h) in
    (sym g, ap (is_meant own) (IfOk-at_ok _ h t) ∙ sym (ap (λ (b : Bool). b && is_meant own (message_in s).destination) g))

-- it is refused
pub told-err : (s : List ℕ) (r : Result ℕ Refused) (why : Refused) (own : ℕ) → r ≡ Err why → answer_of r ≡ answer (form_refusals s)
    → (false ≡ is_good s) × (false ≡ is_taken own s)
told-err s r why own h e =
    let n = refused-number why in
    let g : is_good s ≡ false = ne_eqb _ 0 (λ z. absurd (omega (arith, sym (ap answer_of h) ∙ e ∙ z))) in
    (sym g, sym (ap (λ (b : Bool). b && is_meant own (message_in s).destination) g))
