-- A written message reads back as itself, octets that read with 0 are the written form of what they give, and so every message has one form.
-- Assumes nothing.
use mathlib.Core.Path.{◌≡◌, sym, ap, ap₂, ◌∙◌, subst}
use mathlib.Core.Bool.{true, false, not, ◌&&◌}
use mathlib.Core.List.{List, [], ◌∷◌, ◌++◌}
use Prim.Native.Nat.{ℕ, zero, suc, ◌+◌, ◌-◌, ◌≤◌, ◌<◌}
use native.Mathlib.Nat.{div-add-mod'}
use native.Mathlib.Omega.{arith}
use borrow.Author.Tests.{leb-true, le-leb, eqb-true, eq-eqb, not-true, not-false}
use lib.Arith.{digits_div, digits_mod}
use lib.Dec.{eqb, leb}
use lib.ListN.{length, get_or, take, drop, length-append, length-take, length-drop, take-append-drop}
use lib.Seq.{take_all, take-suc, drop-cons, get_or-take, get_or_at, take_at, drop_at, ext_get_or}
use Rattle.answer.specs.Answer.{answer}
use Rattle.answer.proofs.Laws.{none, passed}
use Rattle.answer.proofs.Order.{both}
use Rattle.octets.proofs.Laws.{Octets}
use Rattle.octets.proofs.Whole.{take-octets, drop-octets}
use Rattle.fcs.specs.Sequence.{sequence_of}
use Rattle.fcs.proofs.Laws.{sequence-length}
use Rattle.eoc.specs.Message.{Message, Lawful, addresses, body_most, body_of, fields_of, flag, escaped, framed, written}
use Rattle.eoc.specs.Reading.{between, among, is_between_flags, other_escape, unescaped, fields_in, body_in, sequence_in, is_length}
use Rattle.eoc.specs.Reading.{same_pair, is_checked, message_of, message_in}
use Rattle.eoc.specs.Refusals.{form_refusals}
use Rattle.eoc.proofs.Escapes.{escaped-no-flag, escaped-no-other, unescaped-escaped, escaped-unescaped, unescaped-octets}

-- ---- two flags

pub between-framed : (s : List ℕ) → between (framed s) ≡ s
between-framed s = take_at s (flag ∷ []) (length (framed s) - 2) (omega (arith, length-append s (flag ∷ [])))

pub framed_is : (s : List ℕ) → among flag s ≡ false → is_between_flags (framed s) ≡ true
framed_is s e =
    let l = length-append s (flag ∷ []) in
    ap₂ ◌&&◌ (le-leb 2 (length (framed s)) (omega arith))
    (ap₂ ◌&&◌ (eq-eqb (get_or (framed s) (length (framed s) - 1) 0) flag (get_or_at (flag ∷ s) flag [] 0 (length (framed s) - 1) (omega arith)))
    (ap (λ (l : List ℕ). not (among flag l)) (between-framed s) ∙ ap not e))

-- what the test of the flags says
pub framed-tests : (s : List ℕ) → is_between_flags s ≡ true
    → (2 ≤ length s) × (get_or s 0 0 ≡ flag) × (get_or s (length s - 1) 0 ≡ flag) × (among flag (between s) ≡ false)
framed-tests s e =
    let a = both (leb 2 (length s)) _ e in
    let b = both (eqb (get_or s 0 0) flag) _ a.1 in
    let c = both (eqb (get_or s (length s - 1) 0) flag) (not (among flag (between s))) b.1 in
    (leb-true 2 (length s) a.0, eqb-true (get_or s 0 0) flag b.0, eqb-true (get_or s (length s - 1) 0) flag c.0, not-true (among flag (between s)) c.1)

ends : (s : List ℕ) → 2 ≤ length s → get_or s 0 0 ≡ flag → get_or s (length s - 1) 0 ≡ flag → framed (between s) ≡ s
ends [] h f l = absurd (omega arith)
ends (o ∷ s) h f l =
    let j = length (o ∷ s) - 2 in
    let q : length (o ∷ s) - 1 ≡ suc j = omega arith in
    let z : get_or s j 0 ≡ flag = subst (λ (k : ℕ). get_or (o ∷ s) k 0 ≡ flag) q l in
    ap₂ (λ (x : ℕ) (r : List ℕ). x ∷ r) (sym f)
    (ap (λ (x : ℕ). take j s ++ (x ∷ [])) (sym z) ∙ sym (take-suc s j 0 (omega arith)) ∙ take_all (suc j) s (omega arith))

pub framed-between : (s : List ℕ) → is_between_flags s ≡ true → framed (between s) ≡ s
framed-between s e = let t = framed-tests s e in ends s t.0 t.1 t.2

-- ---- the body and the check sequence

module _ (body check : List ℕ) (two : length check ≡ 2) where
  seam : length body ≡ length (body ++ check) - 2
  seam = omega (arith, length-append body check)

  body-joined : body_in (body ++ check) ≡ body
  body-joined = take_at body check (length (body ++ check) - 2) seam

  sequence-joined : sequence_in (body ++ check) ≡ check
  sequence-joined = drop_at body check (length (body ++ check) - 2) seam

same-pair : (a b : List ℕ) → length a ≡ 2 → length b ≡ 2 → same_pair a b ≡ true → a ≡ b
same-pair a b h l e = ext_get_or 0 a b (h ∙ sym l) at
  where
    tests : (eqb (get_or a 0 0) (get_or b 0 0) ≡ true) × (eqb (get_or a 1 0) (get_or b 1 0) ≡ true)
    tests = both (eqb (get_or a 0 0) (get_or b 0 0)) (eqb (get_or a 1 0) (get_or b 1 0)) e

    at : (i : ℕ) → i < length a → get_or a i 0 ≡ get_or b i 0
    at zero k = eqb-true (get_or a 0 0) (get_or b 0 0) tests.0
    at (suc zero) k = eqb-true (get_or a 1 0) (get_or b 1 0) tests.1
    at (suc (suc i)) k = absurd (omega arith)

pair_same : (a b : List ℕ) → a ≡ b → same_pair a b ≡ true
pair_same a b e =
    ap₂ ◌&&◌ (eq-eqb (get_or a 0 0) (get_or b 0 0) (ap (λ (l : List ℕ). get_or l 0 0) e)) (eq-eqb (get_or a 1 0) (get_or b 1 0) (ap (λ (l : List ℕ). get_or l 1 0) e))

-- ---- a message and its fields

module _ (m : Message) where
  fields-body : body_in (fields_of m) ≡ body_of m
  fields-body = body-joined (body_of m) (sequence_of (body_of m)) (sequence-length (body_of m))

  pub fields-length : length (fields_of m) ≡ length m.contents + 4
  fields-length = omega (arith, length-append (body_of m) (sequence_of (body_of m)), sequence-length (body_of m))

  pub fields-checked : is_checked (fields_of m) ≡ true
  fields-checked =
      pair_same (sequence_in (fields_of m)) (sequence_of (body_in (fields_of m)))
      (sequence-joined (body_of m) (sequence_of (body_of m)) (sequence-length (body_of m)) ∙ ap sequence_of (sym fields-body))

  -- the fields give the message
  pub message-fields : Lawful m → message_of (fields_of m) ≡ m
  message-fields l i =
      record {
        source = digits_div m.source l.destination_fits i;
        destination = digits_mod m.source l.destination_fits i;
        number = m.number;
        contents = drop 2 (fields-body i);
      }

module _ (os : List ℕ) where
  body-message : 4 ≤ length os → body_of (message_of os) ≡ body_in os
  body-message h =
      let b = body_in os in
      let l : 2 ≤ length b = omega (arith, length-take (length os - 2) os) in
      ap₂ (λ (x y : ℕ). x ∷ y ∷ drop 2 b)
      (div-add-mod' (get_or os 0 0) addresses ∙ sym (get_or-take (length os - 2) os 0 0 (omega arith))) (sym (get_or-take (length os - 2) os 1 0 (omega arith)))
      ∙ ap (λ (r : List ℕ). get_or b 0 0 ∷ r) (sym (drop-cons b 1 0 (omega arith))) ∙ sym (drop-cons b 0 0 (omega arith))

  -- the message gives the fields
  pub fields-message : 4 ≤ length os → is_checked os ≡ true → fields_of (message_of os) ≡ os
  fields-message h c =
      let b = body-message h in
      let s = same-pair (sequence_in os) (sequence_of (body_in os)) (omega (arith, length-drop (length os - 2) os)) (sequence-length (body_in os)) c in
      ap₂ ◌++◌ b (ap sequence_of b ∙ sym s) ∙ take-append-drop (length os - 2) os

  pub message-lawful : Octets os → length os ≤ body_most + 2 → Lawful (message_of os)
  message-lawful o h =
      record {
        source_fits = omega (arith, o 0);
        destination_fits = omega arith;
        number_fits = o 1;
        contents_fit = omega (arith, length-drop 2 (body_in os), length-take (length os - 2) os);
        octets = drop-octets 2 (body_in os) (take-octets (length os - 2) os o);
      }

-- ---- the answer spelled out

-- 2 to 75 octets and the check sequence are taken
length-is : (os : List ℕ) → 4 ≤ length os → length os ≤ body_most + 2 → is_length os ≡ true
length-is os h l = ap₂ ◌&&◌ (le-leb 4 (length os) h) (le-leb (length os - 2) body_most (omega arith))

-- and no others
length-tests : (os : List ℕ) → is_length os ≡ true → (4 ≤ length os) × (length os ≤ body_most + 2)
length-tests os e =
    let t = both (leb 4 (length os)) (leb (length os - 2) body_most) e in
    let most = leb-true (length os - 2) body_most t.1 in
    (leb-true 4 (length os) t.0, omega arith)

-- what 0 says of a form
pub record Sound (s : List ℕ) : Type 0 where
  pub is_framed : is_between_flags s ≡ true
  pub no_other : other_escape (between s) ≡ false
  pub long-enough : 4 ≤ length (fields_in s)
  pub short-enough : length (fields_in s) ≤ body_most + 2
  pub is-checked : is_checked (fields_in s) ≡ true

pub sound-form : (s : List ℕ) → answer (form_refusals s) ≡ 0 → Sound s
sound-form s e =
    let R = form_refusals s in
    let a = none 9 (not (is_between_flags s)) (drop 1 R) e in
    let b = none 10 (other_escape (between s)) (drop 2 R) a.1 in
    let c = none 11 (not (is_length (fields_in s))) (drop 3 R) b.1 in
    let d = none 6 (not (is_checked (fields_in s))) [] c.1 in
    let l = length-tests (fields_in s) (not-false (is_length (fields_in s)) c.0) in
    record {
      is_framed = not-false (is_between_flags s) a.0;
      no_other = b.0;
      long-enough = l.0;
      short-enough = l.1;
      is-checked = not-false (is_checked (fields_in s)) d.0;
    }

-- nothing more is asked
pub sound-answer : (s : List ℕ) → Sound s → answer (form_refusals s) ≡ 0
sound-answer s f =
    let R = form_refusals s in
    let l = length-is (fields_in s) f.long-enough f.short-enough in
    passed 10 (drop 1 R) (ap not f.is_framed) ∙ passed 11 (drop 2 R) f.no_other ∙ passed 12 (drop 3 R) (ap not l)
    ∙ passed 7 [] (ap not f.is-checked)

-- ---- there and back

-- a written form gives the fields
pub fields-written : (m : Message) → fields_in (written m) ≡ fields_of m
fields-written m = ap unescaped (between-framed (escaped (fields_of m))) ∙ unescaped-escaped (fields_of m)

written-sound : (m : Message) → Lawful m → Sound (written m)
written-sound m l =
    let n : length (fields_in (written m)) ≡ length m.contents + 4 = ap length (fields-written m) ∙ fields-length m in
    record {
      is_framed = framed_is (escaped (fields_of m)) (escaped-no-flag (fields_of m));
      no_other = ap other_escape (between-framed (escaped (fields_of m))) ∙ escaped-no-other (fields_of m);
      long-enough = omega arith;
      short-enough = omega (arith, l.contents_fit);
      is-checked = ap is_checked (fields-written m) ∙ fields-checked m;
    }

-- what is written reads with 0, and as what it was
pub reads-back : (m : Message) → Lawful m → (answer (form_refusals (written m)) ≡ 0) × (message_in (written m) ≡ m)
reads-back m l = (sound-answer (written m) (written-sound m l), ap message_of (fields-written m) ∙ message-fields m l)

-- octets that read with 0 are, octet for octet, the written form of what they give
pub writes-back : (s : List ℕ) → Octets s → answer (form_refusals s) ≡ 0 → Lawful (message_in s) × (written (message_in s) ≡ s)
writes-back s o e =
    let f = sound-form s e in
    let b = between s in
    let octets : Octets (fields_in s) = unescaped-octets b (take-octets (length s - 2) (drop 1 s) (drop-octets 1 s o)) in
    let fields : fields_of (message_in s) ≡ fields_in s = fields-message (fields_in s) f.long-enough f.is-checked in
    let inside : escaped (fields_in s) ≡ b = escaped-unescaped b (framed-tests s f.is_framed).3 f.no_other in
    let whole : written (message_in s) ≡ s = ap (λ (os : List ℕ). framed (escaped os)) fields ∙ ap framed inside ∙ framed-between s f.is_framed in
    (message-lawful (fields_in s) octets f.short-enough, whole)

-- different messages have different forms
pub one_form : (m n : Message) → Lawful m → Lawful n → written m ≡ written n → m ≡ n
one_form m n l k e = sym (reads-back m l).1 ∙ ap message_in e ∙ (reads-back n k).1
