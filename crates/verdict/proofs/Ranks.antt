-- Every card has one verdict, and what a match and a refusal mean. Assumes nothing.
use mathlib.Core.Path.{◌≡◌, refl, ap, ◌∙◌}
use mathlib.Core.Bool.{Bool, true, false, cond, ◌&&◌, ◌||◌}
use mathlib.Core.List.{List, [], ◌∷◌}
use Prim.Native.Nat.{ℕ, zero, suc, ◌≤◌}
use native.Mathlib.Omega.{arith}
use borrow.Author.Tests.{eq-eqb, eqb-true, ltb-true, ltb-false}
use lib.Dec.{eqb, ltb, lit≤}
use Rattle.answer.specs.Answer.{Refusal, answer}
use Rattle.octets.specs.Bits.{value_of, bits_of}
use Rattle.layout.specs.Places.{a_field, b_field}
use Rattle.layout.specs.Frame.{training_sync, field_of}
use Rattle.layout.specs.Refusals.{has_sync, check_refusals}
use Rattle.verdict.specs.declared.Customer.{Customer}
use Rattle.card.specs.Ranks.{same_word, last_refusal, final_frame, matching, good, unreadable}
use Rattle.verdict.specs.Ranks.{refused_rank, training_rank, final_rank}
use Rattle.verdict.specs.Verdict.{last_first, like_of, octets_of, refused_verdict, training_verdict, final_verdict, judged, verdict_of}

-- either number
either : (b : Bool) (x y m : ℕ) → x ≤ m → y ≤ m → cond b x y ≤ m
either true x y m h l = h
either false x y m h l = l

-- ---- one of the verdicts

refused-within : (n : ℕ) → refused_rank n ≤ last_refusal
refused-within n = pick (ltb last_refusal n) refl
  where
    pick : (b : Bool) → ltb last_refusal n ≡ b → cond b 0 n ≤ last_refusal
    pick true e = lit≤ tt
    pick false e = ltb-false last_refusal n e

training-within : (a b : ℕ) → training_rank a b ≤ good
training-within a b =
    either (eqb a 0) _ _ good (lit≤ tt)
    (either (eqb a 2 || eqb b 2) _ _ good (lit≤ tt) (either (eqb a 1 && eqb b 1) _ _ good (lit≤ tt) (lit≤ tt)))

judged-within : (n o : ℕ) (bits : List ℕ) (k : Customer) → (judged n o bits k).rank ≤ good
unfolding judged
judged-within zero o bits k = pick (has_sync training_sync bits)
  where
    pick : (t : Bool) → (cond t (training_verdict o bits k) (final_verdict o bits k)).rank ≤ good
    pick true = training-within (like_of k.given (value_of (field_of a_field bits)) k.a) (like_of k.given (value_of (field_of b_field bits)) k.b)
    pick false = either k.given final_frame good good (lit≤ tt) (lit≤ tt)
judged-within (suc n) o bits k = omega (arith, refused-within (suc n))

pub within : (frame : List ℕ) (k : Customer) → (verdict_of frame k).rank ≤ good
unfolding verdict_of
within frame k = judged-within (answer (check_refusals frame)) (octets_of frame) (bits_of frame) k

pub unread-within : (k : Customer) → (refused_verdict unreadable 0 k).rank ≤ good
unread-within k = lit≤ tt

-- ---- a refused frame's verdict is the answer that refuses it

-- whether a list's checks answer no more than that
abbrev Small : List Refusal → Type 0
Small [] = Unit {0}
Small (t ∷ ts) = (t.number ≤ last_refusal) × Small ts

small : (ts : List Refusal) → Small ts → answer ts ≤ last_refusal
small [] h = lit≤ tt
small (t ∷ ts) h = either t.applies t.number (answer ts) last_refusal h.0 (small ts h.1)

pub refused-is-answer : (frame : List ℕ) (k : Customer) → (answer (check_refusals frame) ≡ 0 → ⊥) → (verdict_of frame k).rank ≡ answer (check_refusals frame)
unfolding verdict_of judged
refused-is-answer frame k h = go (answer (check_refusals frame)) h (small (check_refusals frame) (lit≤ tt, (lit≤ tt, (lit≤ tt, (lit≤ tt, tt)))))
  where
    keep : (n : ℕ) → n ≤ last_refusal → (b : Bool) → ltb last_refusal n ≡ b → cond b 0 n ≡ n
    keep n l true e = absurd (omega (arith, ltb-true last_refusal n e))
    keep n l false e = refl

    go : (n : ℕ) → (n ≡ 0 → ⊥) → n ≤ last_refusal → (judged n (octets_of frame) (bits_of frame) k).rank ≡ n
    go zero h l = absurd (h refl)
    go (suc n) h l = keep (suc n) l (ltb last_refusal (suc n)) refl

-- ---- a match, exactly: the frame reads, is a training frame, and A and B are the customer's

module _ (given : Bool) (x y : ℕ) where
  same-means : like_of given x y ≡ same_word → (given ≡ true) × (x ≡ y)
  same-means = pick given refl (eqb x y) refl
    where
      other : (t : Bool) → cond t 2 3 ≡ same_word → ⊥
      other true e = omega arith
      other false e = omega arith

      pick : (g : Bool) → given ≡ g → (b : Bool) → eqb x y ≡ b → cond g (cond b 1 (cond (eqb x (last_first y)) 2 3)) 0 ≡ same_word → (given ≡ true) × (x ≡ y)
      pick true f true e p = (f, eqb-true x y e)
      pick true f false e p = absurd (other (eqb x (last_first y)) p)
      pick false f b e p = absurd (omega arith)

-- both words are the same where the verdict of a training frame is a match
both-same : (a b : ℕ) → training_rank a b ≡ matching → (a ≡ same_word) × (b ≡ same_word)
both-same a b = go (eqb a 0) (eqb a 2 || eqb b 2) (eqb a 1) refl (eqb b 1) refl
  where
    go : (p q s : Bool) → eqb a 1 ≡ s → (t : Bool) → eqb b 1 ≡ t → cond p 20 (cond q 17 (cond (s && t) 19 18)) ≡ matching → (a ≡ 1) × (b ≡ 1)
    go true q s es t et h = absurd (omega arith)
    go false true s es t et h = absurd (omega arith)
    go false false true es true et h = (eqb-true a 1 es, eqb-true b 1 et)
    go false false true es false et h = absurd (omega arith)
    go false false false es t et h = absurd (omega arith)

-- what a match says
pub record Match (frame : List ℕ) (k : Customer) : Type 0 where
  pub reads : answer (check_refusals frame) ≡ 0
  pub training : has_sync training_sync (bits_of frame) ≡ true
  pub customer : k.given ≡ true
  pub word-a : value_of (field_of a_field (bits_of frame)) ≡ k.a
  pub word-b : value_of (field_of b_field (bits_of frame)) ≡ k.b

pub match-means : (frame : List ℕ) (k : Customer) → (verdict_of frame k).rank ≡ matching → Match frame k
unfolding verdict_of judged
match-means frame k = go (answer (check_refusals frame)) refl
  where
    B : List ℕ
    B = bits_of frame

    final-not : (g : Bool) → final_rank g ≡ matching → ⊥
    final-not true e = omega arith
    final-not false e = omega arith

    words : answer (check_refusals frame) ≡ 0 → (t : Bool) → has_sync training_sync B ≡ t
        → (cond t (training_verdict (octets_of frame) B k) (final_verdict (octets_of frame) B k)).rank ≡ matching → Match frame k
    words z true e h =
        let l = both-same _ _ h in
        let a = same-means k.given (value_of (field_of a_field B)) k.a l.0 in
        record { reads = z; training = e; customer = a.0; word-a = a.1; word-b = (same-means k.given (value_of (field_of b_field B)) k.b l.1).1 }
    words z false e h = absurd (final-not k.given h)

    go : (n : ℕ) → answer (check_refusals frame) ≡ n → (judged n (octets_of frame) B k).rank ≡ matching → Match frame k
    go zero z h = words z (has_sync training_sync B) refl h
    go (suc n) z h = absurd (omega (arith, refused-within (suc n)))

pub match_is : (frame : List ℕ) (k : Customer) → Match frame k → (verdict_of frame k).rank ≡ matching
unfolding verdict_of judged
match_is frame k m =
    ap (λ (n : ℕ). (judged n (octets_of frame) (bits_of frame) k).rank) m.reads
    ∙ ap (λ (t : Bool). (cond t (training_verdict (octets_of frame) (bits_of frame) k) (final_verdict (octets_of frame) (bits_of frame) k)).rank) m.training
    ∙ simp (m.customer, eq-eqb _ _ m.word-a, eq-eqb _ _ m.word-b)
