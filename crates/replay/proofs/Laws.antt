-- Laws of a log's lines and of what is followed. Assumes nothing.
use mathlib.Core.Path.{◌≡◌, refl, sym, ap, subst, ◌∙◌}
use mathlib.Core.Bool.{Bool, true, false, cond}
use mathlib.Core.List.{List, [], ◌∷◌}
use Prim.Native.Nat.{ℕ, zero, suc, ◌+◌, ◌-◌, ◌≤◌, ◌<◌}
use native.Mathlib.Omega.{arith}
use borrow.Author.Tests.{eq-eqb, ne_eqb}
use lib.Dec.{eqb}
use lib.ListN.{length, take, drop, length-drop, drop_of_length-le}
use lib.Seq.{drop-drop}
use Rattle.std.specs.Prelude.{Result, Ok, Err}
use Rattle.answer.specs.declared.Refused.{Refused as No}
use Rattle.answer.specs.Given.{number_of}
use Rattle.answer.proofs.Given.{refused-number}
use Rattle.startlog.specs.Lines.{Line, line, line_of, up_to_end, end_of}
use Rattle.replay.specs.declared.Stop.{Stop}
use Rattle.replay.specs.declared.Stop.TheVariants.{Unwritten, Refused}
use Rattle.story.specs.declared.Story.{Story}
use Rattle.story.specs.Events.{Event}
use Rattle.story.specs.Events.{refused_with, event_of}
use Rattle.replay.specs.Replay.{Ending, repeated, followed, onto, lines_of, ending, ending_from, Follows, EndsSo}

-- ---- a code that comes again and again

pub repeat-stop : (c n : ℕ) (e e' : Event) → e' ≡ event_of e.story c → (e'.answer ≡ 0 → ⊥) → 0 < n → e' ≡ repeated c n e
unfolding repeated
repeat-stop c zero e e' q h i = absurd (omega arith)
repeat-stop c (suc n) e e' q h i = go e' (event_of e.story c) q h
  where
    go : (x y : Event) → x ≡ y → (x.answer ≡ 0 → ⊥) → x ≡ cond (eqb y.answer 0) (repeated c n y) y
    go x y p k = p ∙ sym (ap (λ (b : Bool). cond b (repeated c n y) y) (ne_eqb y.answer 0 (λ z. k (ap (λ (v : Event). v.answer) p ∙ z))))

-- two events after which a story goes on alike
pub record Alike (e e' : Event) : Type 0 where
  pub answer : e.answer ≡ e'.answer
  pub story : e.story ≡ e'.story

-- one more time
pub repeat-more : (c n m : ℕ) (e e' : Event) → event_of e.story c ≡ e' → e'.answer ≡ 0 → n ≡ suc m
    → Alike (repeated c m (refused_with e'.story 0)) (repeated c n e)
unfolding repeated
repeat-more c n m e e' q z i =
    subst (Alike (repeated c m (refused_with e'.story 0))) (sym (ap (λ (k : ℕ). repeated c k e) i ∙ ap (λ (x : Event). cond (eqb x.answer 0) (repeated c m x) x) q
    ∙ ap (λ (b : Bool). cond b (repeated c m e') e') (eq-eqb e'.answer 0 z)))
    (alike m)
  where
    alike : (m : ℕ) → Alike (repeated c m (refused_with e'.story 0)) (repeated c m e')
    alike zero = record { answer = sym z; story = refl }
    alike (suc m) = record { answer = refl; story = refl }

pub alike-then : {a b e : Event} → Alike a b → Alike b e → Alike a e
alike-then p q = record { answer = p.answer ∙ q.answer; story = p.story ∙ q.story }

-- none
pub repeat-none : (c n : ℕ) (s : Story) → n ≡ 0 → Alike (repeated c n (refused_with s 0)) (refused_with s 0)
unfolding repeated
repeat-none c zero s z = record { answer = refl; story = refl }
repeat-none c (suc n) s z = absurd (omega arith)

-- a line that is refused, a code that is, and a line that is over
pub line-refused : (l : List ℕ) (s : Story) (n : No) (r : Result Unit Stop) → line (number_of n) 0 0 ≡ line_of l → r ≡ Err (Refused n) → Follows r s (followed s (line_of l))
unfolding repeated
line-refused l s n r e q =
    subst (λ (x : Result Unit Stop). Follows x s (followed s (line_of l))) (sym q)
    (ap (λ (x : Line). (followed s x).answer) (sym e), ap (λ (x : Line). (followed s x).story) (sym e))

pub code-refused : (c m : ℕ) (s : Story) (n : No) (r : Result Unit Stop) (f : Event) → Alike (repeated c m (refused_with s 0)) f → 0 < m
    → refused_with s (number_of n) ≡ event_of s c → r ≡ Err (Refused n) → Follows r s f
code-refused c m s n r f a h e q =
    let x = repeat-stop c m (refused_with s 0) (refused_with s (number_of n)) e (λ z. let k = refused-number n in omega arith) h in
    subst (λ (y : Result Unit Stop). Follows y s f) (sym q)
    (sym a.answer ∙ ap (λ (v : Event). v.answer) (sym x), sym a.story ∙ ap (λ (v : Event). v.story) (sym x))

pub codes-over : (c m : ℕ) (s : Story) (f : Event) → Alike (repeated c m (refused_with s 0)) f → m ≡ 0 → (f.answer ≡ 0) × (f.story ≡ s)
codes-over c m s f a z = let n = repeat-none c m s z in (sym a.answer ∙ n.answer, sym a.story ∙ n.story)

pub alike-with : {a b f : Event} → Alike a b → b ≡ f → Alike a f
alike-with p q = subst (Alike _) q p

-- ---- lines

-- the first line and those behind its newline
lines-first : (l : List ℕ) → 0 < length l → lines_of l ≡ take (up_to_end l) l ∷ lines_of (drop (suc (up_to_end l)) l)
unfolding lines_of up_to_end
lines-first [] h = absurd (omega arith)
lines-first (o ∷ []) h = go (eqb o 10)
  where
    go : (b : Bool) → cond b ([] ∷ []) ((o ∷ []) ∷ []) ≡ take (cond b 0 1) (o ∷ []) ∷ lines_of (drop (suc (cond b 0 1)) (o ∷ []))
    go true = refl
    go false = refl
lines-first (o ∷ p ∷ os) h = go (eqb o 10) (lines-first (p ∷ os) (omega arith))
  where
    r : List ℕ
    r = p ∷ os

    go : (b : Bool) → lines_of r ≡ take (up_to_end r) r ∷ lines_of (drop (suc (up_to_end r)) r)
        → cond b ([] ∷ lines_of r) (onto o (lines_of r)) ≡ take (cond b 0 (suc (up_to_end r))) (o ∷ r) ∷ lines_of (drop (suc (cond b 0 (suc (up_to_end r)))) (o ∷ r))
    go true e = refl
    go false e = ap (onto o) e

-- from a place on
pub lines_next : (log : List ℕ) (at end : ℕ) → at < length log → end ≡ end_of log at
    → lines_of (drop at log) ≡ take (end - at) (drop at log) ∷ lines_of (drop (end + 1) log)
lines_next log at end h q =
    let r = drop at log in
    let u : end - at ≡ up_to_end r = omega arith in
    let v : at + suc (up_to_end r) ≡ end + 1 = omega arith in
    lines-first r (omega (arith, length-drop at log))
    ∙ ap (λ (n : ℕ). take n r ∷ lines_of (drop (suc (up_to_end r)) r)) (sym u)
    ∙ ap (λ (x : List ℕ). take (end - at) r ∷ lines_of x) (drop-drop (suc (up_to_end r)) at log ∙ ap (λ (n : ℕ). drop n log) v)

-- behind the last
pub lines-last : (log : List ℕ) (at n : ℕ) (s : Story) → length log ≤ at → ending 0 n s ≡ ending_from n s (lines_of (drop at log))
unfolding lines_of ending_from
lines-last log at n s h = sym (ap (λ (x : List ℕ). ending_from n s (lines_of x)) (drop_of_length-le log h))

-- ---- how a log ends

module _ (n : ℕ) (s : Story) (l : List ℕ) (ls : List (List ℕ)) (e : Event) (q : e ≡ followed s (line_of l)) where
  pub ending-stop : (e.answer ≡ 0 → ⊥) → ending e.answer n e.story ≡ ending_from n s (l ∷ ls)
  unfolding ending_from
  ending-stop h =
      ap (λ (x : Event). ending x.answer n x.story) q
      ∙ go (followed s (line_of l)) (λ z. h (ap (λ (v : Event). v.answer) q ∙ z))
    where
      go : (y : Event) → (y.answer ≡ 0 → ⊥) → ending y.answer n y.story ≡ cond (eqb y.answer 0) (ending_from (suc n) y.story ls) (ending y.answer n y.story)
      go y k = sym (ap (λ (b : Bool). cond b (ending_from (suc n) y.story ls) (ending y.answer n y.story)) (ne_eqb y.answer 0 k))

  pub ending-more : e.answer ≡ 0 → ending_from (suc n) e.story ls ≡ ending_from n s (l ∷ ls)
  unfolding ending_from
  ending-more z =
      ap (λ (x : Event). ending_from (suc n) x.story ls) q ∙ go (followed s (line_of l)) (sym (ap (λ (v : Event). v.answer) q) ∙ z)
    where
      go : (y : Event) → y.answer ≡ 0 → ending_from (suc n) y.story ls ≡ cond (eqb y.answer 0) (ending_from (suc n) y.story ls) (ending y.answer n y.story)
      go y k = sym (ap (λ (b : Bool). cond b (ending_from (suc n) y.story ls) (ending y.answer n y.story)) (eq-eqb y.answer 0 k))

-- a line that stops the log, one after which it goes on, and the end
module _ (n : ℕ) (s t : Story) (l : List ℕ) (ls : List (List ℕ)) where
  pub ends-here : (why : Stop) (e : Ending) → Follows (Err why) t (followed s (line_of l)) → ending_from n s (l ∷ ls) ≡ e → EndsSo why n t e
  ends-here Unwritten e f q = tt
  ends-here (Refused k) e f q =
      let h = ending-stop n s l ls (followed s (line_of l)) refl (λ z. let w = refused-number k in omega (arith, f.0)) ∙ q in
      (ap (λ (x : Ending). x.answer) (sym h) ∙ f.0, ap (λ (x : Ending). x.line) (sym h), ap (λ (x : Ending). x.story) (sym h) ∙ f.1)

  pub goes-on : (v : Unit) → Follows (Ok v) t (followed s (line_of l)) → ending_from (suc n) t ls ≡ ending_from n s (l ∷ ls)
  goes-on v f = ap (λ (x : Story). ending_from (suc n) x ls) (sym f.1) ∙ ending-more n s l ls (followed s (line_of l)) refl f.0

pub ends-last : (log : List ℕ) (at n : ℕ) (s : Story) (e : Ending) → length log ≤ at → ending_from n s (lines_of (drop at log)) ≡ e → (e.answer ≡ 0) × (e.story ≡ s)
ends-last log at n s e h q =
    let w = lines-last log at n s h ∙ q in
    (ap (λ (x : Ending). x.answer) (sym w), ap (λ (x : Ending). x.story) (sym w))
