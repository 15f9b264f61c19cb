-- The lines of a log's end are the text of their phrases. Assumes nothing.
use mathlib.Core.Path.{◌≡◌, refl, sym, ap, ap₂, ◌∙◌}
use mathlib.Core.Bool.{Bool, true, false, cond, not, ◌&&◌, ◌||◌, false≢true}
use mathlib.Core.List.{List, [], ◌∷◌, ◌++◌, append-nil, append_assoc}
use mathlib.Core.Logic.{◌⊎◌, inl, inr}
use Prim.Native.Nat.{ℕ, zero, suc, ◌+◌, ◌-◌}
use native.Mathlib.Omega.{arith}
use borrow.Author.Tests.{eqb-true, eq-eqb, ne_eqb, lt-ltb, le-ltb}
use lib.Dec.{eqb, ltb}
use Rattle.ascii.specs.Text.{text, decimal}
use Rattle.forms.specs.Forms.{row_by, row_of}
use Rattle.forms.proofs.Laws.{each}
use Rattle.phrases.specs.Phrases.{marked, phrase, phrase_of, phrases}
use Rattle.supervisor.specs.declared.Supervisor.{Supervisor}
use Rattle.supervisor.specs.Limits.{attempt_ticks}
use Rattle.supervisor.specs.Phases.{in_attempt}
use Rattle.story.specs.declared.Story.{Story}
use Rattle.storytext.specs.Events.{numbered, seconds, ticks_text}
use Rattle.storytext.specs.Attempts.{short_name, lack_of, lack_text, used_text, trying_text, how_text, cause_text, why_text, outcome_text}
use Rattle.storytext.specs.Ending.{in_data_mode, lasts, rest_text, left_text, wait_text, unheard_text, now_text, behind_text, then_text, ended_text}
use Rattle.storytext.specs.Ending.{verdict_text, last_tick, end_text, reason_text, refused_text}
use Rattle.storytext.specs.Words.{end_words, attempt_part, now_part}

-- ---- phrases of an attempt

last-said : (t : ℕ) → phrase_of end_words 7 t ≡ last_tick t
unfolding end_words row_of row_by phrase marked seconds ticks_text last_tick
last-said t = simp append_assoc

trying-head : (n : ℕ) → phrase_of end_words 8 n ≡ numbered "attempt " n " is still trying in "
unfolding end_words row_of row_by phrase marked
trying-head n = refl

ended-head : (n : ℕ) → phrase_of end_words 9 n ≡ numbered "attempt " n " ended in "
unfolding end_words row_of row_by phrase marked
ended-head n = refl

short-said : (p : ℕ) → phrase_of end_words (cond (ltb 10 p) 0 (10 + p)) 0 ≡ short_name p
unfolding end_words row_of row_by phrase marked short_name
short-said =
    each (λ (n : ℕ). phrase_of end_words (cond (ltb 10 n) 0 (10 + n)) 0 ≡ short_name n) 11
    (refl, (refl, (refl, (refl, (refl, (refl, (refl, (refl, (refl, (refl, (refl, tt)))))))))))
    (λ n h. simp (
      lt-ltb 10 n h,
      ne_eqb n 3 (λ e. omega arith),
      ne_eqb n 4 (λ e. omega arith),
      ne_eqb n 5 (λ e. omega arith),
      ne_eqb n 6 (λ e. omega arith),
      ne_eqb n 7 (λ e. omega arith),
      ne_eqb n 8 (λ e. omega arith),
      ne_eqb n 9 (λ e. omega arith),
      ne_eqb n 10 (λ e. omega arith),
    ))

used-said : (t : ℕ) → phrase_of end_words 21 t ≡ text ", " ++ seconds t ++ text " of 15.000 s used"
unfolding end_words row_of row_by phrase marked seconds
used-said t = simp append_assoc

left-said : (t : ℕ) → phrase_of end_words 22 t ≡ rest_text t
unfolding end_words row_of row_by phrase marked seconds rest_text
left-said t = simp append_assoc

-- every number that is lacking has a row
lack-said : (s : Supervisor) → phrase_of end_words (lack_of s) 0 ≡ lack_text (lack_of s)
unfolding end_words row_of row_by phrase marked lack_text
lack-said s =
    go (eqb s.phase 4) (eqb s.phase 6) (eqb s.phase 7) (eqb s.phase 8) (eqb s.phase 9 || eqb s.phase 10) (eqb s.converged 0)
    (eqb s.seen 0)
  where
    said : ℕ → Type 0
    said n = phrase_of end_words n 0 ≡ lack_text n

    go : (a b c d e f g : Bool)
        → said (cond a 1 (cond b (cond f 2 0) (cond c (cond f (cond g 4 2) (cond g 3 0)) (cond d 5 (cond e 6 0)))))
    go true b c d e f g = refl
    go false true c d e true g = refl
    go false true c d e false g = refl
    go false false true d e true true = refl
    go false false true d e true false = refl
    go false false true d e false true = refl
    go false false true d e false false = refl
    go false false false true e f g = refl
    go false false false false true f g = refl
    go false false false false false f g = refl

regroup : (a h n c t u r f l : List ℕ)
    → a ++ (h ++ (n ++ ((c ++ t ++ u) ++ ((c ++ r ++ f) ++ (l ++ []))))) ≡ a ++ (h ++ n ++ c ++ (t ++ (u ++ c) ++ r ++ f) ++ l)
regroup a h n c t u r f l = simp (append_assoc, append-nil)

module _ (s : Story) (a b c : ℕ) (qa : a ≡ cond (ltb 10 s.state.phase) 0 (10 + s.state.phase)) (qb : b ≡ attempt_ticks - s.state.attempt)
    (qc : c ≡ lack_of s.state)
  where
    -- an attempt that is still trying, by the rows that the code finds
    pub trying-said : phrases end_words (7 ∷ s.clock ∷ 8 ∷ s.attempts ∷ a ∷ 0 ∷ 21 ∷ s.state.attempt ∷ 22 ∷ b ∷ c ∷ 0 ∷ [])
        ≡ last_tick s.clock ++ trying_text s
    unfolding phrases trying_text used_text rest_text
    trying-said =
        rw (qa, qb, qc)
        (ap₂ ◌++◌ (last-said s.clock)
        (ap₂ ◌++◌ (trying-head s.attempts)
        (ap₂ ◌++◌ (short-said s.state.phase)
        (ap₂ ◌++◌ (used-said s.state.attempt)
        (ap₂ ◌++◌ (left-said (attempt_ticks - s.state.attempt))
        (ap₂ ◌++◌ (lack-said s.state) refl)))))
        ∙ regroup (last_tick s.clock) (numbered "attempt " s.attempts " is still trying in ") (short_name s.state.phase) (text ", ") (seconds s.state.attempt)
        (text " of 15.000 s used") (seconds (attempt_ticks - s.state.attempt)) (text " left") (lack_text (lack_of s.state)))

data-said : (t : ℕ) → phrase_of end_words 23 t ≡ text "data mode after " ++ seconds t
unfolding end_words row_of row_by phrase marked seconds
data-said t = refl

exception-said : (t : ℕ) → phrase_of end_words 24 t ≡ text "exception after " ++ seconds t
unfolding end_words row_of row_by phrase marked seconds
exception-said t = refl

cause-said : (c : ℕ) → phrase_of end_words (cond (eqb c 0) 25 26) 0 ≡ cause_text c
unfolding end_words row_of row_by phrase marked cause_text
cause-said c = go (eqb c 0)
  where
    go : (b : Bool) → phrase_of end_words (cond b 25 26) 0 ≡ cond b (text ": time was up in ") (text ": code 8, abnormal, came in ")
    go true = refl
    go false = refl

-- an attempt that ended in data mode
pub data-mode-said : (s : Story) → s.last.how ≡ 2
    → phrases end_words (7 ∷ s.clock ∷ 9 ∷ s.attempts ∷ 23 ∷ s.last.ticks ∷ []) ≡ last_tick s.clock ++ outcome_text s
unfolding phrases how_text why_text outcome_text
data-mode-said s h =
    simp (eq-eqb s.last.how 2 h)
    (ap₂ ◌++◌ (last-said s.clock) (ap₂ ◌++◌ (ended-head s.attempts) (ap₂ ◌++◌ (data-said s.last.ticks) refl))
    ∙ again (last_tick s.clock) (numbered "attempt " s.attempts " ended in ") (text "data mode after ") (seconds s.last.ticks))
  where
    again : (a h d t : List ℕ) → a ++ (h ++ ((d ++ t) ++ [])) ≡ a ++ (h ++ d ++ t ++ [])
    again a h d t = simp (append_assoc, append-nil)

-- an attempt that ended in the exception state, by the rows that the code finds
pub exception-mode-said : (s : Story) (a b : ℕ) → (s.last.how ≡ 2 → ⊥) → a ≡ cond (eqb s.last.code 0) 25 26
    → b ≡ cond (ltb 10 s.last.phase) 0 (10 + s.last.phase)
    → phrases end_words (7 ∷ s.clock ∷ 9 ∷ s.attempts ∷ 24 ∷ s.last.ticks ∷ a ∷ 0 ∷ b ∷ 0 ∷ []) ≡ last_tick s.clock ++ outcome_text s
unfolding phrases how_text why_text outcome_text
exception-mode-said s a b h qa qb =
    simp (ne_eqb s.last.how 2 h)
    (rw (qa, qb)
    (ap₂ ◌++◌ (last-said s.clock)
    (ap₂ ◌++◌ (ended-head s.attempts)
    (ap₂ ◌++◌ (exception-said s.last.ticks)
    (ap₂ ◌++◌ (cause-said s.last.code) (ap₂ ◌++◌ (short-said s.last.phase) refl))))
    ∙ again (last_tick s.clock) (numbered "attempt " s.attempts " ended in ") (text "exception after ") (seconds s.last.ticks) (cause_text s.last.code)
    (short_name s.last.phase)))
  where
    again : (a h d t c n : List ℕ) → a ++ (h ++ ((d ++ t) ++ (c ++ (n ++ [])))) ≡ a ++ (h ++ d ++ t ++ (c ++ n))
    again a h d t c n = simp (append_assoc, append-nil)

-- no attempt yet
pub none_said : (t : ℕ) → phrases end_words (7 ∷ t ∷ []) ≡ last_tick t ++ []
unfolding phrases
none_said t = ap₂ ◌++◌ (last-said t) refl

-- ---- the verdict on an attempt, by its cases

module _ (s : Story) where
  pub verdict-trying : in_attempt s.state.phase ≡ true → trying_text s ≡ attempt_part s
  unfolding attempt_part
  verdict-trying h = ap (λ (b : Bool). cond b (trying_text s) (cond (eqb s.last.how 0) [] (outcome_text s))) (sym h)

  pub verdict-none : in_attempt s.state.phase ≡ false → s.last.how ≡ 0 → [] ≡ attempt_part s
  unfolding attempt_part
  verdict-none h n =
      ap₂ (λ (a b : Bool). cond a (trying_text s) (cond b [] (outcome_text s))) (sym h) (sym (eq-eqb s.last.how 0 n))

  pub verdict-ended : in_attempt s.state.phase ≡ false → (s.last.how ≡ 0 → ⊥) → outcome_text s ≡ attempt_part s
  unfolding attempt_part
  verdict-ended h n =
      ap₂ (λ (a b : Bool). cond a (trying_text s) (cond b [] (outcome_text s))) (sym h) (sym (ne_eqb s.last.how 0 n))

-- ---- phrases of what is now

over-said : phrase_of end_words 35 0 ≡ text "\n"
unfolding end_words row_of row_by phrase marked
over-said = refl

behind-said : (how : ℕ) → phrase_of end_words (cond (eqb how 0) 0 (cond (eqb how 2) 27 28)) 0 ≡ cond (eqb how 0) [] (behind_text how)
unfolding end_words row_of row_by phrase marked behind_text
behind-said how = go (eqb how 0) (eqb how 2)
  where
    go : (a b : Bool) → phrase_of end_words (cond a 0 (cond b 27 28)) 0 ≡ cond a [] (cond b (text "; code 8, abnormal, ended data mode; ") (text "; "))
    go true b = refl
    go false true = refl
    go false false = refl

wait-said : (t p : ℕ) → phrase_of end_words (cond (ltb p 3) (29 + p) (cond (eqb p 13) 32 33)) t ≡ wait_text p ++ seconds t ++ text " so far"
unfolding end_words row_of row_by phrase marked seconds wait_text
wait-said t =
    each (λ (n : ℕ). phrase_of end_words (cond (ltb n 3) (29 + n) (cond (eqb n 13) 32 33)) t ≡ wait_text n ++ seconds t ++ text " so far") 3
    (simp append_assoc, (simp append_assoc, (simp append_assoc, tt)))
    (λ n h. simp (le-ltb n 3 h, ne_eqb n 0 (λ e. omega arith), ne_eqb n 1 (λ e. omega arith), ne_eqb n 2 (λ e. omega arith)) (silent (eqb n 13)))
  where
    silent : (b : Bool) → phrase_of end_words (cond b 32 33) t ≡ cond b (text "still silent in Exception, ") (text "still in data mode, ") ++ seconds t ++ text " so far"
    silent true = simp append_assoc
    silent false = simp append_assoc

unheard-said : (t : ℕ) → phrase_of end_words 34 t ≡ text ": C_r has not been heard"
unfolding end_words row_of row_by phrase marked
unheard-said t = refl

empty-said : (t : ℕ) → phrase_of end_words 0 t ≡ []
unfolding end_words row_of row_by phrase
empty-said t = refl

-- what a phase has left, where it has a limit, and what has not come in Await
limit-said : (p t : ℕ) → phrase_of end_words (cond (eqb p 2) 34 (cond (eqb p 1 || (eqb p 11 || eqb p 13)) 22 0)) t
    ≡ cond (eqb p 1 || (eqb p 11 || eqb p 13)) (rest_text t) [] ++ unheard_text p
unfolding unheard_text
limit-said p t =
    go (eqb p 2) (eqb p 1 || (eqb p 11 || eqb p 13)) (λ q. ap (λ (k : ℕ). eqb k 1 || (eqb k 11 || eqb k 13)) (eqb-true p 2 q))
  where
    go : (a b : Bool) → (a ≡ true → b ≡ false)
        → phrase_of end_words (cond a 34 (cond b 22 0)) t ≡ cond b (rest_text t) [] ++ cond a (text ": C_r has not been heard") []
    go true true h = absurd (false≢true (sym (h refl)))
    go true false h = unheard-said t
    go false true h = left-said t ∙ sym (append-nil (rest_text t))
    go false false h = empty-said t

-- whether the attempt's verdict is all
abbrev told : Story → Bool
told s = in_attempt s.state.phase || (not (eqb s.last.how 0) && in_data_mode s.state.phase)

all_told : (s : Story) → told s ≡ true → now_part s ≡ []
unfolding now_part then_text
all_told s = go (in_attempt s.state.phase) (eqb s.last.how 0) (in_data_mode s.state.phase)
  where
    go : (a h d : Bool) → (a || (not h && d)) ≡ true → cond a [] (cond h (now_text s) (cond d [] (behind_text s.last.how ++ now_text s))) ≡ []
    go true h d q = refl
    go false true d q = absurd (false≢true q)
    go false false true q = refl
    go false false false q = absurd (false≢true q)

not-told : (s : Story) → told s ≡ false → now_part s ≡ cond (eqb s.last.how 0) [] (behind_text s.last.how) ++ now_text s
unfolding now_part then_text
not-told s = go (in_attempt s.state.phase) (eqb s.last.how 0) (in_data_mode s.state.phase)
  where
    go : (a h d : Bool) → (a || (not h && d)) ≡ false → cond a [] (cond h (now_text s) (cond d [] (behind_text s.last.how ++ now_text s)))
        ≡ cond h [] (behind_text s.last.how) ++ now_text s
    go true h d q = absurd (false≢true (sym q))
    go false true d q = refl
    go false false true q = absurd (false≢true (sym q))
    go false false false q = refl

-- nothing more, and the end of the line
pub line-over : (s : Story) → told s ≡ true → phrases end_words (35 ∷ 0 ∷ []) ≡ now_part s ++ text "\n"
unfolding phrases
line-over s h = rw (all_told s h) (ap₂ ◌++◌ over-said refl)

module _ (s : Story) (a w t l k m : ℕ) (qa : a ≡ cond (eqb s.last.how 0) 0 (cond (eqb s.last.how 2) 27 28))
    (qw : w ≡ cond (ltb s.state.phase 3) (29 + s.state.phase) (cond (eqb s.state.phase 13) 32 33)) (qt : t ≡ s.clock - s.entered)
    (ql : l ≡ cond (eqb s.state.phase 2) 34 (cond (eqb s.state.phase 1 || (eqb s.state.phase 11 || eqb s.state.phase 13)) 22 0))
    (qk : k ≡ lasts s.state.silence s.state.phase) (qm : m ≡ k - s.state.ticks)
  where
    -- what is now, by the rows that the code finds
    pub now-said : told s ≡ false → phrases end_words (a ∷ 0 ∷ w ∷ t ∷ l ∷ m ∷ 35 ∷ 0 ∷ []) ≡ now_part s ++ text "\n"
    unfolding phrases left_text now_text
    now-said h =
        rw (not-told s h, qa, qw, qt, ql, qm, qk)
        (ap₂ ◌++◌ (behind-said s.last.how)
        (ap₂ ◌++◌ (wait-said (s.clock - s.entered) s.state.phase)
        (ap₂ ◌++◌ (limit-said s.state.phase (lasts s.state.silence s.state.phase - s.state.ticks)) (ap₂ ◌++◌ over-said refl)))
        ∙ again (cond (eqb s.last.how 0) [] (behind_text s.last.how)) (wait_text s.state.phase ++ seconds (s.clock - s.entered) ++ text " so far")
        (left_text s.state) (unheard_text s.state.phase) (text "\n"))
      where
        again : (b w l u n : List ℕ) → b ++ (w ++ ((l ++ u) ++ (n ++ []))) ≡ b ++ (w ++ l ++ u) ++ n
        again b w l u n = simp (append_assoc, append-nil)

-- THE LINES in two parts
pub end-said : (s : Story) → (last_tick s.clock ++ attempt_part s) ++ (now_part s ++ text "\n") ≡ end_text s
unfolding attempt_part now_part verdict_text ended_text end_text
end-said s =
    simp append_assoc
    (ap (λ (l : List ℕ). last_tick s.clock ++ l)
    (sym (append_assoc (attempt_part s) (now_part s) (text "\n"))
    ∙ ap (λ (l : List ℕ). l ++ text "\n") (go (in_attempt s.state.phase) (eqb s.last.how 0))))
  where
    go : (a h : Bool) → cond a (trying_text s) (cond h [] (outcome_text s)) ++ cond a [] (cond h (now_text s) (then_text s))
        ≡ cond a (trying_text s) (cond h (now_text s) (outcome_text s ++ then_text s))
    go true h = append-nil (trying_text s)
    go false true = refl
    go false false = refl

-- the row of what a phase has left, where it has a limit
pub limit-row : (p : ℕ) → (p ≡ 1) ⊎ ((p ≡ 11) ⊎ (p ≡ 13)) → ◌≡◌ {A = ℕ} 22 (cond (eqb p 2) 34 (cond (eqb p 1 || (eqb p 11 || eqb p 13)) 22 0))
limit-row p (inl a) = rw a
limit-row p (inr (inl a)) = rw a
limit-row p (inr (inr a)) = rw a

-- ---- a refusal

-- the table of the code
unfoldable pub refused_words : List ℕ
refused_words =
    text "\n: the log has more than 1048576 octets\n: this line is no code\n\n"
    ++ text ": no line counts so many ticks, or the log has over 1000000000\nrefused # at line \n#\n$\n"

reason-said : (n : ℕ) → phrase_of refused_words (cond (ltb 4 n) 0 n) 0 ≡ reason_text n
unfolding refused_words row_of row_by phrase marked reason_text
reason-said =
    each (λ (n : ℕ). phrase_of refused_words (cond (ltb 4 n) 0 n) 0 ≡ reason_text n) 5 (refl, (refl, (refl, (refl, (refl, tt)))))
    (λ n h. simp (lt-ltb 4 n h, ne_eqb n 1 (λ e. omega arith), ne_eqb n 2 (λ e. omega arith), ne_eqb n 4 (λ e. omega arith)))

head-said : (n : ℕ) → phrase_of refused_words 5 n ≡ numbered "refused " n " at line "
unfolding refused_words row_of row_by phrase marked
head-said n = refl

line-said : (n : ℕ) → phrase_of refused_words 6 n ≡ decimal n
unfolding refused_words row_of row_by phrase marked
line-said n = append-nil (decimal n)

rest-said : phrases refused_words (7 ∷ 0 ∷ []) ≡ text "\n"
unfolding phrases refused_words row_of row_by phrase marked
rest-said = refl

-- THE LINE of a refusal by the row that the code finds
pub refused-said : (n l r : ℕ) → r ≡ cond (ltb 4 n) 0 n → phrases refused_words (5 ∷ n ∷ 6 ∷ l ∷ r ∷ 0 ∷ 7 ∷ 0 ∷ []) ≡ refused_text n l
unfolding phrases refused_text
refused-said n l r q =
    rw q (ap₂ ◌++◌ (head-said n) (ap₂ ◌++◌ (line-said l) (ap₂ ◌++◌ (reason-said n) rest-said)))
    ∙ again (numbered "refused " n " at line ") (decimal l) (reason_text n) (text "\n")
  where
    again : (a b c d : List ℕ) → a ++ (b ++ (c ++ d)) ≡ a ++ b ++ c ++ d
    again a b c d = simp append_assoc
