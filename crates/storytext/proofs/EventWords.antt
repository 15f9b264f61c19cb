-- The line of an event is the text of its phrases. Assumes nothing.
use mathlib.Core.Path.{◌≡◌, refl, sym, ap, ap₂, ◌∙◌}
use mathlib.Core.Bool.{Bool, true, false, cond}
use mathlib.Core.List.{List, [], ◌∷◌, ◌++◌, append-nil, append_assoc}
use Prim.Native.Nat.{ℕ, ◌+◌}
use Prim.Native.String.{String}
use native.Mathlib.Omega.{arith}
use borrow.Author.Tests.{ne_eqb, lt-ltb}
use lib.Dec.{eqb, ltb}
use Rattle.ascii.specs.Text.{text, decimal, decimal_in}
use Rattle.forms.specs.Forms.{row_by, row_of}
use Rattle.forms.proofs.Laws.{each}
use Rattle.phrases.specs.Phrases.{marked, phrase, phrase_of, phrases}
use Rattle.story.specs.Events.{Event}
use Rattle.storytext.specs.Events.{numbered, seconds, ticks_text, report_name, name_of, phase_text, verb_of, attempt_text, code_text, when_text, event_text}

-- the table of the code
unfoldable pub event_words : List ℕ
event_words =
    text "\ncode #, pre-activation ended: \ncode #, C_r begins: \ncode #, C_r has ended: \ncode #, own receiver converged: \n"
    ++ text "code #, T_c seen: \ncode #, T_r seen: \ncode #, second F_c frame over: \ncode #, abnormal: \ncode #, : \n"
    ++ text "\nopens: \nends in data mode: \nends in exception: \n\nsilence starts again: \nheard, still \nchanges nothing, still \n"
    ++ text "time is up, ends in exception: \nReady (until code 1, pre-activation ended)\nGap (0.300 s)\nAwait (until code 2, C_r begins)\n"
    ++ text "C_r (1.000 s)\nHearing (until code 3, C_r has ended)\nQuiet (0.500 s)\nS_c (5.000 s and until code 4, own receiver converged)\n"
    ++ text "S_r (until code 4, own receiver converged, and code 5, T_c seen)\nT_c (until code 6, T_r seen)\n"
    ++ text "T_r (until code 7, second F_c frame over)\nF_c (until code 7, second F_c frame over)\nSettling (1.000 s)\n"
    ++ text "Valid (until code 8, abnormal)\nException (silent for @ s)\nQuiet (1.500 s)\nno phase\nattempt #, \ntick # (@ s): \n$\n"

-- text behind a number between words
numbered_more : (a : String) (n : ℕ) (b : String) (x : List ℕ) → numbered a n b ++ x ≡ text a ++ (decimal n ++ (text b ++ x))
numbered_more a n b x = simp append_assoc

tick-said : (t : ℕ) → phrase_of event_words 36 t ≡ text "tick " ++ ticks_text t ++ text ": "
unfolding event_words row_of row_by phrase marked seconds ticks_text
tick-said t = simp append_assoc

number-said : (k : ℕ) → phrase_of event_words 35 k ≡ numbered "attempt " k ", "
unfolding event_words row_of row_by phrase marked
number-said k = refl

none_said : (k : ℕ) → phrase_of event_words 0 k ≡ []
unfolding event_words row_of row_by phrase
none_said k = refl

attempt-said : (k t : ℕ) → phrase_of event_words (cond (eqb k 0) 0 35) k ++ phrase_of event_words (cond (eqb k 0) 0 36) t ≡ attempt_text k t
unfolding attempt_text
attempt-said k t = go (eqb k 0)
  where
    go : (b : Bool) → phrase_of event_words (cond b 0 35) k ++ phrase_of event_words (cond b 0 36) t
        ≡ cond b [] (numbered "attempt " k ", tick " ++ ticks_text t ++ text ": ")
    go true = ap₂ ◌++◌ (none_said k) (none_said t)
    go false =
        ap₂ ◌++◌ (number-said k) (tick-said t ∙ append_assoc (text "tick ") (ticks_text t) (text ": "))
        ∙ numbered_more "attempt " k ", " (text "tick " ++ (ticks_text t ++ text ": "))
        ∙ sym (append_assoc (numbered "attempt " k ", tick ") (ticks_text t) (text ": ") ∙ numbered_more "attempt " k ", tick " (ticks_text t ++ text ": "))

unknown-said : (c : ℕ) → phrase_of event_words 9 c ≡ (numbered "code " c ", " ++ []) ++ text ": "
unfolding event_words row_of row_by phrase marked
unknown-said c =
    sym (ap (λ (l : List ℕ). l ++ text ": ") (append-nil (numbered "code " c ", ")) ∙ numbered_more "code " c ", " (text ": "))

code-said : (c : ℕ) → phrase_of event_words (cond (ltb 8 c) 9 c) c ≡ code_text c
unfolding event_words row_of row_by phrase marked decimal decimal_in report_name code_text
code-said =
    each (λ (n : ℕ). phrase_of event_words (cond (ltb 8 n) 9 n) n ≡ code_text n) 9
    (refl, (refl, (refl, (refl, (refl, (refl, (refl, (refl, (refl, tt)))))))))
    (λ n h. simp (
      lt-ltb 8 n h,
      ne_eqb n 0 (λ e. omega arith),
      ne_eqb n 1 (λ e. omega arith),
      ne_eqb n 2 (λ e. omega arith),
      ne_eqb n 3 (λ e. omega arith),
      ne_eqb n 4 (λ e. omega arith),
      ne_eqb n 5 (λ e. omega arith),
      ne_eqb n 6 (λ e. omega arith),
      ne_eqb n 7 (λ e. omega arith),
      ne_eqb n 8 (λ e. omega arith),
    ) (unknown-said n))

verb-said : (kind c : ℕ)
    → phrase_of event_words (cond (ltb 7 kind) 0 (cond (eqb kind 3) (cond (eqb c 0) 18 13) (10 + kind))) 0 ≡ verb_of kind c
unfolding event_words row_of row_by phrase marked verb_of
verb-said kind c =
    each (λ (n : ℕ). phrase_of event_words (cond (ltb 7 n) 0 (cond (eqb n 3) (cond (eqb c 0) 18 13) (10 + n))) 0 ≡ verb_of n c) 8
    (refl, (refl, (refl, (late (eqb c 0), (refl, (refl, (refl, (refl, tt))))))))
    (λ n h. simp (
      lt-ltb 7 n h,
      ne_eqb n 1 (λ e. omega arith),
      ne_eqb n 2 (λ e. omega arith),
      ne_eqb n 3 (λ e. omega arith),
      ne_eqb n 5 (λ e. omega arith),
      ne_eqb n 6 (λ e. omega arith),
      ne_eqb n 7 (λ e. omega arith),
    )) kind
  where
    late : (b : Bool) → phrase_of event_words (cond b 18 13) 0 ≡ cond b (text "time is up, ends in exception: ") (text "ends in exception: ")
    late true = refl
    late false = refl

name-said : (end silence p : ℕ)
    → phrase_of event_words (cond (ltb 13 p) 34 (cond (eqb p 5) (cond (eqb end 1) 33 24) (19 + p))) silence
    ≡ cond (eqb p 13) (text "Exception (silent for " ++ seconds silence ++ text ")") (name_of end p)
unfolding event_words row_of row_by phrase marked name_of seconds
name-said end silence p =
    each (λ (n : ℕ). phrase_of event_words (cond (ltb 13 n) 34 (cond (eqb n 5) (cond (eqb end 1) 33 24) (19 + n))) silence
    ≡ cond (eqb n 13) (text "Exception (silent for " ++ seconds silence ++ text ")") (name_of end n)) 14
    (refl, (refl, (refl, (refl, (refl, (quiet (eqb end 1), (refl, (refl, (refl, (refl, (refl, (refl, (refl, (simp append_assoc, tt))))))))))))))
    (λ n h. simp (
      lt-ltb 13 n h,
      ne_eqb n 0 (λ e. omega arith),
      ne_eqb n 1 (λ e. omega arith),
      ne_eqb n 2 (λ e. omega arith),
      ne_eqb n 3 (λ e. omega arith),
      ne_eqb n 4 (λ e. omega arith),
      ne_eqb n 5 (λ e. omega arith),
      ne_eqb n 6 (λ e. omega arith),
      ne_eqb n 7 (λ e. omega arith),
      ne_eqb n 8 (λ e. omega arith),
      ne_eqb n 9 (λ e. omega arith),
      ne_eqb n 10 (λ e. omega arith),
      ne_eqb n 11 (λ e. omega arith),
      ne_eqb n 12 (λ e. omega arith),
      ne_eqb n 13 (λ e. omega arith),
    )) p
  where
    quiet : (b : Bool) → phrase_of event_words (cond b 33 24) silence ≡ cond b (text "Quiet (1.500 s)") (text "Quiet (0.500 s)")
    quiet true = refl
    quiet false = refl

over-said : phrase_of event_words 37 0 ≡ text "\n"
unfolding event_words row_of row_by phrase marked
over-said = refl

-- THE LINE by the rows that the code finds
module _ (e : Event) (a b c v n : ℕ) (qa : a ≡ cond (eqb e.attempt 0) 0 35) (qb : b ≡ cond (eqb e.attempt 0) 0 36)
    (qc : c ≡ cond (ltb 8 e.code) 9 e.code)
    (qv : v ≡ cond (ltb 7 e.kind) 0 (cond (eqb e.kind 3) (cond (eqb e.code 0) 18 13) (10 + e.kind)))
    (qn : n ≡ cond (ltb 13 e.story.state.phase) 34
    (cond (eqb e.story.state.phase 5) (cond (eqb e.story.state.end 1) 33 24) (19 + e.story.state.phase)))
  where
    ending : phrases event_words (c ∷ e.code ∷ v ∷ 0 ∷ n ∷ e.story.state.silence ∷ 37 ∷ 0 ∷ [])
        ≡ code_text e.code ++ (verb_of e.kind e.code ++ (phase_text e.story.state ++ text "\n"))
    unfolding phrases phase_text
    ending =
        rw (qc, qv, qn)
        (ap₂ ◌++◌ (code-said e.code)
        (ap₂ ◌++◌ (verb-said e.kind e.code)
        (ap₂ ◌++◌ (name-said e.story.state.end e.story.state.silence e.story.state.phase) (ap₂ ◌++◌ over-said refl))))

    pub event-said : phrases event_words
        (36 ∷ e.story.clock ∷ a ∷ e.attempt ∷ b ∷ e.ticks ∷ c ∷ e.code ∷ v ∷ 0 ∷ n ∷ e.story.state.silence ∷ 37 ∷ 0 ∷ []) ≡ event_text e
    unfolding phrases when_text event_text
    event-said =
        rw (qa, qb)
        (ap₂ ◌++◌ (tick-said e.story.clock)
        (sym (append_assoc (phrase_of event_words (cond (eqb e.attempt 0) 0 35) e.attempt) (phrase_of event_words (cond (eqb e.attempt 0) 0 36) e.ticks) _)
        ∙ ap₂ ◌++◌ (attempt-said e.attempt e.ticks) ending)
        ∙ simp append_assoc)
