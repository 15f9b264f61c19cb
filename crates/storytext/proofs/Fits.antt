-- Every line fits a room of 320 octets, so that nothing is cut there: its numbers are those of the code, below 2 ^ 32. Assumes nothing.
use mathlib.Core.Path.{◌≡◌}
use mathlib.Core.Bool.{Bool, true, false, cond, ◌||◌}
use mathlib.Core.List.{List, []}
use Prim.Native.Nat.{ℕ, ◌-◌, ◌/◌, ◌%◌, ◌^◌, ◌≤◌, ◌<◌}
use native.Mathlib.Omega.{arith}
use lib.Dec.{eqb, lit≤, lit<}
use lib.ListN.{length, take, length-append}
use Rattle.ascii.specs.Text.{text, decimal}
use Rattle.ascii.specs.Promises.{Put}
use Rattle.ascii.proofs.Numbers.{decimal-length}
use Rattle.ascii.proofs.Room.{told, told-whole}
use Rattle.supervisor.specs.declared.Supervisor.{Supervisor}
use Rattle.supervisor.specs.Names.{Ready, Gap, Await, Cr, Hearing, Quiet, Sc, Sr, Tc, Tr, Fc, Settling, Valid, Exception}
use Rattle.supervisor.specs.Phases.{in_attempt}
use Rattle.story.specs.declared.Outcome.{Outcome}
use Rattle.story.specs.declared.Story.{Story}
use Rattle.story.specs.Events.{Event}
use Rattle.supervisor.specs.Limits.{attempt_ticks}
use Rattle.phrases.specs.Phrases.{thousandths}
use Rattle.storytext.specs.Events.{seconds, ticks_text, report_name, name_of, phase_text, verb_of, attempt_text, code_text, when_text, event_text}
use Rattle.storytext.specs.Attempts.{short_name, lack_of, lack_text, used_text, trying_text, how_text, cause_text, why_text, outcome_text}
use Rattle.storytext.specs.Ending.{in_data_mode, lasts, rest_text, left_text, wait_text, unheard_text, now_text, behind_text, then_text, ended_text}
use Rattle.storytext.specs.Ending.{verdict_text, last_tick, end_text, reason_text, refused_text}

-- ---- numbers

number-length : (n : ℕ) → n < 2 ^ 32 → length (decimal n) ≤ 10
number-length n h = decimal-length 9 n (omega arith)

digit-length : (n : ℕ) → n < 10 → length (decimal n) ≤ 1
digit-length n h = decimal-length 0 n (omega arith)

seconds-length : (t : ℕ) → t < 2 ^ 32 → length (seconds t) ≤ 13
unfolding seconds thousandths
seconds-length t h =
    let a = decimal-length 6 (t / 1000) (omega arith) in
    let b = digit-length (t / 100 % 10) (omega arith) in
    let c = digit-length (t / 10 % 10) (omega arith) in
    let d = digit-length (t % 10) (omega arith) in
    simp length-append (omega arith)

ticks-length : (t : ℕ) → t < 2 ^ 32 → length (ticks_text t) ≤ 26
unfolding ticks_text
ticks-length t h = simp length-append (omega (arith, number-length t h, seconds-length t h))

-- ---- words

either-length : (b : Bool) (x y : List ℕ) (n : ℕ) → length x ≤ n → length y ≤ n → length (cond b x y) ≤ n
either-length true x y n h l = h
either-length false x y n h l = l

report-length : (c : ℕ) → length (report_name c) ≤ 22
unfolding report_name
report-length c =
    either-length (eqb c 1) _ _ 22 (lit≤ tt)
    (either-length (eqb c 2) _ _ 22 (lit≤ tt)
    (either-length (eqb c 3) _ _ 22 (lit≤ tt)
    (either-length (eqb c 4) _ _ 22 (lit≤ tt)
    (either-length (eqb c 5) _ _ 22 (lit≤ tt)
    (either-length (eqb c 6) _ _ 22 (lit≤ tt)
    (either-length (eqb c 7) _ _ 22 (lit≤ tt) (either-length (eqb c 8) _ [] 22 (lit≤ tt) (lit≤ tt))))))))

name-length : (end p : ℕ) → length (name_of end p) ≤ 64
unfolding name_of
name-length end p =
    either-length (eqb p Ready) _ _ 64 (lit≤ tt)
    (either-length (eqb p Gap) _ _ 64 (lit≤ tt)
    (either-length (eqb p Await) _ _ 64 (lit≤ tt)
    (either-length (eqb p Cr) _ _ 64 (lit≤ tt)
    (either-length (eqb p Hearing) _ _ 64 (lit≤ tt)
    (either-length (eqb p Quiet) _ _ 64 (either-length (eqb end 1) _ _ 64 (lit≤ tt) (lit≤ tt))
    (either-length (eqb p Sc) _ _ 64 (lit≤ tt)
    (either-length (eqb p Sr) _ _ 64 (lit≤ tt)
    (either-length (eqb p Tc) _ _ 64 (lit≤ tt)
    (either-length (eqb p Tr) _ _ 64 (lit≤ tt)
    (either-length (eqb p Fc) _ _ 64 (lit≤ tt)
    (either-length (eqb p Settling) _ _ 64 (lit≤ tt) (either-length (eqb p Valid) _ _ 64 (lit≤ tt) (lit≤ tt)))))))))))))

phase-length : (s : Supervisor) → s.silence < 2 ^ 32 → length (phase_text s) ≤ 64
unfolding phase_text
phase-length s h =
    either-length (eqb s.phase Exception) _ _ 64 (simp length-append (omega (arith, seconds-length s.silence h)))
    (name-length s.end s.phase)

short-length : (p : ℕ) → length (short_name p) ≤ 7
unfolding short_name
short-length p =
    either-length (eqb p Cr) _ _ 7 (lit≤ tt)
    (either-length (eqb p Hearing) _ _ 7 (lit≤ tt)
    (either-length (eqb p Quiet) _ _ 7 (lit≤ tt)
    (either-length (eqb p Sc) _ _ 7 (lit≤ tt)
    (either-length (eqb p Sr) _ _ 7 (lit≤ tt)
    (either-length (eqb p Tc) _ _ 7 (lit≤ tt)
    (either-length (eqb p Tr) _ _ 7 (lit≤ tt) (either-length (eqb p Fc) _ [] 7 (lit≤ tt) (lit≤ tt))))))))

verb-length : (kind c : ℕ) → length (verb_of kind c) ≤ 31
unfolding verb_of
verb-length kind c =
    either-length (eqb kind 1) _ _ 31 (lit≤ tt)
    (either-length (eqb kind 2) _ _ 31 (lit≤ tt)
    (either-length (eqb kind 3) _ _ 31 (either-length (eqb c 0) _ _ 31 (lit≤ tt) (lit≤ tt))
    (either-length (eqb kind 5) _ _ 31 (lit≤ tt)
    (either-length (eqb kind 6) _ _ 31 (lit≤ tt) (either-length (eqb kind 7) _ _ 31 (lit≤ tt) (lit≤ tt))))))

attempt-length : (k t : ℕ) → k < 2 ^ 32 → t < 2 ^ 32 → length (attempt_text k t) ≤ 53
unfolding attempt_text
attempt-length k t h l =
    either-length (eqb k 0) [] _ 53 (lit≤ tt) (simp length-append (omega (arith, number-length k h, ticks-length t l)))

code-length : (c : ℕ) → c < 2 ^ 32 → length (code_text c) ≤ 41
unfolding code_text
code-length c h = either-length (eqb c 0) [] _ 41 (lit≤ tt) (simp length-append (omega (arith, number-length c h, report-length c)))

lack-length : (n : ℕ) → length (lack_text n) ≤ 64
unfolding lack_text
lack-length n =
    either-length (eqb n 1) _ _ 64 (lit≤ tt)
    (either-length (eqb n 2) _ _ 64 (lit≤ tt)
    (either-length (eqb n 3) _ _ 64 (lit≤ tt)
    (either-length (eqb n 4) _ _ 64 (lit≤ tt)
    (either-length (eqb n 5) _ _ 64 (lit≤ tt) (either-length (eqb n 6) _ [] 64 (lit≤ tt) (lit≤ tt))))))

used-length : (t : ℕ) → t < 2 ^ 32 → length (used_text t) ≤ 51
unfolding used_text
used-length t h = simp length-append (omega (arith, seconds-length t h, seconds-length (attempt_ticks - t) (omega arith)))

lasts-small : (silence p : ℕ) → silence < 2 ^ 32 → lasts silence p < 2 ^ 32
lasts-small silence p h = go (eqb p Gap) (eqb p Settling)
  where
    go : (a b : Bool) → cond a 300 (cond b 1000 silence) < 2 ^ 32
    go true b = lit< tt
    go false true = lit< tt
    go false false = h

left-length : (s : Supervisor) → s.silence < 2 ^ 32 → length (left_text s) ≤ 20
unfolding left_text rest_text
left-length s h =
    let l = lasts-small s.silence s.phase h in
    either-length (eqb s.phase Gap || (eqb s.phase Settling || eqb s.phase Exception)) _ [] 20
    (simp length-append (omega (arith, seconds-length (lasts s.silence s.phase - s.ticks) (omega arith)))) (lit≤ tt)

wait-length : (p : ℕ) → length (wait_text p) ≤ 51
unfolding wait_text
wait-length p =
    either-length (eqb p Ready) _ _ 51 (lit≤ tt)
    (either-length (eqb p Gap) _ _ 51 (lit≤ tt)
    (either-length (eqb p Await) _ _ 51 (lit≤ tt) (either-length (eqb p Exception) _ _ 51 (lit≤ tt) (lit≤ tt))))

unheard-length : (p : ℕ) → length (unheard_text p) ≤ 24
unfolding unheard_text
unheard-length p = either-length (eqb p Await) _ [] 24 (lit≤ tt) (lit≤ tt)

why-length : (o : Outcome) → length (why_text o) ≤ 35
unfolding why_text cause_text
why-length o =
    either-length (eqb o.how 2) [] _ 35 (lit≤ tt)
    (simp length-append
    (omega (
      arith,
      short-length o.phase,
      either-length (eqb o.code 0) (text ": time was up in ") (text ": code 8, abnormal, came in ") 28 (lit≤ tt) (lit≤ tt),
    )))

-- ---- the lines

-- an event of the code's numbers
pub record Small (e : Event) : Type 0 where
  pub clock : e.story.clock < 2 ^ 32
  pub attempt : e.attempt < 2 ^ 32
  pub ticks : e.ticks < 2 ^ 32
  pub code : e.code < 2 ^ 32
  pub silence : e.story.state.silence < 2 ^ 32

pub event-fits : (e : Event) → Small e → length (event_text e) ≤ 320
unfolding event_text when_text
event-fits e h =
    let a = ticks-length e.story.clock h.clock in
    let b = attempt-length e.attempt e.ticks h.attempt h.ticks in
    let c = code-length e.code h.code in
    let d = verb-length e.kind e.code in
    let f = phase-length e.story.state h.silence in
    simp length-append (omega arith)

-- a story of the code's numbers
pub record SmallStory (s : Story) : Type 0 where
  pub clock : s.clock < 2 ^ 32
  pub attempts : s.attempts < 2 ^ 32
  pub attempt : s.state.attempt < 2 ^ 32
  pub silence : s.state.silence < 2 ^ 32
  pub last : s.last.ticks < 2 ^ 32

module _ (s : Story) (h : SmallStory s) where
  now-length : length (now_text s) ≤ 115
  unfolding now_text
  now-length =
      let a = wait-length s.state.phase in
      let b = seconds-length (s.clock - s.entered) (omega (arith, h.clock)) in
      let c = left-length s.state h.silence in
      let d = unheard-length s.state.phase in
      simp length-append (omega arith)

  trying-length : length (trying_text s) ≤ 200
  unfolding trying_text
  trying-length =
      let a = number-length s.attempts h.attempts in
      let b = short-length s.state.phase in
      let c = used-length s.state.attempt h.attempt in
      let d = lack-length (lack_of s.state) in
      simp length-append (omega arith)

  then-length : length (then_text s) ≤ 152
  unfolding then_text behind_text
  then-length =
      let a = either-length (eqb s.last.how 2) (text "; code 8, abnormal, ended data mode; ") (text "; ") 37 (lit≤ tt) (lit≤ tt) in
      either-length (in_data_mode s.state.phase) [] _ 152 (lit≤ tt) (simp length-append (omega (arith, now-length)))

  ended-length : length (ended_text s) ≤ 250
  unfolding ended_text outcome_text how_text
  ended-length =
      let a = number-length s.attempts h.attempts in
      let b = either-length (eqb s.last.how 2) (text "data mode after ") (text "exception after ") 16 (lit≤ tt) (lit≤ tt) in
      let c = seconds-length s.last.ticks h.last in
      let d = why-length s.last in
      simp length-append (omega (arith, then-length))

  verdict-length : length (verdict_text s) ≤ 250
  unfolding verdict_text
  verdict-length =
      either-length (in_attempt s.state.phase) (trying_text s) _ 250 (omega (arith, trying-length))
      (either-length (eqb s.last.how 0) (now_text s) (ended_text s) 250 (omega (arith, now-length)) ended-length)

  pub end_fits : length (end_text s) ≤ 320
  unfolding end_text last_tick
  end_fits = simp length-append (omega (arith, ticks-length s.clock h.clock, verdict-length))

reason-length : (n : ℕ) → length (reason_text n) ≤ 64
unfolding reason_text
reason-length n =
    either-length (eqb n 1) _ _ 64 (lit≤ tt) (either-length (eqb n 2) _ _ 64 (lit≤ tt) (either-length (eqb n 4) _ [] 64 (lit≤ tt) (lit≤ tt)))

pub refused-fits : (n l : ℕ) → n < 2 ^ 32 → l < 2 ^ 32 → length (refused_text n l) ≤ 320
unfolding refused_text
refused-fits n l h i = simp length-append (omega (arith, number-length n h, number-length l i, reason-length n))

-- what fits stands whole at the start of the room
pub whole : (line room exit : List ℕ) (r : ℕ) → Put room 0 line r exit → length line ≤ 320 → 320 ≤ length room → take r exit ≡ line
whole line room exit r p h l = told-whole line room r exit (told line room exit r p) (omega arith)
