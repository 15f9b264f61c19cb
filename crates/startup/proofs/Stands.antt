-- What the list says at each moment is one thing, and what our supervisor answers. Assumes nothing.
use Prim.Native.Nat.{ℕ, suc, ◌≤◌, ◌<◌}
use native.Mathlib.Omega.{arith}
use native.Mathlib.Nat.{le_trans}
use mathlib.Core.Path.{◌≡◌, refl, sym, ap, subst, ◌∙◌}
use mathlib.Core.Logic.{inl, inr, ⊎_elim}
use mathlib.Core.List.{List, [], ◌∷◌}
use mathlib.Core.Bool.{Bool, true, false, cond, false≢true}
use lib.Dec.{leb}
use Rattle.supervisor.specs.declared.Supervisor.{Supervisor}
use Rattle.supervisor.specs.Limits.{settling_ticks}
use Rattle.supervisor.specs.Names.{Ready, Settling, Valid, Exception}
use Rattle.supervisor.specs.Phases.{in_attempt}
use Rattle.supervisor.specs.Step.{fresh}
use Rattle.supervisor.proofs.Laws.{by_cases}
use Rattle.startup.specs.Reports.{at, one, count, Need, shown, InOrder, FirstLacking}
use Rattle.startup.specs.Attempts.{Needs, ntu_needs}
use Rattle.startup.specs.Attempts.{ltu_needs, needs_of, meant, all, InTime, StillOpen, EndsInData, SilenceBegins, OpensAt}
use Rattle.startup.specs.Stands.{Stands, ready, waiting, trying, settling, valid, silent, Exactly}
use Rattle.startup.specs.Make.{after, answer_to, Taken}
use Rattle.startup.proofs.History.{Reached, begun, went, reached-le, not-all}
use Rattle.startup.proofs.Unique.{Hist, ready as ready_h, await, trying as trying_h, done, failed, Holds, Sound, hist_of, unique, holds}
use Rattle.startup.proofs.Simulates.{k_of, sound, conc, reached-suffix, run-hist}
use Rattle.startup.proofs.Fate.{place_of, is_open}
use Rattle.startup.proofs.Three.{InAttempt, in_its_attempt, answered-run, ticks-are, meant-range, either_end}

-- the phase and the ticks of a history
abbrev pub phase_in : Needs → List ℕ → ℕ → Hist → ℕ
phase_in k l n (ready_h r) = Ready
phase_in k l n (await e) = k.before.phase
phase_in k l n (trying_h d ds e m) = d.phase
phase_in k l n (done e) = cond (shown k.settling l e n) Valid k.settling.phase
phase_in k l n (failed e) = k.silence.phase

abbrev pub ticks_in : List ℕ → ℕ → Hist → ℕ
ticks_in l n (ready_h r) = 0
ticks_in l n (await e) = 0
ticks_in l n (trying_h d ds e m) = count 0 l m n
ticks_in l n (done e) = 0
ticks_in l n (failed e) = 0

module _ (k : Needs) (s : Sound k) (l : List ℕ) (n : ℕ) where
  -- the first need that lacks, from the opening and from where the attempt has come to
  lacking-from : (m : ℕ) {d d' : Need} {ds : List Need} {e : ℕ} → Reached k l m d ds e → FirstLacking (d ∷ ds) l e n d' → FirstLacking (all k) l m n d'
  lacking-from m begun f = f
  lacking-from m (went {p = p} r o) f = lacking-from m r (inr (p, o, f))

  abbrev Lacks : ℕ → Need → Type 0
  Lacks m d = (ds : List Need) × (e : ℕ) × Reached k l m d ds e × (e ≤ n) × (shown d l e n ≡ false)

  this : (m : ℕ) (d c : Need) (cs : List Need) (e : ℕ) → Reached k l m c cs e → (e ≤ n) × (shown c l e n ≡ false) × (c ≡ d) → Lacks m d
  this m d c cs e r w = subst (Lacks m) w.2 (cs, e, r, w.0, w.1)

  lacking-at : (m : ℕ) (d c : Need) (cs : List Need) (e : ℕ) → Reached k l m c cs e → FirstLacking (c ∷ cs) l e n d → Lacks m d
  lacking-at m d c [] e r = ⊎_elim (this m d c [] e r) (λ w. absurd w.2)
  lacking-at m d c (c' ∷ cs) e r =
      ⊎_elim (this m d c (c' ∷ cs) e r) (λ w. lacking-at m d c' cs (suc w.0) (went r w.1) w.2)

  -- after the end in data mode
  ended : (m p : ℕ) → OpensAt k l m → EndsInData k l m p → suc p ≤ n → count 8 l (suc p) n ≡ 0
      → Stands k l n (cond (shown k.settling l (suc p) n) Valid k.settling.phase) 0
  ended m p o d h z = pick (shown k.settling l (suc p) n) refl
    where
      pick : (b : Bool) → shown k.settling l (suc p) n ≡ b → Stands k l n (cond b Valid k.settling.phase) 0
      pick true e = valid o d h z e
      pick false e = settling o d h z e

  -- what a history that holds says, the list says
  pub says : (a : Hist) → Holds k l n a → Stands k l n (phase_in k l n a) (ticks_in l n a)
  says (ready_h r) h = ready h.0 h.1 h.2 h.3
  says (await e) h = waiting h.0 h.1 h.2 h.3
  says (trying_h d ds e m) h =
      trying h.0 (record { since = le_trans (reached-le k l m h.1) h.2; in_time = h.3; unshown = not-all k l m n h.1 h.4 })
      (lacking-from m h.1 (inl (h.2, h.4, refl)))
  says (done e) h =
      let w = place_of k s l h.0 e h.2 in
      subst (λ (z : ℕ). Stands k l n (cond (shown k.settling l z n) Valid k.settling.phase) 0) (sym w.1)
      (ended h.0 w.0 h.1
      (record { needed = subst (InOrder (all k) l h.0) w.1 h.2; in_time = subst (InTime l h.0) w.1 h.3 })
      (subst (λ (z : ℕ). z ≤ n) w.1 h.4) (subst (λ (z : ℕ). count 8 l z n ≡ 0) w.1 h.5))
  says (failed e) h = silent h.0 h.1 h.2 h.3

  -- and what the list says, such a history says
  said : (ph t : ℕ) → Stands k l n ph t → (a : Hist) × Holds k l n a × (phase_in k l n a ≡ ph) × (ticks_in l n a ≡ t)
  said ph t (ready {r = r} x h y z) = (ready_h r, (x, h, y, z), refl, refl)
  said ph t (waiting {e = e} x h y z) = (await e, (x, h, y, z), refl, refl)
  said ph t (trying {m = m} {d = d} o x f) =
      let w = lacking-at m d k.first k.others m begun f in
      (trying_h d w.0 w.1 m, (o, w.2, w.3, x.in_time, w.4), refl, refl)
  said ph t (settling {m = m} {p = p} o d h z f) =
      (done (suc p), (m, o, d.needed, d.in_time, h, z), ap (λ (b : Bool). cond b Valid k.settling.phase) f, refl)
  said ph t (valid {m = m} {p = p} o d h z f) =
      (done (suc p), (m, o, d.needed, d.in_time, h, z), ap (λ (b : Bool). cond b Valid k.settling.phase) f, refl)
  said ph t (silent {e = e} x h y z) = (failed e, (x, h, y, z), refl, refl)

  -- AT EACH MOMENT THE LIST SAYS ONE THING
  pub says-once : (ph t ph' t' : ℕ) → Stands k l n ph t → Stands k l n ph' t' → (ph ≡ ph') × (t ≡ t')
  says-once ph t ph' t' x x' =
      let a = said ph t x in
      let b = said ph' t' x' in
      let e : a.0 ≡ b.0 = unique k s l n a.0 a.1 ∙ sym (unique k s l n b.0 b.1) in
      (sym a.2 ∙ ap (phase_in k l n) e ∙ b.2, sym a.3 ∙ ap (ticks_in l n) e ∙ b.3)

module _ (b : Bool) (sil : ℕ) (lo : 2000 ≤ sil) (hi : sil ≤ 60000) (l : List ℕ) where
  abbrev k : Needs
  k = k_of b sil

  sd : Sound k
  sd = sound b sil (omega arith)

  -- the phase and the ticks that a state shows
  abbrev shows : Supervisor → ℕ
  shows x = cond (in_attempt x.phase) x.attempt 0

  hist-shows : (n : ℕ) (a : Hist) → Holds k l n a → (phase_in k l n a ≡ (conc b sil l n a).phase) × (ticks_in l n a ≡ shows (conc b sil l n a))
  hist-shows n (ready_h r) h = (refl, refl)
  hist-shows n (await e) h = go b
    where
      go : (b : Bool) → ((k_of b sil).before.phase ≡ (conc b sil l n (await e)).phase) × (0 ≡ shows (conc b sil l n (await e)))
      go true = (refl, refl)
      go false = (refl, refl)
  hist-shows n (trying_h d ds e m) h =
      (refl, ap (λ (t : Bool). cond t (count 0 l m n) 0) (sym (reached-suffix k l m (InAttempt b sil) (in_its_attempt b sil) h.1).0.0))
  hist-shows n (done e) h = go b
    where
      go : (b : Bool) → (phase_in (k_of b sil) l n (done e) ≡ (conc b sil l n (done e)).phase) × (0 ≡ shows (conc b sil l n (done e)))
      go true = by_cases (leb settling_ticks (count 0 l e n)) (λ y. rw y (refl, refl)) (λ y. rw y (refl, refl))
      go false = by_cases (leb settling_ticks (count 0 l e n)) (λ y. rw y (refl, refl)) (λ y. rw y (refl, refl))
  hist-shows n (failed e) h = go b
    where
      go : (b : Bool) → ((k_of b sil).silence.phase ≡ (conc b sil l n (failed e)).phase) × (0 ≡ shows (conc b sil l n (failed e)))
      go true = (refl, refl)
      go false = (refl, refl)

  -- THE STATE AFTER n CODES SHOWS WHAT THE LIST SAYS AT THE MOMENT n
  pub stands-run : (n : ℕ) → Stands k l n (after (fresh (one b) sil) l n).phase (shows (after (fresh (one b) sil) l n))
  stands-run n =
      let a = hist_of k l n in
      let w = hist-shows n a (holds k sd l n) in
      subst (λ (x : Supervisor). Stands k l n x.phase (shows x)) (sym (run-hist b sil lo hi l n))
      (subst (λ (p : ℕ). Stands k l n p (shows (conc b sil l n a))) w.0
      (subst (λ (t : ℕ). Stands k l n (phase_in k l n a) t) w.1 (says k sd l n a (holds k sd l n))))

  -- and so does each answer
  pub stands-answer : (p : ℕ) → at l p ≤ 8 → Stands k l (suc p) (answer_to (fresh (one b) sil) l p).phase (answer_to (fresh (one b) sil) l p).attempt
  stands-answer p h =
      subst (λ (x : ℕ). Stands k l (suc p) x (answer_to (fresh (one b) sil) l p).attempt) (sym (answered-run b sil lo hi l p h).1)
      (subst (λ (t : ℕ). Stands k l (suc p) (after (fresh (one b) sil) l (suc p)).phase t) (sym (ticks-are b sil lo hi l p h)) (stands-run (suc p)))

-- AT EACH MOMENT THE LIST SAYS ONE THING, for either end and every silence that is taken
pub stands-once : (end silence : ℕ) → end ≤ 1 → Taken silence → (l : List ℕ) (n ph t ph' t' : ℕ)
    → Stands (needs_of end (meant silence)) l n ph t → Stands (needs_of end (meant silence)) l n ph' t' → (ph ≡ ph') × (t ≡ t')
stands-once end silence h x l n ph t ph' t' =
    either_end (λ e. Stands (needs_of e (meant silence)) l n ph t → Stands (needs_of e (meant silence)) l n ph' t' → (ph ≡ ph') × (t ≡ t'))
    (says-once (ntu_needs (meant silence)) (sound true (meant silence) pos) l n ph t ph' t')
    (says-once (ltu_needs (meant silence)) (sound false (meant silence) pos) l n ph t ph' t') end h
  where
    pos : 0 < meant silence
    pos = omega (arith, (meant-range silence x).0)

-- A PHASE OF AN ATTEMPT IS SHOWN EXACTLY WHILE THE LIST HAS ONE OPEN, and then with its ticks
module _ (b : Bool) (sil : ℕ) (pos : 0 < sil) (l : List ℕ) (n ph t : ℕ) (x : Stands (k_of b sil) l n ph t) where
  open-then : (m : ℕ) → OpensAt (k_of b sil) l m → StillOpen (k_of b sil) l m n → (in_attempt ph ≡ true) × (t ≡ count 0 l m n)
  open-then m o y =
      let w = is_open (k_of b sil) (sound b sil pos) l m n o y in
      let e = says-once (k_of b sil) (sound b sil pos) l n ph t _ _ x (says (k_of b sil) (sound b sil pos) l n (trying_h w.0.0 w.0.1 w.0.2 m) w.1)
      in
      (ap in_attempt e.0 ∙ (reached-suffix (k_of b sil) l m (InAttempt b sil) (in_its_attempt b sil) w.0.3).0.0, e.1)

  in-said : in_attempt ph ≡ true → (m : ℕ) × OpensAt (k_of b sil) l m × StillOpen (k_of b sil) l m n
  in-said = go b ph t x
    where
      go : (b : Bool) (ph t : ℕ) → Stands (k_of b sil) l n ph t → in_attempt ph ≡ true → (m : ℕ) × OpensAt (k_of b sil) l m × StillOpen (k_of b sil) l m n
      go b ph t (ready x₀ x₁ x₂ x₃) e = absurd (false≢true e)
      go true ph t (waiting x₀ x₁ x₂ x₃) e = absurd (false≢true e)
      go false ph t (waiting x₀ x₁ x₂ x₃) e = absurd (false≢true e)
      go b ph t (trying {m = m} o y f) e = (m, o, y)
      go true ph t (settling o d h z f) e = absurd (false≢true e)
      go false ph t (settling o d h z f) e = absurd (false≢true e)
      go b ph t (valid o d h z f) e = absurd (false≢true e)
      go true ph t (silent x₀ x₁ x₂ x₃) e = absurd (false≢true e)
      go false ph t (silent x₀ x₁ x₂ x₃) e = absurd (false≢true e)

  abbrev Settled : Needs → Type 0
  Settled k = (m : ℕ) × (p : ℕ) × OpensAt k l m × EndsInData k l m p × (suc p ≤ n) × (count 8 l (suc p) n ≡ 0) × (shown k.settling l (suc p) n ≡ false)

  abbrev Silent : Needs → Type 0
  Silent k = (e : ℕ) × SilenceBegins k l e × (e ≤ n) × (count 8 l e n ≡ 0) × (shown k.silence l e n ≡ false)

  -- a phase that is not an attempt's
  not-open : (q : ℕ) → in_attempt q ≡ false → ph ≡ q → (m : ℕ) → OpensAt (k_of b sil) l m → StillOpen (k_of b sil) l m n → ⊥
  not-open q z e m o y = false≢true (sym z ∙ ap in_attempt (sym e) ∙ (open-then m o y).0)

  settled-said : ph ≡ Settling → Settled (k_of b sil)
  settled-said = go b ph t x not-open
    where
      go : (b : Bool) (ph t : ℕ) → Stands (k_of b sil) l n ph t
          → ((q : ℕ) → in_attempt q ≡ false → ph ≡ q → (m : ℕ) → OpensAt (k_of b sil) l m → StillOpen (k_of b sil) l m n → ⊥) → ph ≡ Settling → Settled (k_of b sil)
      go b ph t (ready x₀ x₁ x₂ x₃) w e = absurd (omega arith)
      go true ph t (waiting x₀ x₁ x₂ x₃) w e = absurd (omega arith)
      go false ph t (waiting x₀ x₁ x₂ x₃) w e = absurd (omega arith)
      go b ph t (trying {m = m} o y f) w e = absurd (w Settling refl e m o y)
      go b ph t (settling {m = m} {p = p} o d h z f) w e = (m, p, o, d, h, z, f)
      go b ph t (valid o d h z f) w e = absurd (omega arith)
      go true ph t (silent x₀ x₁ x₂ x₃) w e = absurd (omega arith)
      go false ph t (silent x₀ x₁ x₂ x₃) w e = absurd (omega arith)

  silent-said : ph ≡ Exception → Silent (k_of b sil)
  silent-said = go b ph t x not-open
    where
      go : (b : Bool) (ph t : ℕ) → Stands (k_of b sil) l n ph t
          → ((q : ℕ) → in_attempt q ≡ false → ph ≡ q → (m : ℕ) → OpensAt (k_of b sil) l m → StillOpen (k_of b sil) l m n → ⊥) → ph ≡ Exception → Silent (k_of b sil)
      go b ph t (ready x₀ x₁ x₂ x₃) w e = absurd (omega arith)
      go true ph t (waiting x₀ x₁ x₂ x₃) w e = absurd (omega arith)
      go false ph t (waiting x₀ x₁ x₂ x₃) w e = absurd (omega arith)
      go b ph t (trying {m = m} o y f) w e = absurd (w Exception refl e m o y)
      go true ph t (settling o d h z f) w e = absurd (omega arith)
      go false ph t (settling o d h z f) w e = absurd (omega arith)
      go b ph t (valid o d h z f) w e = absurd (omega arith)
      go b ph t (silent {e = e'} x₀ x₁ x₂ x₃) w e = (e', x₀, x₁, x₂, x₃)

  exactly : Exactly (k_of b sil) l n ph
  exactly = record {
    in_its_attempt = (in-said, λ w. (open-then w.0 w.1 w.2).0);
    in_settling = (
      settled-said,
      λ w. (says-once (k_of b sil) (sound b sil pos) l n ph t _ _ x (settling w.2 w.3 w.4 w.5 w.6)).0 ∙ settling-phase b,
    );
    in_exception = (
      silent-said,
      λ w. (says-once (k_of b sil) (sound b sil pos) l n ph t _ _ x (silent w.1 w.2 w.3 w.4)).0 ∙ silence-phase b,
    );
  }
    where
      settling-phase : (b : Bool) → (k_of b sil).settling.phase ≡ Settling
      settling-phase true = refl
      settling-phase false = refl

      silence-phase : (b : Bool) → (k_of b sil).silence.phase ≡ Exception
      silence-phase true = refl
      silence-phase false = refl

pub stands-exactly : (end silence : ℕ) → end ≤ 1 → Taken silence → (l : List ℕ) (n ph t : ℕ) → Stands (needs_of end (meant silence)) l n ph t
    → Exactly (needs_of end (meant silence)) l n ph
stands-exactly end silence h x l n ph t =
    either_end (λ e. Stands (needs_of e (meant silence)) l n ph t → Exactly (needs_of e (meant silence)) l n ph)
    (λ s. exactly true (meant silence) pos l n ph t s) (λ s. exactly false (meant silence) pos l n ph t s) end h
  where
    pos : 0 < meant silence
    pos = omega (arith, (meant-range silence x).0)

pub open-says : (end silence : ℕ) → end ≤ 1 → Taken silence → (l : List ℕ) (m n ph t : ℕ)
    → OpensAt (needs_of end (meant silence)) l m → StillOpen (needs_of end (meant silence)) l m n → Stands (needs_of end (meant silence)) l n ph t
    → (in_attempt ph ≡ true) × (t ≡ count 0 l m n)
open-says end silence h x l m n ph t =
    either_end (λ e. OpensAt (needs_of e (meant silence)) l m → StillOpen (needs_of e (meant silence)) l m n → Stands (needs_of e (meant silence)) l n ph t
    → (in_attempt ph ≡ true) × (t ≡ count 0 l m n))
    (λ o y s. open-then true (meant silence) pos l n ph t s m o y) (λ o y s. open-then false (meant silence) pos l n ph t s m o y) end h
  where
    pos : 0 < meant silence
    pos = omega (arith, (meant-range silence x).0)
