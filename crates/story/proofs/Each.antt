-- Each event of a story says what the list says at its place. Assumes nothing.
use mathlib.Core.Path.{◌≡◌, refl, sym, ap, ap₂, subst, ◌∙◌}
use mathlib.Core.Bool.{Bool, true, false, cond}
use mathlib.Core.Logic.{⊎_elim, ◌↔◌}
use mathlib.Core.List.{List}
use Prim.Native.Nat.{ℕ, suc, ◌+◌, ◌≤◌}
use native.Mathlib.Nat.{eq-or-lt_of_le}
use native.Mathlib.Omega.{arith}
use borrow.Author.Tests.{ne_eqb, eqb-true}
use lib.Dec.{eqb}
use Rattle.supervisor.specs.declared.Supervisor.{Supervisor}
use Rattle.supervisor.specs.Names.{Settling}
use Rattle.supervisor.specs.Phases.{in_attempt}
use Rattle.supervisor.specs.Step.{fresh}
use Rattle.supervisor.specs.Step.{start_of as supervisor_start}
use Rattle.supervisor.proofs.Laws.{clash}
use Rattle.startup.specs.Run.{event_of as attempt_event}
use Rattle.startup.specs.Reports.{at, one, count}
use Rattle.startup.specs.Attempts.{Needs, needs_of, meant, StillOpen, EndsInData, EndsInException, OpensAt}
use Rattle.startup.specs.Make.{Taken, after}
use Rattle.startup.proofs.Counts.{count-step}
use Rattle.startup.proofs.Unique.{Sound}
use Rattle.startup.proofs.Simulates.{k_of, sound, pre}
use Rattle.startup.proofs.Fate.{open-back, next-fate, data-open}
use Rattle.startup.proofs.Three.{opening, open-run, in-run, data-run, exception-run, opening-run, meant-range, started}
use Rattle.story.specs.Events.{kind_with, since_opening}

-- ---- an event by its number

-- startup's event, by its three tests
abbrev pub event_by : Bool → Bool → Bool → ℕ
event_by a c d = cond a (cond c 0 (cond d 2 3)) (cond c 1 0)

opening-event : (a c d : Bool) → event_by a c d ≡ 1 → (a ≡ false) × (c ≡ true)
opening-event true true d e = absurd (omega arith)
opening-event true false true e = absurd (omega arith)
opening-event true false false e = absurd (omega arith)
opening-event false true d e = (refl, refl)
opening-event false false d e = absurd (omega arith)

data-event : (a c d : Bool) → event_by a c d ≡ 2 → (a ≡ true) × (c ≡ false) × (d ≡ true)
data-event true true d e = absurd (omega arith)
data-event true false true e = (refl, refl, refl)
data-event true false false e = absurd (omega arith)
data-event false true d e = absurd (omega arith)
data-event false false d e = absurd (omega arith)

exception-event : (a c d : Bool) → event_by a c d ≡ 3 → (a ≡ true) × (c ≡ false) × (d ≡ false)
exception-event true true d e = absurd (omega arith)
exception-event true false true e = absurd (omega arith)
exception-event true false false e = (refl, refl, refl)
exception-event false true d e = absurd (omega arith)
exception-event false false d e = absurd (omega arith)

-- what is told of an attempt is startup's event
pub kind-from : (e v : ℕ) (s t : Supervisor) (c : ℕ) → 1 ≤ v → v ≤ 3 → kind_with e s t c ≡ v → e ≡ v
kind-from e v s t c lo hi = go (eqb e 0) (eqb s.phase t.phase) (eqb c 0) (eqb c 8) (eqb s.converged t.converged) (eqb s.seen t.seen)
  where
    go : (z a b d f g : Bool) → cond z (cond a (cond b 0 (cond d 5 (cond f (cond g 7 6) 6))) 4) e ≡ v → e ≡ v
    go false a b d f g q = q
    go true false b d f g q = absurd (omega arith)
    go true true true d f g q = absurd (omega arith)
    go true true false true f g q = absurd (omega arith)
    go true true false false true true q = absurd (omega arith)
    go true true false false true false q = absurd (omega arith)
    go true true false false false g q = absurd (omega arith)

pub kind-to : (e v : ℕ) (s t : Supervisor) (c : ℕ) → 1 ≤ v → e ≡ v → kind_with e s t c ≡ v
kind-to e v s t c lo q = simp (ne_eqb e 0 (λ z. omega arith)) q

-- ---- the code at a place

-- what startup's event of it says, and the ticks that are told
pub record Turn (s : Supervisor) (k : Needs) (l : List ℕ) (p : ℕ) : Type 0 where
  pub opens : (attempt_event (after s l p).phase (after s l (suc p)).phase ≡ 1) ↔ OpensAt k l (suc p)
  pub in_data : (attempt_event (after s l p).phase (after s l (suc p)).phase ≡ 2) ↔ ((m : ℕ) × OpensAt k l m × EndsInData k l m p)
  pub in_exception : (attempt_event (after s l p).phase (after s l (suc p)).phase ≡ 3) ↔ ((m : ℕ) × OpensAt k l m × EndsInException k l m p)
  pub ticks : (m : ℕ) → OpensAt k l m → StillOpen k l m p → since_opening (after s l p) (at l p) ≡ count 0 l m (suc p)
  -- those of an attempt that it ends in data mode too
  pub data-ticks : (m : ℕ) → OpensAt k l m → EndsInData k l m p → since_opening (after s l p) (at l p) ≡ count 0 l m (suc p)

module _ (b : Bool) (sil : ℕ) (lo : 2000 ≤ sil) (hi : sil ≤ 60000) (l : List ℕ) (p : ℕ) where
  abbrev k : Needs
  k = k_of b sil

  sd : Sound k
  sd = sound b sil (omega arith)

  abbrev s₀ : Supervisor
  s₀ = fresh (one b) sil

  abbrev E : ℕ
  E = attempt_event (after s₀ l p).phase (after s₀ l (suc p)).phase

  -- opening
  event-opening : OpensAt k l (suc p) → E ≡ 1
  event-opening o = let w = opening-run b sil lo hi l p o in ap₂ attempt_event w.0 w.1 ∙ by b
    where
      by : (b : Bool) → attempt_event (pre b) (opening b) ≡ 1
      by true = refl
      by false = refl

  opening-there : E ≡ 1 → OpensAt k l (suc p)
  opening-there e =
      let w = opening-event (in_attempt (after s₀ l p).phase) (in_attempt (after s₀ l (suc p)).phase) (eqb (after s₀ l (suc p)).phase Settling) e in
      let i = in-run b sil lo hi l (suc p) w.1 in
      ⊎_elim (λ q. subst (OpensAt k l) q i.1)
      (λ h. clash _ (open-run b sil lo hi l i.0 p i.1 (open-back k sd l i.0 p (suc p) (omega arith) (omega arith) i.2)).0 w.0)
      (eq-or-lt_of_le i.2.since)

  -- ending: the attempt that is open before, and what becomes of it
  event-data : (m : ℕ) → OpensAt k l m → EndsInData k l m p → E ≡ 2
  event-data m o d =
      ap (attempt_event (after s₀ l p).phase) (data-run b sil lo hi l m p o d)
      ∙ ap (λ (x : Bool). cond x 2 0) (open-run b sil lo hi l m p o (data-open k sd l m p d)).0

  event-exception : (m : ℕ) → OpensAt k l m → EndsInException k l m p → E ≡ 3
  event-exception m o x =
      ap (attempt_event (after s₀ l p).phase) (exception-run b sil lo hi l m p o x)
      ∙ ap (λ (y : Bool). cond y 3 0) (open-run b sil lo hi l m p o x.before).0

  data-there : E ≡ 2 → (m : ℕ) × OpensAt k l m × EndsInData k l m p
  data-there e =
      let w = data-event (in_attempt (after s₀ l p).phase) (in_attempt (after s₀ l (suc p)).phase) (eqb (after s₀ l (suc p)).phase Settling) e in
      let i = in-run b sil lo hi l p w.0 in
      ⊎_elim (λ x. clash _ (open-run b sil lo hi l i.0 (suc p) i.1 x).0 w.1)
      (⊎_elim (λ d. (i.0, i.1, d))
      (λ x. absurd (omega (arith, eqb-true (after s₀ l (suc p)).phase Settling w.2, exception-run b sil lo hi l i.0 p i.1 x))))
      (next-fate k sd l i.0 p i.2)

  exception-there : E ≡ 3 → (m : ℕ) × OpensAt k l m × EndsInException k l m p
  exception-there e =
      let w = exception-event (in_attempt (after s₀ l p).phase) (in_attempt (after s₀ l (suc p)).phase) (eqb (after s₀ l (suc p)).phase Settling) e in
      let i = in-run b sil lo hi l p w.0 in
      ⊎_elim (λ x. clash _ (open-run b sil lo hi l i.0 (suc p) i.1 x).0 w.1)
      (⊎_elim (λ d. clash _ (ap (λ (x : ℕ). eqb x Settling) (data-run b sil lo hi l i.0 p i.1 d)) w.2)
      (λ x. (i.0, i.1, x)))
      (next-fate k sd l i.0 p i.2)

  ticks-there : (m : ℕ) → OpensAt k l m → StillOpen k l m p → since_opening (after s₀ l p) (at l p) ≡ count 0 l m (suc p)
  ticks-there m o x =
      let w = open-run b sil lo hi l m p o x in
      ap (λ (y : Bool). cond y ((after s₀ l p).attempt + one (eqb (at l p) 0)) 0) w.0 ∙ ap (λ (n : ℕ). n + one (eqb (at l p) 0)) w.1
      ∙ sym (count-step 0 l m p x.since)

  turn : Turn s₀ k l p
  turn = record {
    opens = (opening-there, event-opening);
    in_data = (data-there, λ w. event-data w.0 w.1 w.2);
    in_exception = (exception-there, λ w. event-exception w.0 w.1 w.2);
    ticks = ticks-there;
    data-ticks = λ m o d. ticks-there m o (data-open k sd l m p d);
  }

-- from a start of either end
pub turn-either : (end silence : ℕ) → end ≤ 1 → Taken silence → (l : List ℕ) (p : ℕ) → Turn (supervisor_start end silence).state (needs_of end (meant silence)) l p
turn-either end silence known t l p =
    let r = meant-range silence t in
    ⊎_elim
    (λ q. subst (λ (e : ℕ). Turn (supervisor_start e silence).state (needs_of e (meant silence)) l p) (sym q)
    (subst (λ (s : Supervisor). Turn s (needs_of 1 (meant silence)) l p) (sym (started 1 silence (omega arith) t)) (turn true (meant silence) r.0 r.1 l p)))
    (λ z. let q : end ≡ 0 = omega arith in subst (λ (e : ℕ). Turn (supervisor_start e silence).state (needs_of e (meant silence)) l p) (sym q)
    (subst (λ (s : Supervisor). Turn s (needs_of 0 (meant silence)) l p) (sym (started 0 silence (omega arith) t)) (turn false (meant silence) r.0 r.1 l p)))
    (eq-or-lt_of_le known)
