-- The last attempt that has ended, and the present phase's beginning, code by code, against the list. Assumes nothing.
use mathlib.Core.Path.{◌≡◌, refl, ap, subst, ◌∙◌}
use mathlib.Core.Bool.{Bool, true, false, cond}
use mathlib.Core.Logic.{◌⊎◌, inl, inr, ⊎_elim}
use mathlib.Core.List.{List}
use Prim.Native.Nat.{ℕ, zero, suc, ◌≤◌, ◌<◌}
use native.Mathlib.Nat.{eq-or-lt_of_le}
use native.Mathlib.Omega.{arith}
use borrow.Author.Tests.{ltb-true, ltb-false, eqb-true, eqb-false}
use lib.Dec.{eqb, ltb}
use Rattle.supervisor.specs.declared.Supervisor.{Supervisor}
use Rattle.supervisor.specs.Names.{Settling}
use Rattle.supervisor.specs.Phases.{in_attempt}
use Rattle.supervisor.specs.Step.{start_of as supervisor_start}
use Rattle.startup.specs.Run.{event_of as attempt_event}
use Rattle.startup.specs.Reports.{at, upto}
use Rattle.startup.specs.Attempts.{Needs, needs_of, meant}
use Rattle.startup.specs.Make.{Taken, after}
use Rattle.story.specs.declared.Outcome.{Outcome}
use Rattle.story.specs.Events.{outcome, no_outcome, since_opening}
use Rattle.story.specs.Ended.{EndsAt, NoneEnds, EndedLast, Ended, Since}
use Rattle.story.proofs.Each.{event_by, Turn, turn-either}

-- startup's event of the code at the place p
abbrev pub event_at : Supervisor → List ℕ → ℕ → ℕ
event_at s l p = attempt_event (after s l p).phase (after s l (suc p)).phase

-- the last attempt that has ended at the moment n, as a story keeps it
abbrev pub last_at : Supervisor → List ℕ → ℕ → Outcome
last_at s l zero = no_outcome
last_at s l (suc n) =
    cond (ltb 1 (event_at s l n)) (outcome (event_at s l n) (since_opening (after s l n) (at l n)) (after s l n).phase (at l n)) (last_at s l n)

-- and the clock when its phase was entered
abbrev pub entered_by : Supervisor → List ℕ → ℕ → ℕ
entered_by s l zero = 0
entered_by s l (suc n) = cond (eqb (after s l n).phase (after s l (suc n)).phase) (entered_by s l n) (upto 0 l (suc n))

-- ---- the last attempt that has ended

-- an event that is more than an opening is an end
ending : (p q : ℕ) → 1 < attempt_event p q → (attempt_event p q ≡ 2) ⊎ (attempt_event p q ≡ 3)
ending p q = go (in_attempt p) (in_attempt q) (eqb q Settling)
  where
    go : (a b c : Bool) → 1 < event_by a b c → (event_by a b c ≡ 2) ⊎ (event_by a b c ≡ 3)
    go true true c h = absurd (omega arith)
    go true false true h = inl refl
    go true false false h = inr refl
    go false true c h = absurd (omega arith)
    go false false c h = absurd (omega arith)

module _ (s : Supervisor) (k : Needs) (l : List ℕ) (n : ℕ) (w : Turn s k l n) where
  -- a code that ends an attempt
  ended_here : (o : Outcome) → o ≡ outcome (event_at s l n) (since_opening (after s l n) (at l n)) (after s l n).phase (at l n)
      → (event_at s l n ≡ 2) ⊎ (event_at s l n ≡ 3) → EndedLast k l (suc n) o
  ended_here o e (inl q) =
      let d = w.in_data.0 q in
      record {
        opened = d.0;
        place = n;
        before = omega arith;
        ends = (d.1, inl (ap (λ (x : Outcome). x.how) e ∙ q, d.2));
        last = λ how m p a b x. absurd (omega arith);
        ticks = ap (λ (x : Outcome). x.ticks) e ∙ w.data-ticks d.0 d.1 d.2;
        code = ap (λ (x : Outcome). x.code) e;
      }
  ended_here o e (inr q) =
      let d = w.in_exception.0 q in
      record {
        opened = d.0;
        place = n;
        before = omega arith;
        ends = (d.1, inr (ap (λ (x : Outcome). x.how) e ∙ q, d.2));
        last = λ how m p a b x. absurd (omega arith);
        ticks = ap (λ (x : Outcome). x.ticks) e ∙ w.ticks d.0 d.1 d.2.before;
        code = ap (λ (x : Outcome). x.code) e;
      }

  -- a code that ends none
  none_here : event_at s l n ≤ 1 → (how m : ℕ) → EndsAt k l how m n → ⊥
  none_here h how m (o, inl d) = omega (arith, w.in_data.1 (m, o, d.1))
  none_here h how m (o, inr d) = omega (arith, w.in_exception.1 (m, o, d.1))

  none-longer : event_at s l n ≤ 1 → (from : ℕ) → NoneEnds k l from n → NoneEnds k l from (suc n)
  none-longer h from none how m p a b x = go (eq-or-lt_of_le b)
    where
      go : (suc p ≡ suc n) ⊎ (suc p < suc n) → ⊥
      go (inl q) = none_here h how m (subst (EndsAt k l how m) (omega arith) x)
      go (inr q) = none how m p a (omega arith) x

  still-last : event_at s l n ≤ 1 → (o : Outcome) → Ended k l n o → Ended k l (suc n) o
  still-last h o (inl e) = inl (e.0, none-longer h 0 e.1)
  still-last h o (inr e) =
      inr (record {
        opened = e.opened;
        place = e.place;
        before = omega arith;
        ends = e.ends;
        last = none-longer h (suc e.place) e.last;
        ticks = e.ticks;
        code = e.code;
      })

  one_more : Ended k l n (last_at s l n) → Ended k l (suc n) (last_at s l (suc n))
  one_more before = go (ltb 1 (event_at s l n)) refl
    where
      new : Outcome
      new = outcome (event_at s l n) (since_opening (after s l n) (at l n)) (after s l n).phase (at l n)

      go : (b : Bool) → ltb 1 (event_at s l n) ≡ b → Ended k l (suc n) (cond b new (last_at s l n))
      go true q = inr (ended_here new refl (ending (after s l n).phase (after s l (suc n)).phase (ltb-true 1 (event_at s l n) q)))
      go false q = still-last (ltb-false 1 (event_at s l n) q) (last_at s l n) before

pub ended_by : (end silence : ℕ) → end ≤ 1 → Taken silence → (l : List ℕ) (n : ℕ)
    → Ended (needs_of end (meant silence)) l n (last_at (supervisor_start end silence).state l n)
ended_by end silence known t l zero = inl (refl, λ how m p a b x. absurd (omega arith))
ended_by end silence known t l (suc n) =
    one_more (supervisor_start end silence).state (needs_of end (meant silence)) l n (turn-either end silence known t l n) (ended_by end silence known t l n)

-- ---- the phase's beginning

since-more : (s : Supervisor) (l : List ℕ) (n : ℕ) → Since s l n (entered_by s l n) → Since s l (suc n) (entered_by s l (suc n))
since-more s l n b = go (eqb (after s l n).phase (after s l (suc n)).phase) refl
  where
    go : (t : Bool) → eqb (after s l n).phase (after s l (suc n)).phase ≡ t → Since s l (suc n) (cond t (entered_by s l n) (upto 0 l (suc n)))
    go true q =
        let same = eqb-true (after s l n).phase (after s l (suc n)).phase q in
        record {
          moment = b.moment;
          within = omega (arith, b.within);
          shown = b.shown;
          lasts = λ p a h. ⊎_elim (λ e. ap (λ (x : ℕ). (after s l x).phase) e) (λ e. b.lasts p a (omega arith) ∙ same) (eq-or-lt_of_le h);
          new = b.new;
        }
    go false q = record {
      moment = suc n;
      within = omega arith;
      shown = refl;
      lasts = λ p a h. let e : p ≡ suc n = omega arith in ap (λ (x : ℕ). (after s l x).phase) e;
      new = λ p e same.
          let f : n ≡ p = omega arith in
          eqb-false (after s l n).phase (after s l (suc n)).phase q (ap (λ (x : ℕ). (after s l x).phase) f ∙ same);
    }

pub since-by : (s : Supervisor) (l : List ℕ) (n : ℕ) → Since s l n (entered_by s l n)
since-by s l zero = record {
  moment = 0;
  within = omega arith;
  shown = refl;
  lasts = λ q a b. let e : q ≡ 0 = omega arith in ap (λ (x : ℕ). (after s l x).phase) e;
  new = λ q e same. absurd (omega arith);
}
since-by s l (suc n) = since-more s l n (since-by s l n)
