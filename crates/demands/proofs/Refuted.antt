-- No supervisor that SCOPE rejects meets demand 3. Assumes nothing.
use mathlib.Core.Path.{◌≡◌, refl, sym, ap, ◌∙◌, subst}
use mathlib.Core.Bool.{true, false, true≢false}
use mathlib.Core.Logic.{inl, ⊎_elim}
use mathlib.Core.List.{List, [], ◌∷◌, ◌++◌}
use Prim.Native.Nat.{ℕ, suc, ◌≤◌}
use native.Mathlib.Omega.{arith}
use lib.Dec.{lit≤}
use lib.ListN.{length}
use Rattle.supervisor.specs.Names.{Hearing, Exception}
use Rattle.supervisor.specs.Phases.{in_attempt}
use Rattle.startup.specs.Reports.{count, need, shown}
use Rattle.startup.specs.Attempts.{ltu_needs, ntu_needs, meant, InTime, StillOpen, EndsInData, fresh, counted, OpensAt, opens}
use Rattle.startup.specs.Scan.{Attempt, Listed}
use Rattle.startup.specs.Make.{Make, Ran, phase_at, reply_to, FirstShows, ran_over}
use Rattle.startup.proofs.Counts.{in-order-le}
use Rattle.startup.proofs.Fate.{open-now}
use Rattle.startup.proofs.Simulates.{sound}
use Rattle.startup.proofs.Stands.{open-says}
use Rattle.startup.proofs.Cases.{quiet, settles}
use Rattle.startup.proofs.Agreement.{scan-agrees}
use Rattle.demands.specs.Three.{Follows, Three}
use Rattle.demands.specs.WrongSupervisors.{MovesOnce, NeverOpens, CallsException, SameTicks, CountsCodes, GivesUp, EndsTooLate, RejectedByThree}

-- ---- the LTU, told by a 1, opens an attempt with a 2, whatever comes then

abbrev pub told-and-heard : List ℕ → List ℕ
told-and-heard rest = 1 ∷ 2 ∷ rest

pub opened : (rest : List ℕ) → OpensAt (ltu_needs (meant 0)) (told-and-heard rest) 2
opened rest = opens {p = 1} (counted {p = 0} fresh (lit≤ tt) refl refl refl) (record { since = lit≤ tt; lacking = refl; shows = refl }) refl

-- it is open, and a code that is neither a 3 nor an 8 leaves it open
now-open : (rest : List ℕ) → StillOpen (ltu_needs (meant 0)) (told-and-heard rest) 2 2
now-open rest = open-now (ltu_needs (meant 0)) (sound false (meant 0) (lit≤ tt)) (told-and-heard rest) 2

pub still_open : (c : ℕ) → shown (need Hearing 0 (3 ∷ [])) (told-and-heard (c ∷ [])) 2 3 ≡ false → InTime (told-and-heard (c ∷ [])) 2 3
    → StillOpen (ltu_needs (meant 0)) (told-and-heard (c ∷ [])) 2 3
still_open c f u =
    let l = told-and-heard (c ∷ []) in
    record {
      since = lit≤ tt;
      in_time = u;
      unshown = λ q h i.
          let e : i.0 ≡ 2 = omega (arith, i.1.since, in-order-le (ltu_needs (meant 0)).others l (suc i.0) q i.2, h) in
          true≢false (sym (subst (λ (p : ℕ). shown (need Hearing 0 (3 ∷ [])) l 2 (suc p) ≡ true) e i.1.shows) ∙ f);
    }

-- ---- the NTU in the list of startup's cases ends in data mode

abbrev good : List ℕ
good = quiet ++ (5 ∷ 7 ∷ 9 ∷ 4 ∷ 7 ∷ [])

good-ends : OpensAt (ntu_needs (meant 0)) good 301 × EndsInData (ntu_needs (meant 0)) good 301 2806
good-ends =
    let w = (subst (Listed (ntu_needs (meant 0)) good (length good)) (settles (meant 0)) (scan-agrees 1 0 (lit≤ tt) (inl refl) good)).0 in
    (w.opens, ⊎_elim (λ z. absurd (omega (arith, z.0))) (⊎_elim (λ z. z.2) (λ z. absurd (omega (arith, z.0)))) w.fate)

module _ {S : Type 0} (make : Make S) (demand : Three make) where
  abbrev s₀ : S
  s₀ = (make.start 0 0).state

  follows : (l : List ℕ) → Follows make s₀ (ltu_needs (meant 0)) Hearing l
  follows l = (demand 0 0 (lit≤ tt) (inl refl)).1 l

  -- at the place 1 the answer shows Hearing, and before it did not
  shows : (rest : List ℕ) → (phase_at make s₀ (told-and-heard rest) 1 ≡ Hearing → ⊥) × ((reply_to make s₀ (told-and-heard rest) 1).phase ≡ Hearing)
  shows rest = ((follows (told-and-heard rest)).opens 1).0 (opened rest)

  -- an 8 then is answered with Exception
  moves-once-refuted : MovesOnce make → ⊥
  moves-once-refuted w =
      let l = told-and-heard (8 ∷ []) in
      let f = follows l in
      let h : phase_at make s₀ l 2 ≡ Hearing = sym (f.answered 1 (lit≤ tt)).1 ∙ (shows (8 ∷ [])).1 in
      let x : FirstShows make Exception s₀ l 2 2 = (f.in_exception 2 2 (opened (8 ∷ []))).1 (record { before = now-open (8 ∷ []); cut = inl refl }) in
      let e : phase_at make s₀ l 3 ≡ Exception = sym (f.answered 2 (lit≤ tt)).1 ∙ x.shows in
      let stay = w.stays 0 0 (lit≤ tt) (inl refl) l 1 (λ q. (shows (8 ∷ [])).0 (q ∙ h)) 3 (lit≤ tt) in
      omega (arith, sym e ∙ stay ∙ h)

  never-opens-refuted : NeverOpens make → ⊥
  never-opens-refuted w = (w 0 0 (lit≤ tt) (inl refl) (told-and-heard []) 1).1 (shows []).1

  calls-exception-refuted : CallsException make → ⊥
  calls-exception-refuted w =
      let f = (demand 1 0 (lit≤ tt) (inl refl)).1 good in
      w 1 0 (lit≤ tt) (inl refl) good 2806 ((f.in_data 301 2806 good-ends.0).1 good-ends.1).shows

  -- what the answer to the 2 shows, and what the answer to a code c after it does
  first-ticks : (rest : List ℕ) → (reply_to make s₀ (told-and-heard rest) 1).attempt ≡ 0
  first-ticks rest =
      let l = told-and-heard rest in
      (open-says 0 0 (lit≤ tt) (inl refl) l 2 2 _ _ (opened rest) (now-open rest) ((follows l).stands 1 (lit≤ tt))).1

  then : (c : ℕ) → c ≤ 8 → StillOpen (ltu_needs (meant 0)) (told-and-heard (c ∷ [])) 2 3
      → (in_attempt (reply_to make s₀ (told-and-heard (c ∷ [])) 2).phase ≡ true)
      × ((reply_to make s₀ (told-and-heard (c ∷ [])) 2).attempt ≡ count 0 (told-and-heard (c ∷ [])) 2 3)
  then c h o = let l = told-and-heard (c ∷ []) in
      open-says 0 0 (lit≤ tt) (inl refl) l 2 3 _ _ (opened (c ∷ [])) o ((follows l).stands 2 h)

  after-tick : StillOpen (ltu_needs (meant 0)) (told-and-heard (0 ∷ [])) 2 3
  after-tick = still_open 0 refl (record { calm = refl; early = lit≤ tt })

  after-4 : StillOpen (ltu_needs (meant 0)) (told-and-heard (4 ∷ [])) 2 3
  after-4 = still_open 4 refl (record { calm = refl; early = lit≤ tt })

  same-ticks-refuted : SameTicks make → ⊥
  same-ticks-refuted w =
      let l = told-and-heard (0 ∷ []) in
      let a = then 0 (lit≤ tt) after-tick in
      omega (
        arith,
        sym (w.1 0 0 (lit≤ tt) (inl refl) l 1 (lit≤ tt) (ap in_attempt (shows (0 ∷ [])).1)) ∙ first-ticks (0 ∷ []),
        sym (w.1 0 0 (lit≤ tt) (inl refl) l 2 (lit≤ tt) a.0) ∙ a.1,
      )

  counts-codes-refuted : CountsCodes make → ⊥
  counts-codes-refuted w =
      let l = told-and-heard (4 ∷ []) in
      let a = then 4 (lit≤ tt) after-4 in
      omega (
        arith,
        first-ticks (4 ∷ []),
        sym (w 0 0 (lit≤ tt) (inl refl) l 1 (lit≤ tt) (lit≤ tt) (ap in_attempt (shows (4 ∷ [])).1) a.0) ∙ a.1,
      )

  gives-up-refuted : GivesUp make → ⊥
  gives-up-refuted (end, silence, h, t, l, m, p, o, x, c, e) =
      let s = ((demand end silence h t).1 l).stands p (subst (λ (z : ℕ). z ≤ 8) (sym c) (lit≤ tt)) in
      true≢false (sym (open-says end silence h t l m (suc p) _ _ o x s).0 ∙ ap in_attempt e)

  ends-too-late-refuted : EndsTooLate make → ⊥
  ends-too-late-refuted (end, silence, h, t, l, m, n, o, i, j, none) =
      let w = ((demand end silence h t).1 l).ends m n o i j in
      ⊎_elim (λ f. (none w.0 f.since w.1).0 f.shows) (λ f. (none w.0 f.since w.1).1 f.shows) w.2

  run-answer : (s : S) (log : List Attempt) → (ran_over s log).answer ≡ 0
  run-answer s [] = refl
  run-answer s (a ∷ log) = refl

  pub rejected-by-three : RejectedByThree make
  rejected-by-three = record {
    refuses_starts = λ w. w 0 0 (demand 0 0 (lit≤ tt) (inl refl)).0.answer;
    refuses_steps = λ w. w s₀ 0 ((follows (0 ∷ [])).answered 0 (lit≤ tt)).0;
    refuses_lists = λ w. let r = (follows []).run in w s₀ [] (ap (λ (z : Ran S). z.answer) r.2 ∙ run-answer _ r.0);
    moves_once = moves-once-refuted;
    never_opens = never-opens-refuted;
    calls_exception = calls-exception-refuted;
    same_ticks = same-ticks-refuted;
    counts_codes = counts-codes-refuted;
    gives_up = gives-up-refuted;
    ends_too_late = ends-too-late-refuted;
  }
