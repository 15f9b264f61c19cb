-- The receiving end: over whole runs, what was precoded comes back and both histories are equal afterwards. Assumes nothing.
use mathlib.Core.Path.{◌≡◌, refl, sym, ap, ap₂, ◌∙◌, subst}
use mathlib.Core.Bool.{Bool, true, false, not}
use mathlib.Core.List.{List, [], ◌∷◌}
use Prim.Native.Nat.{ℕ, suc, ◌%◌, ◌<◌}
use native.Mathlib.Omega.{arith}
use borrow.Author.Tests.{eq-eqb, not-false}
use lib.IntN.{ℤ}
use lib.ListN.{length, get_or}
use Rattle.answer.specs.Answer.{refuse, answer, held}
use Rattle.answer.proofs.Laws.{none, given}
use Rattle.numbers.specs.Promises.{numbers_of, number_octets}
use Rattle.ranges.specs.Ranges.{every}
use Rattle.samples.specs.Samples.{is_signal, past_after}
use Rattle.precoder.specs.Runs.{past_after_all, SendsAll, ReceivesAll, TurnsAll, lines_of, lengths_right, ranges_right, run_tests, RunPromise}
use Rattle.precoder.specs.Runs.{PrecodesRun, DecodesRun}
use Rattle.ranges.proofs.Laws.{both, mag-at}
use Rattle.precoder.proofs.Recipe.{output_of, turned_of, outputs_of, inputs_of}
use Rattle.precoder.proofs.Signals.{sends-unique, sends-output, receives-input, input-is}
use Rattle.numbers.proofs.Laws.{octets-many, numbers-kept, octets-kept}
use Rattle.precoder.proofs.Turns.{lengths-are, ranges-are}

-- ---- the definitions

module _ (coefficients : List ℤ) where
  -- the computed outputs are those that the xs go out as
  pub outputs-sent : (past xs : List ℤ) → SendsAll coefficients past xs (outputs_of coefficients past xs)
  unfolding SendsAll turned_of
  outputs-sent past [] = tt
  outputs-sent past (x ∷ xs) = (sends-output coefficients past x, outputs-sent (past_after past (output_of coefficients past x)) xs)

  -- and the computed inputs, in range, those that go out as ys in range
  pub inputs-received : (past ys : List ℤ) → every is_signal ys ≡ true → ReceivesAll coefficients past ys (inputs_of coefficients past ys)
  unfolding SendsAll turned_of every
  inputs-received past [] h = record { signals = refl; sends = tt }
  inputs-received past (y ∷ ys) h =
      let p = both (is_signal y) (every is_signal ys) h in
      let f = receives-input coefficients past y p.0 in
      let r = inputs-received (past_after past y) ys p.1 in
      record { signals = rw f.signal r.signals; sends = (f.sends, r.sends) }

  pub turned-turns : (back : Bool) (past zs : List ℤ) → every is_signal zs ≡ true → TurnsAll back coefficients past zs (turned_of back coefficients past zs)
  turned-turns false past xs h = outputs-sent past xs
  turned-turns true past ys h = inputs-received past ys h

  -- xs go out as no other ys
  pub sent-unique : (past xs ys zs : List ℤ) → SendsAll coefficients past xs ys → SendsAll coefficients past xs zs → ys ≡ zs
  unfolding SendsAll
  sent-unique past [] [] [] p q = refl
  sent-unique past [] [] (z ∷ zs) p q = absurd q
  sent-unique past [] (y ∷ ys) zs p q = absurd p
  sent-unique past (x ∷ xs) [] zs p q = absurd p
  sent-unique past (x ∷ xs) (y ∷ ys) [] p q = absurd q
  sent-unique past (x ∷ xs) (y ∷ ys) (z ∷ zs) p q =
      let e = sends-unique coefficients past x y z p.0 q.0 in
      ap₂ (λ (a : ℤ) (l : List ℤ). a ∷ l) e
      (sent-unique (past_after past y) xs ys zs p.1 (subst (λ (w : ℤ). SendsAll coefficients (past_after past w) xs zs) (sym e) q.1))

  -- ys come back as the computed xs and no others
  pub inputs_are : (past ys xs : List ℤ) → ReceivesAll coefficients past ys xs → xs ≡ inputs_of coefficients past ys
  unfolding SendsAll turned_of every
  inputs_are past [] [] r = refl
  inputs_are past (y ∷ ys) [] r = absurd r.sends
  inputs_are past [] (x ∷ xs) r = absurd r.sends
  inputs_are past (y ∷ ys) (x ∷ xs) r =
      let p = both (is_signal x) (every is_signal xs) r.signals in
      ap₂ (λ (a : ℤ) (l : List ℤ). a ∷ l) (input-is coefficients past y x (record { signal = p.0; sends = r.sends.0 }))
      (inputs_are (past_after past y) ys xs (record { signals = p.1; sends = r.sends.1 }))

  pub turns-are : (back : Bool) (past zs ws : List ℤ) → TurnsAll back coefficients past zs ws → ws ≡ turned_of back coefficients past zs
  turns-are false past xs ys p = sent-unique past xs ys (outputs_of coefficients past xs) p (outputs-sent past xs)
  turns-are true past ys xs p = inputs_are past ys xs p

  -- every output is in range
  pub outputs-in : (past xs : List ℤ) → every is_signal (outputs_of coefficients past xs) ≡ true
  unfolding turned_of every
  outputs-in past [] = refl
  outputs-in past (x ∷ xs) = rw (sends-output coefficients past x).folds.signal (outputs-in (past_after past (output_of coefficients past x)) xs)

  -- every x in range comes back, for any number of symbols; both ends' pasts are those after the same ys
  pub all_back : (past xs : List ℤ) → every is_signal xs ≡ true → inputs_of coefficients past (outputs_of coefficients past xs) ≡ xs
  all_back past xs h = sym (inputs_are past (outputs_of coefficients past xs) xs (record { signals = h; sends = outputs-sent past xs }))

  pub outputs-length : (past xs : List ℤ) → length (outputs_of coefficients past xs) ≡ length xs
  unfolding turned_of
  outputs-length past [] = refl
  outputs-length past (x ∷ xs) = ap suc (outputs-length (past_after past (output_of coefficients past x)) xs)

-- ---- numbers in octets and back

-- numbers in range are read back from their octets
pub values-octets : (zs : List ℤ) → every is_signal zs ≡ true → numbers_of (number_octets zs) ≡ zs
values-octets zs h = numbers-kept zs (λ i. omega (arith, mag-at 131071 zs i h))

-- ---- the promises

-- a run that answered 0 has right lengths and ranges
pub run-done : (coefficients history symbols room : List ℕ) → answer (run_tests coefficients history symbols room) ≡ 0
    → (lengths_right coefficients history symbols room ≡ true) × (ranges_right (numbers_of coefficients) (numbers_of history) (numbers_of symbols) ≡ true)
run-done coefficients history symbols room e =
    let first = none 0 (not (lengths_right coefficients history symbols room))
    (refuse 4 (not (ranges_right (numbers_of coefficients) (numbers_of history) (numbers_of symbols))) ∷ []) e in
    let second = none 3 (not (ranges_right (numbers_of coefficients) (numbers_of history) (numbers_of symbols))) [] first.1 in
    (not-false _ first.0, not-false _ second.0)

-- a run's numbers are those computed
pub run_out : (back : Bool) (coefficients history symbols room : List ℕ) (r : ℕ) (history' room' : List ℕ)
    → (p : RunPromise back coefficients history symbols room r history' room') → r ≡ 0
    → p.out ≡ turned_of back (numbers_of coefficients) (numbers_of history) (numbers_of symbols)
run_out back coefficients history symbols room r history' room' p z = turns-are (numbers_of coefficients) back (numbers_of history) (numbers_of symbols)
    p.out (p.turns z)

-- what is computed keeps the promise
pub runs : (back : Bool) (coefficients history symbols room : List ℕ) →
    let n = answer (run_tests coefficients history symbols room) in
    let out = turned_of back (numbers_of coefficients) (numbers_of history) (numbers_of symbols) in
    RunPromise back coefficients history symbols room n
    (held n history (number_octets (past_after_all (numbers_of history) (lines_of back (numbers_of symbols) out)))) (held n room (number_octets out))
runs back coefficients history symbols room =
    record {
      answered = refl;
      out = turned_of back (numbers_of coefficients) (numbers_of history) (numbers_of symbols);
      turns = λ z.
          let r = ranges-are (numbers_of coefficients) (numbers_of history) (numbers_of symbols) (run-done coefficients history symbols room z).1 in
          turned-turns (numbers_of coefficients) back (numbers_of history) (numbers_of symbols) r.2;
      written = refl;
      past = refl;
    }

-- a whole run on octets: decoding what precoding gave, from an equal history, gives the same xs and an equal history
pub run-back : (coefficients history xs ys room : List ℕ) (r s : ℕ) (history' ys' history'' room' : List ℕ) → ((k : ℕ) → get_or xs k 0 < 256)
    → PrecodesRun coefficients history xs ys r history' ys' → r ≡ 0 → DecodesRun coefficients history ys' room s history'' room' → length room ≡ length ys'
    → (s ≡ 0) × (room' ≡ xs) × (history'' ≡ history')
run-back coefficients history xs ys room r s history' ys' history'' room' octets p z q l =
    let c = numbers_of coefficients in
    let past = numbers_of history in
    let outs = outputs_of c past (numbers_of xs) in
    let d = run-done coefficients history xs ys (sym p.answered ∙ z) in
    let len = lengths-are coefficients history xs ys d.0 in
    let ran = ranges-are c past (numbers_of xs) d.1 in
    let out-is : p.out ≡ outs = run_out false coefficients history xs ys r history' ys' p z in
    let ys-are : ys' ≡ number_octets outs = p.written ∙ given r ys (number_octets p.out) z ∙ ap number_octets out-is in
    let values : numbers_of ys' ≡ outs = ap numbers_of ys-are ∙ values-octets outs (outputs-in c past (numbers_of xs)) in
    let whole : length ys' % 4 ≡ 0 = omega (arith, ap length ys-are, octets-many outs) in
    let in-range : every is_signal (numbers_of ys') ≡ true = ap (every is_signal) values ∙ outputs-in c past (numbers_of xs) in
    let done : s ≡ 0 =
    q.answered
    ∙ rw (
      eq-eqb (length coefficients) 720 len.0,
      eq-eqb (length history) 720 len.1,
      eq-eqb (length ys' % 4) 0 whole,
      eq-eqb (length room) (length ys') l,
      ran.0,
      ran.1,
      in-range,
    ) in
    let in_is : q.out ≡ inputs_of c past (numbers_of ys') = run_out true coefficients history ys' room s history'' room' q done in (
      done,
      q.written ∙ given s room (number_octets q.out) done
          ∙ ap number_octets (in_is ∙ ap (inputs_of c past) values ∙ all_back c past (numbers_of xs) ran.2) ∙ octets-kept xs octets len.2,
      q.past ∙ given s history (number_octets (past_after_all past (numbers_of ys'))) done
          ∙ ap (λ (zs : List ℤ). number_octets (past_after_all past zs)) (values ∙ sym out-is)
          ∙ sym (p.past ∙ given r history (number_octets (past_after_all past p.out)) z),
    )
