-- Laws of runs: what one turn adds, in either direction. Assumes nothing.
use mathlib.Core.Path.{◌≡◌, refl, sym, ap, ◌∙◌}
use mathlib.Core.Bool.{Bool, true, false, ◌&&◌}
use mathlib.Core.List.{List, [], ◌∷◌, ◌++◌, append_assoc, append-nil}
use Prim.Native.Nat.{ℕ, suc, ◌+◌, ◌*◌, ◌%◌, ◌≤◌}
use native.Mathlib.Numerals.{add-one}
use native.Mathlib.Omega.{arith}
use borrow.Author.Tests.{eqb-true}
use lib.Dec.{eqb}
use lib.IntN.{ℤ, pos}
use lib.ListN.{length, get_or, take, drop, drop_of_length-le}
use lib.Seq.{take_all, length-take-le, drop-cons}
use Rattle.numbers.specs.Promises.{numbers_of, number_octets, with_number}
use Rattle.ranges.specs.Ranges.{is_coefficient, every}
use Rattle.samples.specs.Samples.{is_signal, past_after}
use Rattle.precoder.specs.Precoder.{line_of}
use Rattle.precoder.specs.Runs.{past_after_all, lines_of, lengths_right, ranges_right}
use Rattle.precoder.proofs.Recipe.{turn_of, turned_of}
use Rattle.ranges.proofs.Laws.{both}
use Rattle.numbers.proofs.Laws.{numbers-many, octets-none, octets-append, with-next}

-- ---- the checks

pub lengths-are : (coefficients history symbols room : List ℕ) → lengths_right coefficients history symbols room ≡ true
    → (length coefficients ≡ 720) × (length history ≡ 720) × (length symbols % 4 ≡ 0) × (length room ≡ length symbols)
lengths-are coefficients history symbols room e =
    let p = both (eqb (length coefficients) 720) (eqb (length history) 720 && (eqb (length symbols % 4) 0 && eqb (length room) (length symbols))) e in
    let q = both (eqb (length history) 720) (eqb (length symbols % 4) 0 && eqb (length room) (length symbols)) p.1 in
    let r = both (eqb (length symbols % 4) 0) (eqb (length room) (length symbols)) q.1 in
    (eqb-true _ _ p.0, eqb-true _ _ q.0, eqb-true _ _ r.0, eqb-true _ _ r.1)

pub ranges-are : (coefficients past symbols : List ℤ) → ranges_right coefficients past symbols ≡ true
    → (every is_coefficient coefficients ≡ true) × (every is_signal past ≡ true) × (every is_signal symbols ≡ true)
ranges-are coefficients past symbols e =
    let p = both (every is_coefficient coefficients) (every is_signal past && every is_signal symbols) e in
    let q = both (every is_signal past) (every is_signal symbols) p.1 in
    (p.0, q.0, q.1)

-- a past keeps its 180 outputs
pub past-length : (past ys : List ℤ) → length past ≡ 180 → length (past_after_all past ys) ≡ 180
unfolding past_after_all
past-length past [] h = h
past-length past (y ∷ ys) h = past-length (past_after past y) ys (ap suc (length-take-le 179 past (omega arith)))

-- ---- a turn

-- number i, and the rest
number-next : (os : List ℕ) (i : ℕ) → 4 * i + 4 ≤ length os → drop i (numbers_of os) ≡ get_or (numbers_of os) i (pos 0) ∷ drop (i + 1) (numbers_of os)
number-next os i h =
    drop-cons (numbers_of os) i (pos 0) (omega (arith, numbers-many os))
    ∙ ap (λ (n : ℕ). get_or (numbers_of os) i (pos 0) ∷ drop n (numbers_of os)) (sym (add-one i))

-- nothing is left behind the last
pub number-end : (os : List ℕ) (i : ℕ) → length os ≤ 4 * i → drop i (numbers_of os) ≡ []
number-end os i h = drop_of_length-le (numbers_of os) {i = i} (omega (arith, numbers-many os))

-- what remains begins with number i
pub remains : (test : ℤ → Bool) (symbols : List ℕ) (i : ℕ) → 4 * i + 4 ≤ length symbols
    → every test (drop i (numbers_of symbols)) ≡ (test (get_or (numbers_of symbols) i (pos 0)) && every test (drop (i + 1) (numbers_of symbols)))
unfolding every
remains test symbols i h = ap (every test) (number-next symbols i h)

-- number i, written, is the first of what remained
pub written-turn : (room : List ℕ) (i : ℕ) (z : ℤ) (rest : List ℤ) → 4 * i + 4 ≤ length room
    → take (4 * (i + 1)) (with_number room i z) ++ number_octets rest ≡ take (4 * i) room ++ number_octets (z ∷ rest)
written-turn room i z rest h =
    ap (λ (a : List ℕ). a ++ number_octets rest) (with-next room i z h)
    ∙ append_assoc (take (4 * i) room) (number_octets (z ∷ [])) (number_octets rest)
    ∙ ap (λ (a : List ℕ). take (4 * i) room ++ a) (sym (octets-append (z ∷ []) rest))

-- with nothing left, all is written
pub written-end : (room : List ℕ) (i : ℕ) (rest : List ℤ) → length room ≤ 4 * i → rest ≡ [] → take (4 * i) room ++ number_octets rest ≡ room
written-end room i rest h e =
    ap (λ (z : List ℤ). take (4 * i) room ++ number_octets z) e ∙ ap (λ (l : List ℕ). take (4 * i) room ++ l) octets-none
    ∙ append-nil (take (4 * i) room) ∙ take_all (4 * i) room h

module _ (back : Bool) (coefficients past : List ℤ) where
  -- what comes out for what remains
  abbrev rest : List ℤ → List ℤ
  rest zs = turned_of back coefficients past zs

  -- and the past after that
  abbrev end : List ℤ → List ℤ
  end zs = past_after_all past (lines_of back zs (rest zs))

  module _ (symbols : List ℕ) (i : ℕ) (h : 4 * i + 4 ≤ length symbols) where
    abbrev z : ℤ
    z = get_or (numbers_of symbols) i (pos 0)

    abbrev w : ℤ
    w = turn_of back coefficients past z

    abbrev others : List ℤ
    others = drop (i + 1) (numbers_of symbols)

    abbrev next : List ℤ
    next = past_after past (line_of back z w)

    pub turned_turn : rest (drop i (numbers_of symbols)) ≡ w ∷ turned_of back coefficients next others
    unfolding turned_of
    turned_turn = ap rest (number-next symbols i h)

    pub past-turn : end (drop i (numbers_of symbols)) ≡ past_after_all next (lines_of back others (turned_of back coefficients next others))
    unfolding turned_of past_after_all
    past-turn = ap end (number-next symbols i h) ∙ go back w (turned_of back coefficients next others)
      where
        go : (b : Bool) (v : ℤ) (vs : List ℤ)
            → past_after_all past (lines_of b (z ∷ others) (v ∷ vs)) ≡ past_after_all (past_after past (line_of b z v)) (lines_of b others vs)
        go false v vs = refl
        go true v vs = refl

  -- with nothing left, nothing more happens
  module _ (symbols : List ℕ) (i : ℕ) (h : length symbols ≤ 4 * i) where
    pub turned-end : rest (drop i (numbers_of symbols)) ≡ []
    unfolding turned_of
    turned-end = ap rest (number-end symbols i h)

    pub past_end : end (drop i (numbers_of symbols)) ≡ past
    unfolding turned_of past_after_all
    past_end = ap end (number-end symbols i h) ∙ go back
      where
        go : (b : Bool) → past_after_all past (lines_of b [] []) ≡ past
        go false = refl
        go true = refl
