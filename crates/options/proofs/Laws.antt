-- Two texts are the same where they are equal, and only there; and what an argument says, name by name. Assumes nothing.
use mathlib.Core.Path.{◌≡◌, refl, ap, ap₂, sym, ◌∙◌}
use mathlib.Core.Bool.{Bool, true, false, cond, ◌&&◌, false≢true}
use mathlib.Core.List.{List, [], ◌∷◌}
use Prim.Native.Nat.{ℕ}
use borrow.Author.Tests.{eq-eqb, eqb-true}
use lib.Dec.{eqb}
use Rattle.ascii.specs.Text.{text}
use Rattle.options.specs.Options.{a_word, unknown, same, dashed, said_number, Named, Says}
use Rattle.options.specs.declared.Argument.{Argument}
use Rattle.options.specs.declared.Argument.TheVariants.{Help, Version, Status, Like, Csv, End}

same_self : (a : List ℕ) → same a a ≡ true
unfolding same
same_self [] = refl
same_self (o ∷ os) = simp (eq-eqb o o refl) (same_self os)

same-equal : (a b : List ℕ) → same a b ≡ true → a ≡ b
unfolding same
same-equal [] [] h = refl
same-equal [] (p ∷ ps) h = absurd (false≢true h)
same-equal (o ∷ os) [] h = absurd (false≢true h)
same-equal (o ∷ os) (p ∷ ps) h = go (eqb o p) refl (same-equal os ps) h
  where
    go : (t : Bool) → eqb o p ≡ t → (same os ps ≡ true → os ≡ ps) → (t && same os ps) ≡ true → (o ∷ os) ≡ (p ∷ ps)
    go true q rest k = ap₂ (λ (x : ℕ) (xs : List ℕ). x ∷ xs) (eqb-true o p q) (rest k)
    go false q rest k = absurd (false≢true k)

-- a test that holds exactly where they are equal
pub tested : (a b : List ℕ) (r : Bool) → (r ≡ true → a ≡ b) → (a ≡ b → r ≡ true) → r ≡ same a b
tested a b r to from = go r (same a b) refl to from
  where
    go : (r t : Bool) → same a b ≡ t → (r ≡ true → a ≡ b) → (a ≡ b → r ≡ true) → r ≡ t
    go true true q to from = refl
    go true false q to from = absurd (false≢true (sym q ∙ ap (same a) (sym (to refl)) ∙ same_self a))
    go false true q to from = from (same-equal a b q)
    go false false q to from = refl

-- one name behind the other, from the last to the first
pub read_by : (w : List ℕ) (a b c d e f g : Argument) → said_number a ≡ cond (dashed w) unknown a_word → Named w (text "--") End a b
    → Named w (text "--csv") Csv b c → Named w (text "--like") Like c d → Named w (text "--status") Status d e
    → Named w (text "--version") Version e f → Named w (text "--help") Help f g → Says w g
read_by w a b c d e f g qa qb qc qd qe qf qg =
    step (text "--help") Help f g qg (step (text "--version") Version e f qf (step (text "--status") Status d e qe (step (text "--like") Like c d qd (step (text "--csv") Csv b c qc (step (text "--") End a b qb qa)))))
  where
    either : (t : Bool) (own other : Argument) → said_number (cond t own other) ≡ cond t (said_number own) (said_number other)
    either true own other = refl
    either false own other = refl

    step : (name : List ℕ) (own other r : Argument) → Named w name own other r → {n : ℕ} → said_number other ≡ n → said_number r ≡ cond (same w name) (said_number own) n
    step name own other r q h = ap said_number q ∙ either (same w name) own other ∙ ap (cond (same w name) (said_number own)) h
