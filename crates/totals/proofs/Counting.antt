-- Laws of the totals. Assumes nothing.
use mathlib.Core.Path.{◌≡◌, refl, sym, ap, ◌∙◌}
use mathlib.Core.Bool.{Bool, true, false, cond}
use mathlib.Core.List.{List, [], ◌∷◌, ◌++◌}
use Prim.Native.Nat.{ℕ, zero, suc, ◌+◌, ◌-◌, ◌≤◌, ◌<◌}
use native.Mathlib.Numerals.{add-one}
use native.Mathlib.Omega.{arith}
use borrow.Author.Tests.{eq-eqb, ne_eqb, eqb-true, eqb-false}
use lib.Dec.{eqb}
use lib.ListN.{length}
use Rattle.std.specs.List.{count_by}
use Rattle.std.proofs.lemmas.List.Recursion.{is_count_by}
use Rattle.ascii.specs.Text.{text}
use Rattle.forms.specs.Forms.{formed}
use Rattle.card.specs.Words.{name_of, todo}
use Rattle.totals.specs.Totals.{how_many, written, joint, verdict_line, verdict_lines}

-- ---- how many are x

one-not : (y x : ℕ) → (y ≡ x → ⊥) → ◌≡◌ {A = ℕ} 0 (cond (eqb y x) 1 0)
one-not y x n = simp (ne_eqb y x n)

pub one-small : (b : Bool) → cond b 1 0 ≤ 1
one-small true = omega arith
one-small false = omega arith

pub many-counted : (x : ℕ) (ys : List ℕ) → how_many x ys ≡ count_by (λ y. eqb y x) ys
unfolding how_many
many-counted x ys = is_count_by (how_many x) (λ y. eqb y x) refl (λ y ys. pick (eqb y x) (how_many x ys)) ys
  where
    pick : (b : Bool) (n : ℕ) → cond b 1 0 + n ≡ cond b (1 + n) n
    pick true n = refl
    pick false n = omega arith

pub many-within : (x : ℕ) (ys : List ℕ) → how_many x ys ≤ length ys
unfolding how_many
many-within x [] = omega arith
many-within x (y ∷ ys) = omega (arith, many-within x ys, one-small (eqb y x))

-- ---- lines for verdicts

pub line-none : (n count : ℕ) → count ≡ 0 → [] ≡ verdict_line n count
unfolding verdict_line
line-none n count e = simp (eq-eqb count 0 e)

pub line-some : (n count w : ℕ) → (count ≡ 0 → ⊥) → w ≡ written count
    → formed (text "# ") (w ∷ []) ++ name_of n ++ joint n ++ todo n ++ text "\n" ≡ verdict_line n count
unfolding verdict_line
line-some n count w h e =
    ap (λ (k : ℕ). formed (text "# ") (k ∷ []) ++ name_of n ++ joint n ++ todo n ++ text "\n") e ∙ (simp (ne_eqb count 0 h))

pub lines_none : (ranks : List ℕ) → [] ≡ verdict_lines 0 ranks
unfolding verdict_lines
lines_none ranks = refl

pub lines_next : (n c : ℕ) (ranks : List ℕ) → c ≡ how_many n ranks → verdict_lines n ranks ++ verdict_line n c ≡ verdict_lines (n + 1) ranks
unfolding verdict_lines
lines_next n c ranks e =
    ap (λ (m : ℕ). verdict_lines n ranks ++ verdict_line n m) e ∙ ap (λ (k : ℕ). verdict_lines k ranks) (sym (add-one n))

-- ---- the counts of the lines add up to the cards

-- how many cards have a verdict below n, counted verdict by verdict
unfoldable pub counted_below : ℕ → List ℕ → ℕ
counted_below zero ranks = 0
counted_below (suc n) ranks = counted_below n ranks + how_many n ranks

-- every card's verdict is below n
abbrev pub AllBelow : ℕ → List ℕ → Type 0
AllBelow n [] = Unit {0}
AllBelow n (y ∷ ys) = (y < n) × AllBelow n ys

none_below : (n : ℕ) → counted_below n [] ≡ 0
unfolding counted_below how_many
none_below zero = refl
none_below (suc n) = omega (arith, none_below n)

-- one card more is counted once, with the verdict that it has
past-below : (n y : ℕ) (ys : List ℕ) → n ≤ y → counted_below n (y ∷ ys) ≡ counted_below n ys
unfolding counted_below how_many
past-below zero y ys h = refl
past-below (suc n) y ys h =
    omega (arith, past-below n y ys (omega arith), one-not y n (λ e. omega arith))

one_below : (n y : ℕ) (ys : List ℕ) → y < n → counted_below n (y ∷ ys) ≡ suc (counted_below n ys)
unfolding counted_below how_many
one_below zero y ys h = absurd (omega arith)
one_below (suc n) y ys h = pick (eqb y n) refl (one_below n y ys)
  where
    pick : (b : Bool) → eqb y n ≡ b → (y < n → counted_below n (y ∷ ys) ≡ suc (counted_below n ys))
        → counted_below n (y ∷ ys) + (cond b 1 0 + how_many n ys) ≡ suc (counted_below n ys + how_many n ys)
    pick true e rest = omega (arith, past-below n y ys (omega (arith, eqb-true y n e)))
    pick false e rest = let d : (y ≡ n → ⊥) = eqb-false y n e in omega (arith, rest (omega arith))

-- the lines' counts are all the cards
pub all-counted : (n : ℕ) (ranks : List ℕ) → AllBelow n ranks → counted_below n ranks ≡ length ranks
all-counted n [] h = none_below n
all-counted n (y ∷ ys) h = one_below n y ys h.0 ∙ ap suc (all-counted n ys h.1)

-- fine and not fine are all the cards
pub fine-and-not : (x : ℕ) (ranks : List ℕ) → how_many x ranks + (length ranks - how_many x ranks) ≡ length ranks
fine-and-not x ranks = omega (arith, many-within x ranks)
