-- Laws of text by forms and tables. Assumes nothing.
use mathlib.Core.Path.{◌≡◌, refl, sym, ap, subst, ◌∙◌}
use mathlib.Core.Bool.{Bool, true, false}
use mathlib.Core.Logic.{⊎_elim}
use mathlib.Core.List.{List, [], ◌∷◌, ◌++◌, append-nil, append_assoc}
use Prim.Native.Nat.{ℕ, zero, suc, ◌+◌, ◌≤◌, ◌<◌}
use native.Mathlib.Decide.{dec_le}
use native.Mathlib.Nat.{eq-or-lt_of_le}
use native.Mathlib.Numerals.{add-one}
use native.Mathlib.Omega.{arith}
use borrow.Author.Tests.{eq-eqb, ne_eqb}
use lib.Dec.{eqb}
use lib.ListN.{length, get_or, drop, drop_of_length-le}
use Rattle.ascii.specs.Text.{decimal}
use Rattle.ascii.specs.declared.Text.{Text}
use Rattle.ascii.specs.Promises.{Puts}
use Rattle.ascii.proofs.Room.{puts-none, puts-more, puts_as}
use Rattle.forms.specs.Forms.{first_of, formed_by, formed}

-- ---- a text put so far

-- what stands in the room, and with the rest is the whole
pub record Through (whole : List ℕ) (old : Text) (rest : List ℕ) (new : Text) : Type 0 where
  pub done : List ℕ
  pub puts : Puts old done new
  pub is : done ++ rest ≡ whole

pub through-none : (whole : List ℕ) (old : Text) → Through whole old whole old
through-none whole old = record { done = []; puts = puts-none old; is = refl }

pub through-more : {whole xs rest rest' : List ℕ} {old mid new : Text} → Through whole old rest mid → Puts mid xs new → rest ≡ xs ++ rest'
    → Through whole old rest' new
through-more {xs = xs} {rest' = rest'} s p e =
    record {
      done = s.done ++ xs;
      puts = puts-more s.puts p;
      is = append_assoc s.done xs rest' ∙ ap (λ (l : List ℕ). s.done ++ l) (sym e) ∙ s.is;
    }

pub through-same : {whole rest rest' : List ℕ} {old new : Text} → Through whole old rest new → rest ≡ rest' → Through whole old rest' new
through-same s e = record { done = s.done; puts = s.puts; is = ap (λ (l : List ℕ). s.done ++ l) (sym e) ∙ s.is }

pub through-all : {whole rest : List ℕ} {old new : Text} → Through whole old rest new → rest ≡ [] → Puts old whole new
through-all s e = puts_as s.puts (sym (append-nil s.done) ∙ ap (λ (l : List ℕ). s.done ++ l) (sym e) ∙ s.is)

-- ---- the rest of a list from a place in it

pub rest_at : (l : List ℕ) (k : ℕ) → k < length l → drop k l ≡ get_or l k 0 ∷ drop (k + 1) l
rest_at l k h = go l k h ∙ ap (λ (n : ℕ). get_or l k 0 ∷ drop n l) (sym (add-one k))
  where
    go : (l : List ℕ) (k : ℕ) → k < length l → drop k l ≡ get_or l k 0 ∷ drop (suc k) l
    go [] k h = absurd (omega arith)
    go (x ∷ l) zero h = refl
    go (x ∷ l) (suc k) h = go l k (omega arith)

-- ---- forms

module _ (form ns : List ℕ) (k : ℕ) (h : k < length form) where
  form-at : (b : Bool) → eqb (get_or form k 0) 35 ≡ b → formed (drop k form) ns ≡ formed_by b (get_or form k 0) (formed (drop (k + 1) form)) ns
  unfolding formed
  form-at b e =
      ap (λ (l : List ℕ). formed l ns) (rest_at form k h) ∙ ap (λ (x : Bool). formed_by x (get_or form k 0) (formed (drop (k + 1) form)) ns) e

  pub form-octet : (get_or form k 0 ≡ 35 → ⊥) → formed (drop k form) ns ≡ (get_or form k 0 ∷ []) ++ formed (drop (k + 1) form) ns
  unfolding formed_by
  form-octet o = form-at false (ne_eqb _ _ o)

-- a mark, with the numbers that are left
module _ (form : List ℕ) (k : ℕ) (h : k < length form) (o : get_or form k 0 ≡ 35) where
  pub form-next : {ns rest : List ℕ} {n : ℕ} → ns ≡ n ∷ rest → formed (drop k form) ns ≡ decimal n ++ formed (drop (k + 1) form) rest
  unfolding first_of formed_by
  form-next {ns} e =
      form-at form ns k h true (eq-eqb _ _ o) ∙ ap (λ (l : List ℕ). first_of l ++ formed (drop (k + 1) form) (drop 1 l)) e

  pub form-over : (ns : List ℕ) → length ns ≡ 0 → formed (drop k form) ns ≡ formed (drop (k + 1) form) ns
  unfolding first_of formed_by
  form-over [] e = form-at form [] k h true (eq-eqb _ _ o)
  form-over (n ∷ ns) e = absurd (omega arith)

pub form-end : (form ns : List ℕ) (k : ℕ) → length form ≤ k → formed (drop k form) ns ≡ []
unfolding formed
form-end form ns k h = ap (λ (l : List ℕ). formed l ns) (drop_of_length-le form h)

-- ---- rules of numbers, one by one

-- a rule holds of n numbers from k on
abbrev pub Each : (ℕ → Type 0) → ℕ → ℕ → Type 0
Each P k zero = Unit {0}
Each P k (suc n) = P k × Each P (suc k) n

-- and of those behind them, so of every number
pub each : (P : ℕ → Type 0) (n : ℕ) → Each P 0 n → ((p : ℕ) → n ≤ p → P p) → (p : ℕ) → P p
each P n a rest p = go (dec_le n p)
  where
    at : (k m : ℕ) → Each P k m → k ≤ p → p < k + m → P p
    at k zero a l h = absurd (omega arith)
    at k (suc m) a l h = ⊎_elim (λ e. subst P e a.0) (λ i. at (suc k) m a.1 i (omega arith)) (eq-or-lt_of_le l)

    go : Dec (n ≤ p) → P p
    go (yes h) = rest p h
    go (no h) = at 0 n a (omega arith) (omega arith)
