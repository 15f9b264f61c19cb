-- Counts in a list, and what is shown between two moments. Assumes nothing.
use Prim.Native.Nat.{ℕ, suc, ◌+◌, ◌≤◌, ◌<◌}
use native.Mathlib.Omega.{arith}
use native.Mathlib.Nat.{le_refl}
use native.Mathlib.Decide.{le_ind}
use mathlib.Core.Path.{◌≡◌, refl, sym, subst, ◌∙◌}
use mathlib.Core.Logic.{◌⊎◌, inl, inr, ⊎_elim}
use mathlib.Core.List.{List, [], ◌∷◌}
use mathlib.Core.Bool.{Bool, true, false, false≢true, ◌&&◌}
use borrow.Author.Tests.{leb-true, leb-false, le-leb}
use lib.Dec.{leb, eqb}
use Rattle.supervisor.proofs.Laws.{by_cases, clash}
use Rattle.startup.specs.Reports.{at, one, upto, count, Need, reported, shown, Completes, InOrder}

-- COUNTS

pub upto-mono : (c : ℕ) (l : List ℕ) (m n : ℕ) → m ≤ n → upto c l m ≤ upto c l n
upto-mono c l m n h = le_ind (λ k. upto c l m ≤ upto c l k) (le_refl _) (λ k hk ih. omega arith) n h

pub count-self : (c : ℕ) (l : List ℕ) (m : ℕ) → count c l m m ≡ 0
count-self c l m = omega arith

pub count-mono : (c : ℕ) (l : List ℕ) (m n n' : ℕ) → n ≤ n' → count c l m n ≤ count c l m n'
count-mono c l m n n' h = omega (arith, upto-mono c l n n' h)

-- one code more
pub count-step : (c : ℕ) (l : List ℕ) (m n : ℕ) → m ≤ n → count c l m (suc n) ≡ count c l m n + one (eqb (at l n) c)
count-step c l m n h = omega (arith, upto-mono c l m n h)

-- a count that is 0 stays 0 past another code
pub calm_more : (c : ℕ) (l : List ℕ) (m n : ℕ) → m ≤ n → count c l m n ≡ 0 → eqb (at l n) c ≡ false → count c l m (suc n) ≡ 0
calm_more c l m n h z e = rw e (omega (arith, upto-mono c l m n h))

-- and was 0 before
pub calm-less : (c : ℕ) (l : List ℕ) (m n : ℕ) → m ≤ n → count c l m (suc n) ≡ 0 → count c l m n ≡ 0
calm-less c l m n h z = omega (arith, upto-mono c l m n h)

-- and its last code is another
pub calm-last : (c : ℕ) (l : List ℕ) (m n : ℕ) → m ≤ n → count c l m (suc n) ≡ 0 → eqb (at l n) c ≡ false
calm-last c l m n h z = by_cases (eqb (at l n) c) (λ e. absurd (no e z)) (λ e. e)
  where
    no : eqb (at l n) c ≡ true → count c l m (suc n) ≡ 0 → ⊥
    no e = rw e (λ w. omega (arith, upto-mono c l m n h))

-- WHAT IS SHOWN

pub and_left : (a b : Bool) → a && b ≡ true → a ≡ true
and_left true b e = refl
and_left false b e = e

pub and_right : (a b : Bool) → a && b ≡ true → b ≡ true
and_right true b e = e
and_right false b e = absurd (false≢true e)

pub and_intro : (a b : Bool) → a ≡ true → b ≡ true → a && b ≡ true
and_intro a b p q = rw p q

leb-mono : (k a b : ℕ) → a ≤ b → leb k a ≡ true → leb k b ≡ true
leb-mono k a b h e = le-leb k b (omega (arith, leb-true k a e))

reported-mono : (cs l : List ℕ) (m n n' : ℕ) → n ≤ n' → reported cs l m n ≡ true → reported cs l m n' ≡ true
reported-mono [] l m n n' h e = refl
reported-mono (c ∷ cs) l m n n' h e =
    and_intro _ _ (leb-mono 1 _ _ (count-mono c l m n n' h) (and_left _ (reported cs l m n) e))
    (reported-mono cs l m n n' h (and_right (leb 1 (count c l m n)) _ e))

module _ (d : Need) (l : List ℕ) (m : ℕ) where
  -- what is shown stays shown
  pub shown-mono : (n n' : ℕ) → n ≤ n' → shown d l m n ≡ true → shown d l m n' ≡ true
  shown-mono n n' h e =
      and_intro _ _ (leb-mono d.ticks _ _ (count-mono 0 l m n n' h) (and_left _ (reported d.reports l m n) e))
      (reported-mono d.reports l m n n' h (and_right (leb d.ticks (count 0 l m n)) _ e))

  pub shown-less : (n : ℕ) → shown d l m (suc n) ≡ false → shown d l m n ≡ false
  shown-less n f = by_cases (shown d l m n) (λ t. clash _ (shown-mono n (suc n) (omega arith) t) f) (λ e. e)

  le-or-lt : (a b : ℕ) → (a ≤ b) ⊎ (b < a)
  le-or-lt a b = by_cases (leb a b) (λ t. inl (leb-true a b t)) (λ t. inr (leb-false a b t))

  -- it is complete no earlier than it lacks something, and at one place
  pub completes-after : (p n : ℕ) → Completes d l m p → shown d l m n ≡ false → n ≤ p
  completes-after p n o e = ⊎_elim (λ h. clash _ (shown-mono (suc p) n h o.shows) e) (λ h. omega arith) (le-or-lt (suc p) n)

  pub completes-once : (p q : ℕ) → Completes d l m p → Completes d l m q → p ≡ q
  completes-once p q o o' = omega (arith, completes-after p q o o'.lacking, completes-after q p o' o.lacking)

  -- what is shown by the moment n was completed before it
  pub first-shown : (n : ℕ) → shown d l m m ≡ false → m ≤ n → shown d l m n ≡ true → (p : ℕ) × Completes d l m p × (suc p ≤ n)
  first-shown n z h =
      le_ind (λ j. shown d l m j ≡ true → (p : ℕ) × Completes d l m p × (suc p ≤ j)) (λ e. clash _ e z)
      (λ j hj ih e.
      by_cases (shown d l m j) (λ t. let r = ih t in (r.0, r.1, omega (arith, r.2)))
      (λ f. (j, record { since = hj; lacking = f; shows = e }, le_refl _)))
      n
      h

pub in-order-le : (ds : List Need) (l : List ℕ) (m n : ℕ) → InOrder ds l m n → m ≤ n
in-order-le [] l m n e = omega arith
in-order-le (d ∷ ds) l m n c = omega (arith, c.1.since, in-order-le ds l (suc c.0) n c.2)

-- all in order ends at one moment
pub in-order-once : (ds : List Need) (l : List ℕ) (m n n' : ℕ) → InOrder ds l m n → InOrder ds l m n' → n ≡ n'
in-order-once [] l m n n' a c = sym a ∙ c
in-order-once (d ∷ ds) l m n n' a c =
    in-order-once ds l (suc c.0) n n' (subst (λ (z : ℕ). InOrder ds l (suc z) n) (completes-once d l m a.0 c.0 a.1 c.1) a.2) c.2
