-- Laws of a log's lines. Assumes nothing.
use mathlib.Core.Path.{◌≡◌, refl, sym, ap, ◌∙◌, subst}
use mathlib.Core.Bool.{Bool, true, false, cond, ◌&&◌}
use mathlib.Core.Logic.{◌⊎◌, inl, inr}
use mathlib.Core.List.{List, [], ◌∷◌, ◌++◌}
use Prim.Native.Nat.{ℕ, zero, suc, ◌+◌, ◌-◌, ◌*◌, ◌≤◌, ◌<◌}
use native.Mathlib.Numerals.{add-one}
use native.Mathlib.Omega.{arith}
use borrow.Author.Tests.{le-leb, lt-leb, lt-ltb, ltb-false, leb-true, leb-false}
use lib.Dec.{leb, eqb, ltb}
use Rattle.std.proofs.lemmas.Bool.Decides.{nat_tests}
use Rattle.std.specs.Prelude.{position, Option}
use Rattle.std.specs.List.{position_or_len}
use Rattle.std.specs.Option.{unwrap_or}
use Rattle.std.proofs.lemmas.List.Recursion.{is_position_or_len}
use lib.ListN.{length, get_or, take, drop, length-drop, drop_of_length-le}
use lib.Seq.{take-suc, take_all}
use Rattle.ascii.specs.Text.{digit_of, reading}
use Rattle.ascii.proofs.Reading.{reading-more}
use Rattle.startlog.specs.Lines.{most_ticks, line, is_digit, digits, counted, up_to_end, end_of}

-- ---- where a line ends

up-to-within : (l : List ℕ) → up_to_end l ≤ length l
unfolding up_to_end
up-to-within [] = omega arith
up-to-within (o ∷ os) = pick (eqb o 10) (up-to-within os)
  where
    pick : (b : Bool) → up_to_end os ≤ length os → cond b 0 (suc (up_to_end os)) ≤ suc (length os)
    pick true h = omega arith
    pick false h = omega arith

-- at the first newline, or at the end where there is none
pub first-newline : (os : List ℕ) → unwrap_or (position (λ (o : ℕ). eqb o 10) os) (length os) ≡ up_to_end os
unfolding up_to_end
first-newline os =
    let e : up_to_end os ≡ position_or_len (λ (o : ℕ). eqb o 10) os = is_position_or_len up_to_end (λ (o : ℕ). eqb o 10) refl (λ o os. ap (cond (eqb o 10) 0) (omega arith)) os in
    let h = up-to-within os in
    go (ltb (position_or_len (λ (o : ℕ). eqb o 10) os) (length os)) refl e h
  where
    go : (b : Bool) → ltb (position_or_len (λ (o : ℕ). eqb o 10) os) (length os) ≡ b → up_to_end os ≡ position_or_len (λ (o : ℕ). eqb o 10) os
        → up_to_end os ≤ length os → unwrap_or (position (λ (o : ℕ). eqb o 10) os) (length os) ≡ up_to_end os
    go true t e h = simp t (sym e)
    go false f e h = let g = ltb-false _ _ f in simp f (omega arith)

-- and so the line ends, behind what stands in front of its place
pub line-ends : (log rest : List ℕ) (at : ℕ) (r : Option ℕ) (n : ℕ) → rest ≡ drop at log → r ≡ position (λ (o : ℕ). eqb o 10) rest → n ≡ unwrap_or r (length rest)
    → at + n ≡ end_of log at
line-ends log rest at r n e f g =
    ap (λ (k : ℕ). at + k) (g ∙ ap (λ (o : Option ℕ). unwrap_or o (length rest)) f ∙ first-newline rest ∙ ap up_to_end e)

-- past the log's end
pub end-past : (log : List ℕ) (k : ℕ) → length log ≤ k → end_of log k ≡ k
unfolding up_to_end
end-past log k h = rw (drop_of_length-le log h) (omega arith)

-- a line ends within its log
pub end-within : (log : List ℕ) (at : ℕ) → at ≤ length log → end_of log at ≤ length log
end-within log at h = omega (arith, up-to-within (drop at log), length-drop at log)

-- ---- a count's digits

digits_more : (os : List ℕ) (o : ℕ) → digits (os ++ (o ∷ [])) ≡ (digits os && is_digit o)
unfolding digits
digits_more [] o = last (is_digit o)
  where
    last : (b : Bool) → (b && true) ≡ b
    last true = refl
    last false = refl
digits_more (p ∷ os) o = ap (λ (b : Bool). is_digit p && b) (digits_more os o) ∙ regroup (is_digit p) (digits os) (is_digit o)
  where
    regroup : (a b c : Bool) → (a && (b && c)) ≡ ((a && b) && c)
    regroup true b c = refl
    regroup false b c = refl

-- whatever stands behind an octet that is no digit
broken : (os : List ℕ) (k : ℕ) → k < length os → is_digit (get_or os k 0) ≡ false → digits os ≡ false
unfolding digits
broken [] k h e = absurd (omega arith)
broken (o ∷ os) zero h e = ap (λ (b : Bool). b && digits os) e
broken (o ∷ os) (suc k) h e = ap (λ (b : Bool). is_digit o && b) (broken os k (omega arith) e) ∙ never (is_digit o)
  where
    never : (b : Bool) → (b && false) ≡ false
    never true = refl
    never false = refl

-- an octet that is no digit makes it no count
pub not-counted : (ds : List ℕ) (k : ℕ) → k < length ds → is_digit (get_or ds k 0) ≡ false → line 2 0 0 ≡ counted ds
unfolding counted
not-counted ds k h e = simp (broken ds k h e)

-- the number held is the number read, or both are past the most
abbrev pub Same : ℕ → ℕ → Type 0
Same t v = (t ≡ v) ⊎ ((most_ticks < t) × (most_ticks < v))

-- after k digits
pub record Read (ds : List ℕ) (t k : ℕ) : Type 0 where
  pub within : k ≤ length ds
  pub all : digits (take k ds) ≡ true
  pub same : Same t (reading 10 0 (take k ds))

pub read_none : (ds : List ℕ) → Read ds 0 0
unfolding digits reading
read_none ds = record { within = omega arith; all = refl; same = inl refl }

is-digit : (o : ℕ) → is_digit o ≡ true → (48 ≤ o) × (o ≤ 57)
is-digit o e = (grind (arith, nat_tests), grind (arith, nat_tests))

-- one more
pub read_more : (ds : List ℕ) (t k t' : ℕ) → Read ds t k → k < length ds → is_digit (get_or ds k 0) ≡ true
    → t' ≡ cond (leb t most_ticks) (t * 10 + (get_or ds k 0 - 48)) t → Read ds t' (k + 1)
read_more ds t k t' r h g e =
    let w = is-digit (get_or ds k 0) g in
    let lo = w.0 in
    let hi = w.1 in
    let o = get_or ds k 0 in
    let next : take (k + 1) ds ≡ take k ds ++ (o ∷ []) = ap (λ (n : ℕ). take n ds) (add-one k) ∙ take-suc ds k 0 h in
    let d : digit_of o ≡ o - 48 = simp (lt-ltb o 65 (omega arith)) in
    let v : reading 10 0 (take (k + 1) ds) ≡ reading 10 0 (take k ds) * 10 + (o - 48) = ap (reading 10 0) next ∙ reading-more 10 0 (take k ds) o
    ∙ ap (λ (x : ℕ). reading 10 0 (take k ds) * 10 + x) d in
    record {
      within = omega arith;
      all = ap digits next ∙ digits_more (take k ds) o ∙ simp (r.all, g);
      same = go (leb t most_ticks) refl r.same v;
    }
  where
    go : (b : Bool) → leb t most_ticks ≡ b → Same t (reading 10 0 (take k ds))
        → reading 10 0 (take (k + 1) ds) ≡ reading 10 0 (take k ds) * 10 + (get_or ds k 0 - 48) → Same t' (reading 10 0 (take (k + 1) ds))
    go true q (inl x) v = let f : t' ≡ t * 10 + (get_or ds k 0 - 48) = e ∙ ap (λ (b : Bool). cond b (t * 10 + (get_or ds k 0 - 48)) t) q in inl (omega arith)
    go true q (inr x) v = absurd (omega (arith, leb-true t most_ticks q, x.0))
    go false q (inl x) v = let f : t' ≡ t = e ∙ ap (λ (b : Bool). cond b (t * 10 + (get_or ds k 0 - 48)) t) q in
        inr (omega (arith, leb-false t most_ticks q), omega (arith, leb-false t most_ticks q))
    go false q (inr x) v = let f : t' ≡ t = e ∙ ap (λ (b : Bool). cond b (t * 10 + (get_or ds k 0 - 48)) t) q in
        inr (omega (arith, leb-false t most_ticks q), omega (arith, x.1))

-- all of them
whole : (ds : List ℕ) (t k : ℕ) → Read ds t k → length ds ≤ k → (digits ds ≡ true) × Same t (reading 10 0 ds)
whole ds t k r h = let e = take_all k ds h in (ap digits (sym e) ∙ r.all, subst (λ (l : List ℕ). Same t (reading 10 0 l)) e r.same)

pub none-counted : (ds : List ℕ) (t k : ℕ) → Read ds t k → length ds ≤ k → (t ≡ 0) ⊎ (most_ticks < t) → line 4 0 0 ≡ counted ds
unfolding counted
none-counted ds t k r h z = pick (whole ds t k r h).0 (whole ds t k r h).1 z
  where
    pick : digits ds ≡ true → Same t (reading 10 0 ds) → (t ≡ 0) ⊎ (most_ticks < t) → line 4 0 0 ≡ counted ds
    pick d (inl e) (inl z) = simp (d, lt-leb 1 (reading 10 0 ds) (omega arith))
    pick d (inr e) (inl z) = absurd (omega (arith, e.0))
    pick d (inl e) (inr z) = simp (d, le-leb 1 (reading 10 0 ds) (omega arith), lt-leb (reading 10 0 ds) most_ticks (omega arith))
    pick d (inr e) (inr z) = simp (d, le-leb 1 (reading 10 0 ds) (omega (arith, e.1)), lt-leb (reading 10 0 ds) most_ticks e.1)

pub some-counted : (ds : List ℕ) (t k : ℕ) → Read ds t k → length ds ≤ k → (t ≡ 0 → ⊥) → t ≤ most_ticks → line 0 0 t ≡ counted ds
unfolding counted
some-counted ds t k r h z l = pick (whole ds t k r h).0 (whole ds t k r h).1
  where
    pick : digits ds ≡ true → Same t (reading 10 0 ds) → line 0 0 t ≡ counted ds
    pick d (inl e) = simp (d, le-leb 1 (reading 10 0 ds) (omega arith), le-leb (reading 10 0 ds) most_ticks (omega arith)) (ap (line 0 0) e)
    pick d (inr e) = absurd (omega (arith, e.0))
