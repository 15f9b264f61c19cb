-- Laws of octets taken one after the other. Assumes nothing.
use mathlib.Core.Path.{◌≡◌, refl, sym, ap, ◌∙◌, subst}
use mathlib.Core.Bool.{Bool, true, false, cond, not, ◌&&◌, ◌||◌, false≢true}
use mathlib.Core.List.{List, [], ◌∷◌, ◌++◌, append_assoc, append-nil}
use Prim.Native.Nat.{ℕ, suc, ◌+◌, ◌-◌, ◌≤◌, ◌<◌, min}
use native.Mathlib.Decide.{dec_lt}
use native.Mathlib.Omega.{arith}
use borrow.Author.Tests.{ne_eqb}
use lib.Dec.{eqb}
use lib.ListN.{length, get_or, take, drop, set, length-set, length-append}
use Rattle.octets.proofs.Whole.{drop_all}
use lib.Seq.{drop-cons, take-suc-set, length-take-le}
use Rattle.octets.specs.Bits.{part}
use Rattle.eoc.specs.Message.{flag, escape, flag_mark, escape_mark}
use Rattle.eoc.specs.Reading.{ends_escape, other_escape, decoded, unescaped}

-- ---- tests

or-false : (b : Bool) → b || false ≡ b
or-false true = refl
or-false false = refl

or_assoc : (a b c : Bool) → (a || b) || c ≡ a || (b || c)
or_assoc true b c = refl
or_assoc false b c = refl

or-none : (a b : Bool) → a || b ≡ false → (a ≡ false) × (b ≡ false)
or-none true b e = absurd (false≢true (sym e))
or-none false b e = (refl, e)

-- whether an octet ends an escape
abbrev pub ends : ℕ → Bool
ends o = eqb o flag_mark || eqb o escape_mark

-- one octet put behind those at the front
put_next : (l : List ℕ) (i a : ℕ) (more : List ℕ) → i < length l → take (i + 1) (set l i a) ++ more ≡ take i l ++ (a ∷ more)
put_next l i a more h =
    let e : i + 1 ≡ suc i = omega arith in
    ap (λ (n : ℕ). take n (set l i a) ++ more) e ∙ ap (λ (x : List ℕ). x ++ more) (take-suc-set l i a h) ∙ append_assoc (take i l) (a ∷ []) more

-- ---- what is left, from place k to before `end`

module _ (s : List ℕ) (end : ℕ) where
  abbrev pub rest : ℕ → List ℕ
  rest k = part k (end - k) s

  pub rest-next : (k : ℕ) → k < end → end ≤ length s → rest k ≡ get_or s k 0 ∷ rest (k + 1)
  rest-next k h l =
      let e : end - k ≡ suc (end - (k + 1)) = omega arith in
      let f : suc k ≡ k + 1 = omega arith in
      ap (λ (n : ℕ). part k n s) e ∙ ap (take (suc (end - (k + 1)))) (drop-cons s k 0 (omega arith))
      ∙ ap (λ (n : ℕ). get_or s k 0 ∷ take (end - (k + 1)) (drop n s)) f

  pub rest-none : (k : ℕ) → end ≤ k → rest k ≡ []
  rest-none k h = let e : end - k ≡ 0 = omega arith in ap (λ (n : ℕ). part k n s) e

  -- ---- another escape among them

  -- the octet behind the k-th ends an escape, where a flag stands at the end
  pub ends-rest : (k : ℕ) → k < end → end < length s → get_or s end 0 ≡ flag → ends_escape (rest (k + 1)) ≡ ends (get_or s (k + 1) 0)
  ends-rest k h l e = pick (dec_lt (k + 1) end)
    where
      pick : Dec (k + 1 < end) → ends_escape (rest (k + 1)) ≡ ends (get_or s (k + 1) 0)
      pick (yes p) = ap ends_escape (rest-next (k + 1) p (omega arith))
      pick (no p) =
          let q : end ≡ k + 1 = omega arith in
          ap ends_escape (rest-none (k + 1) (omega arith)) ∙ sym (ap ends (ap (λ (n : ℕ). get_or s n 0) (sym q) ∙ e))

  abbrev pub Others : Bool → ℕ → Type 0
  Others other k = (other || other_escape (rest k)) ≡ other_escape (rest 1)

  pub others-next : (other other' : Bool) (k : ℕ) → k < end → end < length s → get_or s end 0 ≡ flag → Others other k
      → other' ≡ other || (eqb (get_or s k 0) escape && not (ends (get_or s (k + 1) 0))) → Others other' (k + 1)
  unfolding other_escape
  others-next other other' k h l e f g =
      let t = eqb (get_or s k 0) escape && not (ends (get_or s (k + 1) 0)) in
      let r : other_escape (rest k) ≡ t || other_escape (rest (k + 1)) =
      ap other_escape (rest-next k h (omega arith))
      ∙ ap (λ (b : Bool). (eqb (get_or s k 0) escape && not b) || other_escape (rest (k + 1))) (ends-rest k h l e) in
      ap (λ (b : Bool). b || other_escape (rest (k + 1))) g ∙ or_assoc other t (other_escape (rest (k + 1))) ∙ ap (λ (b : Bool). other || b) (sym r) ∙ f

  pub others-all : (other : Bool) (k : ℕ) → end ≤ k → Others other k → other ≡ other_escape (rest 1)
  unfolding other_escape
  others-all other k h f = sym (or-false other) ∙ ap (λ (l : List ℕ). other || other_escape l) (sym (rest-none k h)) ∙ f

-- ---- without escapes

-- no other escape, behind a 7D or not
abbrev Clean : Bool → List ℕ → Type 0
Clean behind l = (behind && not (ends_escape l)) || other_escape l ≡ false

-- a 7D is passed over
escape-on : (behind : Bool) (o : ℕ) (os : List ℕ) → o ≡ escape → Clean behind (o ∷ os) → Clean true os × (decoded behind (o ∷ os) ≡ decoded true os)
unfolding other_escape decoded
escape-on true o os e c = absurd (false≢true (sym (rw e at c)))
escape-on false o os e c = (rw e at c, rw e refl)

-- any other octet stands for one
octet-on : (behind : Bool) (o v : ℕ) (os : List ℕ) → (o ≡ escape → ⊥) → v ≡ cond behind (cond (eqb o flag_mark) flag escape) o → Clean behind (o ∷ os)
    → Clean false os × (decoded behind (o ∷ os) ≡ v ∷ decoded false os)
unfolding other_escape decoded
octet-on true o v os n e c =
    let w = or-none (not (ends_escape (o ∷ os))) (other_escape (o ∷ os)) c in
    ((or-none (eqb o escape && not (ends_escape os)) (other_escape os) w.1).1, ap (λ (x : ℕ). x ∷ decoded false os) (sym e))
octet-on false o v os n e c = (
  (or-none (eqb o escape && not (ends_escape os)) (other_escape os) c).1,
  ap (λ (b : Bool). cond b (decoded true os) (o ∷ decoded false os)) (ne_eqb o escape n) ∙ ap (λ (x : ℕ). x ∷ decoded false os) (sym e),
)

module _ (s fields : List ℕ) (at : ℕ) (behind : Bool) (k : ℕ) where
  -- what stands at the front so far, and what is left, behind a 7D or not
  pub record Unescaping : Type 0 where
    pub size : length fields ≡ 77
    pub within : at ≤ 77
    pub clean : Clean behind (drop k s)
    pub joined : take at fields ++ decoded behind (drop k s) ≡ unescaped s

  -- how many octets there are without escapes
  joined_length : Unescaping → at + length (decoded behind (drop k s)) ≡ length (unescaped s)
  joined_length u =
      sym (ap (λ (n : ℕ). n + length (decoded behind (drop k s))) (length-take-le at fields (omega (arith, u.size, u.within))))
      ∙ sym (length-append (take at fields) (decoded behind (drop k s))) ∙ ap length u.joined

  -- all of them
  pub all-put : length s ≤ k → Unescaping → (at ≡ min (length (unescaped s)) 78) × (take at fields ≡ unescaped s)
  unfolding decoded
  all-put h u =
      let none : decoded behind (drop k s) ≡ [] = ap (decoded behind) (drop_all k s h) in (
        omega (arith, joined_length u, ap length none, u.within),
        sym (append-nil (take at fields)) ∙ ap (λ (x : List ℕ). take at fields ++ x) (sym none) ∙ u.joined,
      )

module _ (s fields : List ℕ) (at k : ℕ) (h : k < length s) where
  abbrev o : ℕ
  o = get_or s k 0

  -- what is left: the next octet, and what is behind it
  left-next : drop k s ≡ o ∷ drop (k + 1) s
  left-next = let f : suc k ≡ k + 1 = omega arith in drop-cons s k 0 h ∙ ap (λ (n : ℕ). o ∷ drop n s) f

  pub escape-next : (behind : Bool) → o ≡ escape → Unescaping s fields at behind k → Unescaping s fields at true (k + 1)
  escape-next behind e u =
      let w = escape-on behind o (drop (k + 1) s) e (subst (Clean behind) left-next u.clean) in
      record {
        size = u.size;
        within = u.within;
        clean = w.0;
        joined = ap (λ (x : List ℕ). take at fields ++ x) (sym (ap (decoded behind) left-next ∙ w.1)) ∙ u.joined;
      }

  pub octet-next : (behind : Bool) (v : ℕ) → at < 77 → (o ≡ escape → ⊥) → v ≡ cond behind (cond (eqb o flag_mark) flag escape) o
      → Unescaping s fields at behind k → Unescaping s (set fields at v) (at + 1) false (k + 1)
  octet-next behind v l n e u =
      let w = octet-on behind o v (drop (k + 1) s) n e (subst (Clean behind) left-next u.clean) in
      record {
        size = length-set fields at v ∙ u.size;
        within = omega arith;
        clean = w.0;
        joined = put_next fields at v (decoded false (drop (k + 1) s)) (omega (arith, u.size))
            ∙ ap (λ (x : List ℕ). take at fields ++ x) (sym (ap (decoded behind) left-next ∙ w.1)) ∙ u.joined;
      }

  -- too many
  pub too_many : (behind : Bool) → at ≡ 77 → (o ≡ escape → ⊥) → Unescaping s fields at behind k → 78 ≡ min (length (unescaped s)) 78
  too_many behind e n u =
      let w = octet-on behind o _ (drop (k + 1) s) n refl (subst (Clean behind) left-next u.clean) in
      omega (arith, joined_length s fields at behind k u, ap length (ap (decoded behind) left-next ∙ w.1))
