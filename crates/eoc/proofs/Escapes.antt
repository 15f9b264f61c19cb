-- Laws of escapes: octets with their escapes have no flag and no other escape, and stand for the octets; no other octets do. Assumes nothing.
use mathlib.Core.Path.{◌≡◌, refl, sym, ap, ap₂, ◌∙◌, subst}
use mathlib.Core.Bool.{Bool, true, false, cond, not, ◌&&◌, ◌||◌, false≢true}
use mathlib.Core.List.{List, [], ◌∷◌, ◌++◌, append_assoc, append-nil}
use Prim.Native.Nat.{ℕ, zero, suc, ◌*◌, ◌≤◌, ◌<◌}
use native.Mathlib.Omega.{arith}
use borrow.Author.Tests.{ltb-true, eqb-true, eqb-false, not-false}
use lib.Dec.{eqb, ltb, lit≤}
use lib.ListN.{length, get_or, take, length-append}
use lib.Seq.{take-suc}
use Rattle.answer.proofs.Order.{both}
use Rattle.octets.proofs.Laws.{Octets}
use Rattle.octets.proofs.Whole.{append-octets}
use Rattle.eoc.specs.Message.{flag, escape, flag_mark, escape_mark, encoded, escaped}
use Rattle.eoc.specs.Reading.{among, ends_escape, other_escape, decoded, unescaped}

-- ---- whether an octet stands among others

-- of two tests none holds
pub neither : (a b : Bool) → a || b ≡ false → (a ≡ false) × (b ≡ false)
neither true b e = (e, cc)
neither false b e = (refl, e)

-- an octet that is not among others stands at none of their places
pub among_none : (o : ℕ) (s : List ℕ) → among o s ≡ false → (i : ℕ) → i < length s → get_or s i 0 ≡ o → ⊥
unfolding among
among_none o [] e i h q = absurd (omega arith)
among_none o (p ∷ s) e zero h q = eqb-false p o (neither (eqb p o) (among o s) e).0 q
among_none o (p ∷ s) e (suc i) h q = among_none o s (neither (eqb p o) (among o s) e).1 i (omega arith) q

-- ---- octets in lists

pub nil-octets : Octets []
nil-octets i = lit≤ tt

pub cons-octets : (o : ℕ) (s : List ℕ) → o < 256 → Octets s → Octets (o ∷ s)
cons-octets o s h l zero = h
cons-octets o s h l (suc i) = l i

-- whether numbers are octets
abbrev pub are_octets : List ℕ → Bool
are_octets [] = true
are_octets (o ∷ os) = ltb o 256 && are_octets os

pub tested-octets : (s : List ℕ) → are_octets s ≡ true → Octets s
tested-octets [] e = nil-octets
tested-octets (o ∷ s) e = let t = both (ltb o 256) (are_octets s) e in cons-octets o s (ltb-true o 256 t.0) (tested-octets s t.1)

-- ---- one octet encoded

-- what holds of a flag, of an escape and of any other octet, each with what it is encoded as, holds of every octet
pub encoded-each : (P : ℕ → List ℕ → Type 0) → P flag (encoded flag) → P escape (encoded escape)
    → ((o : ℕ) → eqb o flag ≡ false → eqb o escape ≡ false → P o (o ∷ [])) → (o : ℕ) → P o (encoded o)
encoded-each P f e p o = pick (eqb o flag) (eqb o escape) refl refl
  where
    pick : (a b : Bool) → eqb o flag ≡ a → eqb o escape ≡ b → P o (cond a (encoded flag) (cond b (encoded escape) (o ∷ [])))
    pick true b h k = subst (λ (x : ℕ). P x (encoded flag)) (sym (eqb-true o flag h)) f
    pick false true h k = subst (λ (x : ℕ). P x (encoded escape)) (sym (eqb-true o escape k)) e
    pick false false h k = p o h k

pub encoded-least : (o : ℕ) → 1 ≤ length (encoded o)
encoded-least = encoded-each (λ o e. 1 ≤ length e) (lit≤ tt) (lit≤ tt) (λ o h k. lit≤ tt)

pub encoded-most : (o : ℕ) → length (encoded o) ≤ 2
encoded-most = encoded-each (λ o e. length e ≤ 2) (lit≤ tt) (lit≤ tt) (λ o h k. lit≤ tt)

pub encoded-octets : (o : ℕ) → o < 256 → Octets (encoded o)
encoded-octets =
    encoded-each (λ o e. o < 256 → Octets e) (λ h. tested-octets (encoded flag) refl) (λ h. tested-octets (encoded escape) refl)
    (λ o h k l. cons-octets o [] l nil-octets)

-- before other octets it adds no flag
encoded-no-flag : (s : List ℕ) (o : ℕ) → among flag (encoded o ++ s) ≡ among flag s
unfolding among
encoded-no-flag s = encoded-each (λ o e. among flag (e ++ s) ≡ among flag s) refl refl (λ o h k. ap (λ (t : Bool). t || among flag s) h)

-- and no other escape
encoded-no-other : (s : List ℕ) (o : ℕ) → other_escape (encoded o ++ s) ≡ other_escape s
unfolding other_escape
encoded-no-other s =
    encoded-each (λ o e. other_escape (e ++ s) ≡ other_escape s) refl refl (λ o h k. ap (λ (t : Bool). (t && not (ends_escape s)) || other_escape s) k)

-- and stands for the octet
unescaped-encoded : (s : List ℕ) (o : ℕ) → unescaped (encoded o ++ s) ≡ o ∷ unescaped s
unfolding decoded
unescaped-encoded s =
    encoded-each (λ o e. unescaped (e ++ s) ≡ o ∷ unescaped s) refl refl (λ o h k. ap (λ (t : Bool). cond t (decoded true s) (o ∷ unescaped s)) k)

-- an octet that is no flag and no escape is encoded as itself
encoded-plain : (o : ℕ) → eqb o flag ≡ false → eqb o escape ≡ false → encoded o ≡ o ∷ []
encoded-plain o h k = ap₂ (λ (a b : Bool). cond a (encoded flag) (cond b (encoded escape) (o ∷ []))) h k

-- the octet that a mark stands for is encoded with that mark
encoded-mark : (o : ℕ) (s : List ℕ) → ends_escape (o ∷ s) ≡ true → encoded (cond (eqb o flag_mark) flag escape) ≡ escape ∷ o ∷ []
encoded-mark o s e = pick (eqb o flag_mark) refl e
  where
    pick : (t : Bool) → eqb o flag_mark ≡ t → t || eqb o escape_mark ≡ true → encoded (cond t flag escape) ≡ escape ∷ o ∷ []
    pick true h k = ap (λ (x : ℕ). escape ∷ x ∷ []) (sym (eqb-true o flag_mark h))
    pick false h k = ap (λ (x : ℕ). escape ∷ x ∷ []) (sym (eqb-true o escape_mark k))

-- ---- octets one after the other

pub escaped-append : (a b : List ℕ) → escaped (a ++ b) ≡ escaped a ++ escaped b
unfolding escaped
escaped-append [] b = refl
escaped-append (o ∷ a) b = ap (λ (l : List ℕ). encoded o ++ l) (escaped-append a b) ∙ sym (append_assoc (encoded o) (escaped a) (escaped b))

-- one octet more, for a loop
pub escaped-next : (s : List ℕ) (k : ℕ) → k < length s → escaped (take (suc k) s) ≡ escaped (take k s) ++ encoded (get_or s k 0)
unfolding escaped
escaped-next s k h =
    ap escaped (take-suc s k 0 h) ∙ escaped-append (take k s) (get_or s k 0 ∷ [])
    ∙ ap (λ (l : List ℕ). escaped (take k s) ++ l) (append-nil (encoded (get_or s k 0)))

pub escaped-least : (s : List ℕ) → length s ≤ length (escaped s)
unfolding escaped
escaped-least [] = lit≤ tt
escaped-least (o ∷ s) = omega (arith, length-append (encoded o) (escaped s), encoded-least o, escaped-least s)

pub escaped-most : (s : List ℕ) → length (escaped s) ≤ 2 * length s
unfolding escaped
escaped-most [] = lit≤ tt
escaped-most (o ∷ s) = omega (arith, length-append (encoded o) (escaped s), encoded-most o, escaped-most s)

pub escaped-octets : (s : List ℕ) → Octets s → Octets (escaped s)
unfolding escaped
escaped-octets [] h = nil-octets
escaped-octets (o ∷ s) h = append-octets (encoded o) (escaped s) (encoded-octets o (h 0)) (escaped-octets s (λ i. h (suc i)))

pub escaped-no-flag : (s : List ℕ) → among flag (escaped s) ≡ false
unfolding escaped among
escaped-no-flag [] = refl
escaped-no-flag (o ∷ s) = encoded-no-flag (escaped s) o ∙ escaped-no-flag s

pub escaped-no-other : (s : List ℕ) → other_escape (escaped s) ≡ false
unfolding escaped other_escape
escaped-no-other [] = refl
escaped-no-other (o ∷ s) = encoded-no-other (escaped s) o ∙ escaped-no-other s

-- ---- there and back

pub unescaped-escaped : (s : List ℕ) → unescaped (escaped s) ≡ s
unfolding escaped decoded
unescaped-escaped [] = refl
unescaped-escaped (o ∷ s) = unescaped-encoded (escaped s) o ∙ ap (λ (l : List ℕ). o ∷ l) (unescaped-escaped s)

-- octets with the escape that stands before them, or with none
abbrev behind_escape : Bool → List ℕ → List ℕ
behind_escape true s = escape ∷ s
behind_escape false s = s

escaped-decoded : (behind : Bool) (s : List ℕ) → among flag s ≡ false → other_escape s ≡ false → (behind ≡ true → ends_escape s ≡ true)
    → escaped (decoded behind s) ≡ behind_escape behind s
unfolding escaped decoded among other_escape
escaped-decoded true [] f e b = absurd (false≢true (b refl))
escaped-decoded false [] f e b = refl
escaped-decoded true (o ∷ s) f e b =
    let g = neither (eqb o flag) (among flag s) f in
    let r = neither (eqb o escape && not (ends_escape s)) (other_escape s) e in
    ap₂ ◌++◌ (encoded-mark o s (b refl)) (escaped-decoded false s g.1 r.1 (λ t. absurd (false≢true t)))
escaped-decoded false (o ∷ s) f e b =
    let g = neither (eqb o flag) (among flag s) f in
    let r = neither (eqb o escape && not (ends_escape s)) (other_escape s) e in
    pick (eqb o escape) refl g.0 r.0 (escaped-decoded true s g.1 r.1) (escaped-decoded false s g.1 r.1 (λ t. absurd (false≢true t)))
  where
    pick : (t : Bool) → eqb o escape ≡ t → eqb o flag ≡ false → t && not (ends_escape s) ≡ false
        → ((true ≡ true → ends_escape s ≡ true) → escaped (decoded true s) ≡ escape ∷ s) → escaped (decoded false s) ≡ s
        → escaped (cond t (decoded true s) (o ∷ decoded false s)) ≡ o ∷ s
    pick true h n m i j = i (λ t. not-false (ends_escape s) m) ∙ ap (λ (x : ℕ). x ∷ s) (sym (eqb-true o escape h))
    pick false h n m i j = ap₂ ◌++◌ (encoded-plain o n h) j

-- octets with no flag and no other escape are, octet for octet, what they stand for with its escapes
pub escaped-unescaped : (s : List ℕ) → among flag s ≡ false → other_escape s ≡ false → escaped (unescaped s) ≡ s
escaped-unescaped s f e = escaped-decoded false s f e (λ t. absurd (false≢true t))

decoded-octets : (behind : Bool) (s : List ℕ) → Octets s → Octets (decoded behind s)
unfolding decoded
decoded-octets true [] h = nil-octets
decoded-octets false [] h = nil-octets
decoded-octets true (o ∷ s) h =
    cons-octets (cond (eqb o flag_mark) flag escape) (decoded false s) (pick (eqb o flag_mark)) (decoded-octets false s (λ i. h (suc i)))
  where
    pick : (t : Bool) → cond t flag escape < 256
    pick true = lit≤ tt
    pick false = lit≤ tt
decoded-octets false (o ∷ s) h = pick (eqb o escape) (decoded-octets true s (λ i. h (suc i))) (decoded-octets false s (λ i. h (suc i)))
  where
    pick : (t : Bool) → Octets (decoded true s) → Octets (decoded false s) → Octets (cond t (decoded true s) (o ∷ decoded false s))
    pick true i j = i
    pick false i j = cons-octets o (decoded false s) (h 0) j

pub unescaped-octets : (s : List ℕ) → Octets s → Octets (unescaped s)
unescaped-octets s h = decoded-octets false s h
