-- Laws of the verdict. Assumes nothing.
use mathlib.Core.Path.{◌≡◌, refl, sym, ap, ap₂, subst, ◌∙◌}
use mathlib.Core.Bool.{Bool, true, false, cond}
use mathlib.Core.List.{List}
use Prim.Native.Nat.{ℕ, zero, suc, ◌≤◌}
use native.Mathlib.Omega.{arith}
use borrow.Author.Tests.{eq-eqb, ne_eqb}
use lib.IntN.{ℤ}
use Rattle.octets.specs.Bits.{value_of, bits_of}
use Rattle.layout.specs.Places.{a_field, b_field}
use Rattle.layout.specs.Frame.{training_sync, field_of, coefficients_of}
use Rattle.layout.specs.Refusals.{has_sync}
use Rattle.reader.specs.declared.Found.{Found}
use Rattle.reader.specs.declared.Found.TheVariants.{Training, Final}
use Rattle.std.specs.Prelude.{Ok, Err}
use Rattle.answer.specs.declared.Refused.{Refused}
use Rattle.answer.specs.Given.{number_of}
use Rattle.answer.proofs.Given.{refused-number}
use Rattle.reader.specs.Promises.{words_in, Read}
use Rattle.highest.specs.Highest.{highest}
use Rattle.reader.proofs.Laws.{Rooms}
use Rattle.reader.proofs.Given.{refused-with, found-is, none-applies, coefficients-are, vendor-is}
use Rattle.verdict.specs.declared.Customer.{Customer}
use Rattle.card.specs.declared.Verdict.{Verdict}
use Rattle.verdict.specs.Ranks.{training_rank, final_rank}
use Rattle.verdict.specs.Verdict.{last_first, like_of, absent, octets_of, refused_verdict, training_by, training_verdict, final_by, final_verdict}
use Rattle.verdict.specs.Verdict.{judged, verdict_of}
use Rattle.verdict.specs.Verdict.{nobody, customer_by, customer_of}

-- ---- a word beside the customer's

pub like-none : (given : Bool) (x y : ℕ) → given ≡ false → 0 ≡ like_of given x y
like-none given x y g = simp g

pub like-same : (given : Bool) (x y : ℕ) → given ≡ true → x ≡ y → 1 ≡ like_of given x y
like-same given x y g e = simp (g, eq-eqb x y e)

pub like-turned : (given : Bool) (x y : ℕ) → given ≡ true → (x ≡ y → ⊥) → x ≡ last_first y → 2 ≡ like_of given x y
like-turned given x y g n e = simp (g, ne_eqb x y n, eq-eqb x (last_first y) e)

pub like-other : (given : Bool) (x y : ℕ) → given ≡ true → (x ≡ y → ⊥) → (x ≡ last_first y → ⊥) → 3 ≡ like_of given x y
like-other given x y g n m = simp (g, ne_eqb x y n, ne_eqb x (last_first y) m)

-- ---- what is found: the words of a training frame

a_of : Found → ℕ
a_of (Training a b) = a
a_of Final = 0

b_of : Found → ℕ
b_of (Training a b) = b
b_of Final = 0

-- a final frame is no training frame
not-final : {a b : ℕ} → ◌≡◌ {A = Found} Final (Training a b) → ⊥
not-final {a} {b} e = absurd (omega (arith, ap kind_of e))
  where
    kind_of : Found → ℕ
    kind_of (Training a b) = 0
    kind_of Final = 1

-- ---- the verdict, of what reading gives

module _ (f : List ℕ) (cs : List ℤ) (v s : List ℕ) (rooms : Rooms cs v s) (cs' : List ℤ) (v' s' : List ℕ) (k : Customer) where
  abbrev B : List ℕ
  B = bits_of f

  pub refused-is : (e : Refused) → Read f cs v s (Err e) cs' v' s' → (o : ℕ) → o ≡ octets_of f → refused_verdict (number_of e) o k ≡ verdict_of f k
  unfolding verdict_of judged
  refused-is e d o eo =
      go (number_of e) (refused-number e) ∙ ap₂ (λ (n x : ℕ). judged n x B k) (refused-with f cs v s rooms cs' v' s' e d) eo
    where
      go : (n : ℕ) → 1 ≤ n → refused_verdict n o k ≡ judged n o B k
      go zero h = absurd (omega (arith, h))
      go (suc n) h = refl

  judged-is : (r : Found) → Read f cs v s (Ok r) cs' v' s' → (o : ℕ) → o ≡ octets_of f → judged 0 o B k ≡ verdict_of f k
  unfolding verdict_of
  judged-is r d o eo = ap₂ (λ (n x : ℕ). judged n x B k) (sym (none-applies f cs v s rooms cs' v' s' r d)) eo

  module _ (r : Found) (read : Read f cs v s (Ok r) cs' v' s') (a b : ℕ) (er : r ≡ Training a b) (o : ℕ) (eo : o ≡ octets_of f) where
    d : Read f cs v s (Ok (Training a b)) cs' v' s'
    d = subst (λ (x : Found). Read f cs v s (Ok x) cs' v' s') er read

    training-is : training_by o (highest cs') a b v' k ≡ verdict_of f k
    unfolding judged a_of b_of
    training-is =
        go (has_sync training_sync B) (found-is f cs v s rooms cs' v' s' (Training a b) d) (coefficients-are f cs v s rooms cs' v' s' (Training a b) d)
        ∙ judged-is (Training a b) d o eo
      where
        go : (t : Bool) → Training a b ≡ cond t (words_in B) Final → cs' ≡ cond t (coefficients_of B) cs
            → training_by o (highest cs') a b v' k ≡ cond t (training_verdict o B k) (final_verdict o B k)
        go true p q =
            ap (λ (x : List ℤ). training_by o (highest x) a b v' k) q
            ∙ ap (λ (x : Found). training_by o (highest (coefficients_of B)) (a_of x) (b_of x) v' k) p
            ∙ ap (λ (x : List ℕ). training_by o (highest (coefficients_of B)) (value_of (field_of a_field B)) (value_of (field_of b_field B)) x k)
            (vendor-is f cs v s rooms cs' v' s' (Training a b) d)
        go false p q = absurd (not-final (sym p))

    -- as the code makes it
    pub training-made : (w u l m : ℕ) → u ≡ highest cs' → l ≡ like_of k.given a k.a → m ≡ like_of k.given b k.b → w ≡ training_rank l m
        → record { rank = w; octets = o; answer = 0; kind = 0; used = u; a = a; b = b; alike = l; blike = m; vendor = v' } ≡ verdict_of f k
    training-made w u l m qu ql qm qw = rw (qw, qu, ql, qm) training-is

  module _ (r : Found) (read : Read f cs v s (Ok r) cs' v' s') (er : r ≡ Final) (o : ℕ) (eo : o ≡ octets_of f) where
    g : Read f cs v s (Ok Final) cs' v' s'
    g = subst (λ (x : Found). Read f cs v s (Ok x) cs' v' s') er read

    final-is : final_by o v' k ≡ verdict_of f k
    unfolding judged
    final-is = go (has_sync training_sync B) (found-is f cs v s rooms cs' v' s' Final g) ∙ judged-is Final g o eo
      where
        go : (t : Bool) → Final ≡ cond t (words_in B) Final → final_by o v' k ≡ cond t (training_verdict o B k) (final_verdict o B k)
        go true p = absurd (not-final p)
        go false p = ap (λ (x : List ℕ). final_by o x k) (vendor-is f cs v s rooms cs' v' s' Final g)

    pub final-made : (w l m : ℕ) → w ≡ final_rank k.given → l ≡ absent k.given → m ≡ absent k.given
        → record { rank = w; octets = o; answer = 0; kind = 1; used = 0; a = 0; b = 0; alike = l; blike = m; vendor = v' } ≡ verdict_of f k
    final-made w l m qw ql qm = rw (qw, ql, qm) final-is

-- ---- the customer

module _ (v : Verdict) where
  pub customer-refused : (v.answer ≡ 0 → ⊥) → nobody ≡ customer_of v
  unfolding customer_by
  customer-refused h = go v.answer h
    where
      go : (n : ℕ) → (n ≡ 0 → ⊥) → nobody ≡ customer_by n v.kind v
      go zero h = absurd (h refl)
      go (suc n) h = refl

  pub customer-final : v.answer ≡ 0 → (v.kind ≡ 0 → ⊥) → nobody ≡ customer_of v
  unfolding customer_by
  customer-final z h = go v.kind h ∙ ap (λ (n : ℕ). customer_by n v.kind v) (sym z)
    where
      go : (n : ℕ) → (n ≡ 0 → ⊥) → nobody ≡ customer_by 0 n v
      go zero h = absurd (h refl)
      go (suc n) h = refl

  pub customer-given : v.answer ≡ 0 → v.kind ≡ 0 → record { given = true; a = v.a; b = v.b } ≡ customer_of v
  unfolding customer_by
  customer-given z h = ap₂ (λ (n m : ℕ). customer_by n m v) (sym z) (sym h)
