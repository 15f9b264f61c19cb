-- What is given of bits: there is exactly one such list, and that of a beginning is a beginning of that of the whole. Assumes nothing.
use mathlib.Core.Path.{◌≡◌, refl, sym, ap₂, subst, ◌∙◌}
use mathlib.Core.Bool.{false, false≢true}
use mathlib.Core.List.{List, [], ◌∷◌, ◌++◌}
use Prim.Native.Nat.{ℕ, zero, suc, ◌+◌, ◌≤◌}
use native.Mathlib.Decide.{dec_le}
use native.Mathlib.Omega.{arith}
use lib.ListN.{length}
use Rattle.receiver.specs.Stream.{lies_at}
use Rattle.receiver.specs.Given.{Given, given_at, Earliest, GivenFrom, nothing, next}
use Rattle.receiver.specs.Promises.{first_that}
use Rattle.receiver.proofs.Earliest.{First, first_is}
use Rattle.receiver.proofs.Window.{lies-sound, lies-late, lies_more, frame-more}

-- ---- exactly one list

earliest-one : (end : ℕ) (bits : List ℕ) (from p q : ℕ) → Earliest end bits from p → Earliest end bits from q → p ≡ q
earliest-one end bits from p q e f = pick (dec_le p q) (dec_le q p)
  where
    pick : Dec (p ≤ q) → Dec (q ≤ p) → p ≡ q
    pick (yes h) (yes k) = omega arith
    pick (yes h) (no k) = absurd (false≢true (sym (f.first p e.not_before (omega arith)) ∙ e.lies))
    pick (no h) k = absurd (false≢true (sym (e.first q f.not_before (omega arith)) ∙ f.lies))

pub given-one : (end : ℕ) (bits : List ℕ) (from : ℕ) (gs hs : List Given) → GivenFrom end bits from gs → GivenFrom end bits from hs → gs ≡ hs
given-one end bits from [] [] (nothing _ h) (nothing _ k) = refl
given-one end bits from [] _ (nothing _ h) (next _ p hs f k) = absurd (false≢true (sym (h p f.not_before) ∙ f.lies))
given-one end bits from _ [] (next _ p gs e h) (nothing _ k) = absurd (false≢true (sym (k p e.not_before) ∙ e.lies))
given-one end bits from _ _ (next _ p gs e h) (next _ q hs f k) =
    let s = earliest-one end bits from p q e f in
    ap₂ (λ (i : ℕ) (l : List Given). given_at end bits i ∷ l) s
    (given-one end bits (q + 4227) gs hs (subst (λ (i : ℕ). GivenFrom end bits (i + 4227) gs) s h) k)

-- a list that is given
pub record Some (end : ℕ) (bits : List ℕ) (from : ℕ) : Type 0 where
  pub list : List Given
  pub is : GivenFrom end bits from list

pub given-some : (end : ℕ) (bits : List ℕ) (n from : ℕ) → length bits ≤ from + n → Some end bits from
given-some end bits zero from l =
    record { list = []; is = nothing from (λ q h. lies-late end bits q (omega arith)) }
given-some end bits (suc n) from l =
    pick (first_that (lies_at end bits) from (suc n)) (first_is (lies_at end bits) from (suc n)) (given-some end bits n)
  where
    pick : (p : ℕ) → First (lies_at end bits) from (suc n) p → ((i : ℕ) → length bits ≤ i + n → Some end bits i) → Some end bits from
    pick p f more = at (dec_le (suc p) (from + suc n))
      where
        at : Dec (suc p ≤ from + suc n) → Some end bits from
        at (yes h) =
            let rest = more (p + 4227) (omega (arith, f.from)) in
            record {
              list = given_at end bits p ∷ rest.list;
              is = next from p rest.list (record { not_before = f.from; lies = f.holds h; first = f.before }) rest.is;
            }
        at (no h) = record { list = []; is = nothing from none }
          where
            none : (q : ℕ) → from ≤ q → lies_at end bits q ≡ false
            none q k = late (dec_le (suc q) p)
              where
                late : Dec (suc q ≤ p) → lies_at end bits q ≡ false
                late (yes b) = f.before q k b
                late (no b) = lies-late end bits q (omega (arith, f.to))

-- ---- a beginning

-- the place to go on from, behind what was given
unfoldable pub go_on : ℕ → List Given → ℕ
go_on from [] = from
go_on from (g ∷ gs) = go_on (g.place + 4227) gs

-- nothing lies from there on
pub none_left : (end : ℕ) (bits : List ℕ) (from : ℕ) (gs : List Given) → GivenFrom end bits from gs → (q : ℕ) → go_on from gs ≤ q → lies_at end bits q ≡ false
unfolding go_on
none_left end bits from [] (nothing _ h) q l = h q l
none_left end bits from _ (next _ p gs e g) q l = none_left end bits (p + 4227) gs g q l

-- more bits: what was given stays, and more may come behind it
pub given-extend : (end : ℕ) (L X : List ℕ) (from : ℕ) (gs hs : List Given) → GivenFrom end L from gs → GivenFrom end (L ++ X) (go_on from gs) hs
    → GivenFrom end (L ++ X) from (gs ++ hs)
unfolding go_on
given-extend end L X from [] hs (nothing _ h) k = k
given-extend end L X from _ hs (next _ p gs e g) k =
    let w = lies-sound end L p e.lies in
    subst (λ (f : List ℕ). GivenFrom end (L ++ X) from (record { place = p; frame = f } ∷ (gs ++ hs))) (frame-more end L X p w.1 w.0)
    (next from p (gs ++ hs)
    (record {
      not_before = e.not_before;
      lies = lies_more end L X p w.1 ∙ e.lies;
      first = λ q h l. lies_more end L X q (omega (arith, w.1)) ∙ e.first q h l;
    })
    (given-extend end L X (p + 4227) gs hs g k))

-- what is given of a beginning is a beginning of what is given of the whole
pub record Begins (gs hs : List Given) : Type 0 where
  pub rest : List Given
  pub whole : hs ≡ gs ++ rest

pub given-begins : (end : ℕ) (L X : List ℕ) (from : ℕ) (gs hs : List Given) → GivenFrom end L from gs → GivenFrom end (L ++ X) from hs → Begins gs hs
given-begins end L X from gs hs g h =
    let more = given-some end (L ++ X) (length (L ++ X)) (go_on from gs) (omega arith) in
    record { rest = more.list; whole = given-one end (L ++ X) from hs (gs ++ more.list) h (given-extend end L X from gs more.list g more.is) }
