-- Handing up, record by record: record j comes out as its own address followed by the message where its unit is meant, and as it was where it is not; the
-- same records in another order come out the same, in that order. Assumes nothing.
use mathlib.Core.Path.{◌≡◌, refl, sym, ap, ap₂, ◌∙◌}
use mathlib.Core.Bool.{Bool, true, false, cond}
use mathlib.Core.List.{List, [], ◌∷◌, map}
use Prim.Native.Nat.{ℕ, zero, suc, ◌+◌, ◌-◌, ◌*◌, ◌/◌, ◌≤◌, ◌<◌}
use native.Mathlib.Nat.{le_of_suc-le-suc}
use native.Mathlib.Omega.{arith}
use lib.ListN.{length, get_or, drop, replicate, length-take, length-drop, length-append, length-replicate}
use lib.Seq.{take_at, drop_at}
use Rattle.eoc.specs.Message.{Message, contents_most}
use Rattle.eocunits.specs.Units.{record_length, held_for, own_of, takes, record_after, records_of, records_in, joined, units_after}

-- the records, each with what it holds afterwards
abbrev pub records_after : Message → List (List ℕ) → List (List ℕ)
records_after m rs = map (record_after m) rs

-- where its unit is meant
pub meant : (m : Message) (r : List ℕ) → takes m r ≡ true → record_after m r ≡ own_of r ∷ held_for m
meant m r t = ap (λ (b : Bool). cond b (own_of r ∷ held_for m) r) t

-- where it is not
pub not-meant : (m : Message) (r : List ℕ) → takes m r ≡ false → record_after m r ≡ r
not-meant m r t = ap (λ (b : Bool). cond b (own_of r ∷ held_for m) r) t

-- either way the own address stays
pub own-stays : (m : Message) (r : List ℕ) → own_of (record_after m r) ≡ own_of r
own-stays m r = pick (takes m r)
  where
    pick : (b : Bool) → own_of (cond b (own_of r ∷ held_for m) r) ≡ own_of r
    pick true = refl
    pick false = refl

-- record j afterwards, where there is one
pub each : (m : Message) (rs : List (List ℕ)) (j : ℕ) → j < length rs → get_or (records_after m rs) j [] ≡ record_after m (get_or rs j [])
each m [] j h = absurd (omega arith)
each m (r ∷ rs) zero h = refl
each m (r ∷ rs) (suc j) h = each m rs j (le_of_suc-le-suc h)

-- records in another order: those at the places of a list, one after the other
abbrev pub in_order_of : List ℕ → List (List ℕ) → List (List ℕ)
in_order_of places rs = map (λ (j : ℕ). get_or rs j []) places

-- all places are of the list
abbrev pub PlacesOf : List ℕ → List (List ℕ) → Type 0
PlacesOf places rs = (i : ℕ) → i < length places → get_or places i 0 < length rs

pub any_order : (m : Message) (places : List ℕ) (rs : List (List ℕ)) → PlacesOf places rs
    → records_after m (in_order_of places rs) ≡ in_order_of places (records_after m rs)
any_order m [] rs h = refl
any_order m (j ∷ places) rs h =
    ap₂ ◌∷◌ (sym (each m rs j (h 0 (omega arith)))) (any_order m places rs (λ i k. h (suc i) (omega arith)))

-- ---- as octets

-- records have the length of records
abbrev pub AllRecords : List (List ℕ) → Type 0
AllRecords rs = (j : ℕ) → j < length rs → length (get_or rs j []) ≡ record_length

joined_length : (rs : List (List ℕ)) → AllRecords rs → length (joined rs) ≡ length rs * 79
unfolding joined
joined_length [] h = refl
joined_length (r ∷ rs) h =
    length-append r (joined rs) ∙ ap₂ ◌+◌ (h 0 (omega arith)) (joined_length rs (λ j k. h (suc j) (omega arith))) ∙ omega arith

-- records that are joined fall apart again
records-joined : (rs : List (List ℕ)) → AllRecords rs → records_of (length rs) (joined rs) ≡ rs
unfolding records_of joined
records-joined [] h = refl
records-joined (r ∷ rs) h =
    let l : length r ≡ record_length = h 0 (omega arith) in
    ap₂ (λ (x : List ℕ) (y : List ℕ). x ∷ records_of (length rs) y) (take_at r (joined rs) record_length l) (drop_at r (joined rs) record_length l)
    ∙ ap (λ (x : List (List ℕ)). r ∷ x) (records-joined rs (λ j k. h (suc j) (omega arith)))

pub records-back : (rs : List (List ℕ)) → AllRecords rs → records_in (joined rs) ≡ rs
records-back rs h =
    let n : length (joined rs) / record_length ≡ length rs = omega (arith, joined_length rs h) in
    ap (λ (k : ℕ). records_of k (joined rs)) n ∙ records-joined rs h

-- so many octets hold so many records
records-all : (n : ℕ) (s : List ℕ) → n * 79 ≤ length s → AllRecords (records_of n s)
unfolding records_of
records-all zero s l j h = absurd (omega arith)
records-all (suc n) s l zero h = omega (arith, length-take record_length s)
records-all (suc n) s l (suc j) h =
    records-all n (drop record_length s) (omega (arith, length-drop record_length s)) j (le_of_suc-le-suc h)

-- a message that can be written makes records of records
after-length : (m : Message) → length m.contents ≤ contents_most → (r : List ℕ) → length r ≡ record_length → length (record_after m r) ≡ record_length
after-length m l r h = pick (takes m r)
  where
    tail : length (held_for m) ≡ 78
    tail = omega (arith, length-append m.contents (replicate (contents_most - length m.contents) 0), length-replicate {A = ℕ} (contents_most - length m.contents) 0)

    pick : (b : Bool) → length (cond b (own_of r ∷ held_for m) r) ≡ record_length
    pick true = omega (arith, tail)
    pick false = h

after-all : (m : Message) → length m.contents ≤ contents_most → (rs : List (List ℕ)) → AllRecords rs → AllRecords (records_after m rs)
after-all m l [] h j k = absurd (omega arith)
after-all m l (r ∷ rs) h zero k = after-length m l r (h 0 (omega arith))
after-all m l (r ∷ rs) h (suc j) k = after-all m l rs (λ i p. h (suc i) (omega arith)) j (le_of_suc-le-suc k)

-- the records in the octets that a message leaves are those that were there, each with what it holds afterwards
pub records-after : (m : Message) (s : List ℕ) → length m.contents ≤ contents_most → records_in (units_after m s) ≡ records_after m (records_in s)
records-after m s l = records-back (records_after m (records_in s)) (after-all m l (records_in s) (records-all (length s / record_length) s (omega arith)))
