-- Laws of records one after the other. Assumes nothing.
use mathlib.Core.Path.{◌≡◌, refl, sym, ap, ap₂, ◌∙◌, subst}
use mathlib.Core.Bool.{Bool, true, false, cond, ◌||◌}
use mathlib.Core.List.{List, [], ◌∷◌, ◌++◌, map, append_assoc, append-nil}
use Prim.Native.Nat.{ℕ, suc, ◌+◌, ◌-◌, ◌*◌, ◌/◌, ◌≤◌, ◌<◌}
use native.Mathlib.Nat.{add-zero, zero-add}
use native.Mathlib.Omega.{arith}
use lib.Dec.{leb}
use lib.ListN.{length, get_or, take, drop, set, length-take, length-drop, length-append, take-append-drop}
use lib.Seq.{get_or-drop, get_or-take, drop-drop, take_at, drop_at, take_all, length-take-le}
use borrow.Rule.Slice.PartMut.{put_mid}
use Rattle.octets.proofs.Whole.{drop_all}
use Rattle.eoc.specs.Message.{addresses}
use Rattle.eoc.specs.Addresses.{is_meant}
use Rattle.eocunits.specs.Units.{own_of, records_of, records_in, joined, some_wide}
use Rattle.eocunits.specs.Handing.{put_in, count_meant}

-- ---- the first record, and those behind it

records-cons : (x rest : List ℕ) → length x ≡ 79 → records_in (x ++ rest) ≡ x ∷ records_in rest
unfolding records_of
records-cons x rest l =
    let n : length (x ++ rest) / 79 ≡ suc (length rest / 79) = omega (arith, length-append x rest) in
    ap (λ (k : ℕ). records_of k (x ++ rest)) n ∙ ap₂ (λ (y z : List ℕ). y ∷ records_of (length rest / 79) z) (take_at x rest 79 l) (drop_at x rest 79 l)

-- whether an own address is wide: the first, or one behind it
pub wide-cons : (s x rest : List ℕ) → s ≡ x ++ rest → length x ≡ 79 → some_wide (records_in s) ≡ leb addresses (get_or x 0 0) || some_wide (records_in rest)
unfolding some_wide
wide-cons s x rest e l = ap (λ (y : List ℕ). some_wide (records_in y)) e ∙ ap some_wide (records-cons x rest l)

pub none-wide : (s : List ℕ) → length s < 79 → some_wide (records_in s) ≡ false
unfolding some_wide records_of
none-wide s h = let n : length s / 79 ≡ 0 = omega arith in ap (λ (k : ℕ). some_wide (records_of k s)) n

module _ (s : List ℕ) (count : ℕ) where
  -- record j, and those from it on
  abbrev pub nth : ℕ → List ℕ
  nth j = take 79 (drop (j * 79) s)

  abbrev pub rest_of : ℕ → List (List ℕ)
  rest_of j = records_of (count - j) (drop (j * 79) s)

  pub rest-next : (j : ℕ) → j < count → rest_of j ≡ nth j ∷ rest_of (j + 1)
  unfolding records_of
  rest-next j h =
      let a : count - j ≡ suc (count - (j + 1)) = omega arith in
      let b : j * 79 + 79 ≡ (j + 1) * 79 = omega arith in
      ap (λ (n : ℕ). records_of n (drop (j * 79) s)) a
      ∙ ap (λ (x : List ℕ). nth j ∷ records_of (count - (j + 1)) x) (drop-drop 79 (j * 79) s ∙ ap (λ (n : ℕ). drop n s) b)

  pub rest-none : (j : ℕ) → count ≤ j → rest_of j ≡ []
  unfolding records_of
  rest-none j h = let a : count - j ≡ 0 = omega arith in ap (λ (n : ℕ). records_of n (drop (j * 79) s)) a

  pub rest_all : rest_of 0 ≡ records_of count s
  rest_all = let a : count - 0 ≡ count = omega arith in ap (λ (n : ℕ). records_of n s) a

  -- record j stands there
  pub there : count * 79 ≡ length s → (j : ℕ) → j < count → j * 79 + 79 ≤ length s
  there e j h = omega (arith, e)

  pub nth-length : count * 79 ≡ length s → (j : ℕ) → j < count → length (nth j) ≡ 79
  nth-length e j h = omega (arith, length-take 79 (drop (j * 79) s), length-drop (j * 79) s, there e j h)

  -- ---- the message put into the records that are meant

  module _ (d : ℕ) (tail : List ℕ) where
    -- so far: the records before j are as they are to be, those from j on as they were
    pub record Handing (units : List ℕ) (taken j : ℕ) : Type 0 where
      pub size : length units ≡ length s
      pub counted : taken + count_meant d (rest_of j) ≡ count_meant d (records_of count s)
      pub before : take (j * 79) units ++ joined (map (put_in d tail) (rest_of j)) ≡ joined (map (put_in d tail) (records_of count s))
      pub behind : drop (j * 79) units ≡ drop (j * 79) s

    pub none_yet : Handing s 0 0
    none_yet =
        record {
          size = refl;
          counted = zero-add (count_meant d (rest_of 0)) ∙ ap (count_meant d) rest_all;
          before = ap (λ (x : List (List ℕ)). joined (map (put_in d tail) x)) rest_all;
          behind = refl;
        }

    -- the own address that the code looks at
    pub own_is : (units : List ℕ) (taken j : ℕ) → Handing units taken j → get_or units (j * 79) 0 ≡ own_of (nth j)
    own_is units taken j u =
        ap (λ (n : ℕ). get_or units n 0) (sym (add-zero (j * 79))) ∙ sym (get_or-drop (j * 79) units 0 0) ∙ ap (λ (x : List ℕ). get_or x 0 0) u.behind
        ∙ sym (get_or-take 79 (drop (j * 79) s) 0 0 (omega arith))

    -- record j becomes r: the new units
    step : count * 79 ≡ length s → (units units' r : List ℕ) (taken more j : ℕ) → j < count → Handing units taken j → length r ≡ 79
        → units' ≡ take (j * 79) units ++ (r ++ drop (j * 79 + 79) units) → r ≡ put_in d tail (nth j) → more ≡ cond (is_meant (own_of (nth j)) d) 1 0
        → Handing units' (taken + more) (j + 1)
    unfolding joined count_meant
    step e units units' r taken more j h u l f g m =
        let at = j * 79 in
        let on : (j + 1) * 79 ≡ at + 79 = omega arith in
        let front = take at units in
        let back = drop (at + 79) units in
        let lf : length front ≡ at = length-take-le at units (omega (arith, u.size, there e j h)) in
        let lb : length (front ++ r) ≡ at + 79 = length-append front r ∙ ap₂ ◌+◌ lf l in
        let is : units' ≡ (front ++ r) ++ back = f ∙ sym (append_assoc front r back) in
        let n = rest-next j h in
        let cm : count_meant d (rest_of j) ≡ more + count_meant d (rest_of (j + 1)) = ap (count_meant d) n ∙ ap (λ (x : ℕ). x + count_meant d (rest_of (j + 1))) (sym m) in
        record {
          size = ap length is ∙ length-append (front ++ r) back ∙ omega (arith, lb, length-drop (at + 79) units, u.size, there e j h);
          counted = omega (arith, u.counted, cm);
          before =
              ap (λ (k : ℕ). take k units' ++ joined (map (put_in d tail) (rest_of (j + 1)))) on
              ∙ ap (λ (x : List ℕ). x ++ joined (map (put_in d tail) (rest_of (j + 1)))) (ap (take (at + 79)) is ∙ take_at (front ++ r) back (at + 79) lb)
              ∙ append_assoc front r (joined (map (put_in d tail) (rest_of (j + 1))))
              ∙ ap (λ (x : List ℕ). front ++ (x ++ joined (map (put_in d tail) (rest_of (j + 1))))) g
              ∙ ap (λ (x : List (List ℕ)). front ++ joined (map (put_in d tail) x)) (sym n) ∙ u.before;
          behind =
              ap (λ (k : ℕ). drop k units') on ∙ ap (drop (at + 79)) is ∙ drop_at (front ++ r) back (at + 79) lb
              ∙ sym (drop-drop 79 at units) ∙ ap (drop 79) u.behind ∙ drop-drop 79 at s ∙ ap (λ (k : ℕ). drop k s) (sym on);
        }

    -- its unit is meant
    pub one-taken : count * 79 ≡ length s → length tail ≡ 78 → (units units' r : List ℕ) (taken j : ℕ) → j < count → Handing units taken j → is_meant (get_or units (j * 79) 0) d ≡ true
        → r ≡ get_or units (j * 79) 0 ∷ tail → units' ≡ take (j * 79) units ++ (r ++ drop (j * 79 + 79) units)
        → Handing units' (taken + 1) (j + 1)
    one-taken e lt units units' r taken j h u t f g =
        let o = own_is units taken j u in
        let q : is_meant (own_of (nth j)) d ≡ true = ap (λ (n : ℕ). is_meant n d) (sym o) ∙ t in
        step e units units' r taken 1 j h u (ap length f ∙ omega (arith, lt)) g
        (f ∙ ap (λ (n : ℕ). n ∷ tail) o ∙ sym (ap (λ (b : Bool). cond b (own_of (nth j) ∷ tail) (nth j)) q)) (sym (ap (λ (b : Bool). cond b 1 0) q))

    -- it is not
    pub one_left : count * 79 ≡ length s → (units : List ℕ) (taken j : ℕ) → j < count → Handing units taken j → is_meant (get_or units (j * 79) 0) d ≡ false → Handing units taken (j + 1)
    one_left e units taken j h u t =
        let at = j * 79 in
        let o = own_is units taken j u in
        let q : is_meant (own_of (nth j)) d ≡ false = ap (λ (n : ℕ). is_meant n d) (sym o) ∙ t in
        let r : take 79 (drop at units) ≡ nth j = ap (take 79) u.behind in
        let same : units ≡ take at units ++ (nth j ++ drop (at + 79) units) =
        sym (take-append-drop at units) ∙ ap (λ (x : List ℕ). take at units ++ x) (sym (take-append-drop 79 (drop at units)) ∙ ap₂ ◌++◌ r (drop-drop 79 at units)) in
        subst (λ (n : ℕ). Handing units n (j + 1)) (add-zero taken)
        (step e units units (nth j) taken 0 j h u (nth-length e j h) same (sym (ap (λ (b : Bool). cond b (own_of (nth j) ∷ tail) (nth j)) q)) (sym (ap (λ (b : Bool). cond b 1 0) q)))

    -- all records are done
    pub all_done : count * 79 ≡ length s → (units : List ℕ) (taken j : ℕ) → j ≤ count → count ≤ j → Handing units taken j
        → (taken ≡ count_meant d (records_of count s)) × (units ≡ joined (map (put_in d tail) (records_of count s)))
    unfolding joined count_meant
    all_done e units taken j l h u =
        let none = rest-none j h in
        let i : j ≡ count = omega arith in (
          sym (add-zero taken) ∙ ap (λ (x : List (List ℕ)). taken + count_meant d x) (sym none) ∙ u.counted,
          sym (take_all (j * 79) units (omega (arith, u.size, e, i))) ∙ sym (append-nil (take (j * 79) units))
              ∙ ap (λ (x : List (List ℕ)). take (j * 79) units ++ joined (map (put_in d tail) x)) (sym none) ∙ u.before,
        )

-- ---- one record

-- the octets of a record, put one after the other
pub record-put : (unit exit contents : List ℕ) (a b c d : ℕ) → length unit ≡ 79 → exit ≡ contents
    → let U = set (set (set (set (set unit 1 1) 2 a) 3 b) 4 c) 5 d in put_mid 6 (length U - 6) U exit ≡ get_or unit 0 0 ∷ (1 ∷ a ∷ b ∷ c ∷ d ∷ contents)
record-put unit exit contents a b c d l e =
    let U = set (set (set (set (set unit 1 1) 2 a) 3 b) 4 c) 5 d in
    ap₂ (λ (x y : List ℕ). x ++ (exit ++ y)) (six unit l) (drop_all (length U - 6) (drop 6 U) (omega (arith, length-drop 6 U)))
    ∙ ap (λ (x : List ℕ). get_or unit 0 0 ∷ (1 ∷ a ∷ b ∷ c ∷ d ∷ x)) (append-nil exit ∙ e)
  where
    six : (unit : List ℕ) → length unit ≡ 79 → take 6 (set (set (set (set (set unit 1 1) 2 a) 3 b) 4 c) 5 d) ≡ get_or unit 0 0 ∷ 1 ∷ a ∷ b ∷ c ∷ d ∷ []
    six (x ∷ x1 ∷ x2 ∷ x3 ∷ x4 ∷ x5 ∷ rest) h = refl
    six [] h = absurd (omega arith)
    six (x ∷ []) h = absurd (omega arith)
    six (x ∷ x1 ∷ []) h = absurd (omega arith)
    six (x ∷ x1 ∷ x2 ∷ []) h = absurd (omega arith)
    six (x ∷ x1 ∷ x2 ∷ x3 ∷ []) h = absurd (omega arith)
    six (x ∷ x1 ∷ x2 ∷ x3 ∷ x4 ∷ []) h = absurd (omega arith)

-- a record changed in its place
pub put_back : (units part' : List ℕ) (at k : ℕ) (tail : List ℕ) → k ≡ at + 79 - at → part' ≡ get_or (take k (drop at units)) 0 0 ∷ tail → at + 79 ≤ length units
    → take at units ++ (part' ++ drop k (drop at units)) ≡ take at units ++ ((get_or units at 0 ∷ tail) ++ drop (at + 79) units)
put_back units part' at k tail e f h =
    let n : k ≡ 79 = omega arith in
    let own : get_or (take k (drop at units)) 0 0 ≡ get_or units at 0 =
    get_or-take k (drop at units) 0 0 (omega arith) ∙ get_or-drop at units 0 0 ∙ ap (λ (i : ℕ). get_or units i 0) (add-zero at) in
    ap₂ (λ (x y : List ℕ). take at units ++ (x ++ y)) (f ∙ ap (λ (i : ℕ). i ∷ tail) own) (ap (λ (i : ℕ). drop i (drop at units)) n ∙ drop-drop 79 at units)
