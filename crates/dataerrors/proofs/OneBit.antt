-- A frame that answers 0, with any one bit of its room turned over but its own six, no longer does; and with one of the six of the next frame turned
-- over it answers 7. Assumes nothing.
use mathlib.Core.Path.{◌≡◌, refl, sym, ap, ap₂, ◌∙◌, subst}
use mathlib.Core.Bool.{Bool, true, false, cond, not, ◌&&◌, ◌||◌, false≢true}
use mathlib.Core.Logic.{◌⊎◌, inl, inr}
use mathlib.Core.List.{List, [], ◌∷◌, ◌++◌, reverse, reverse-reverse}
use Prim.Native.Nat.{ℕ, zero, suc, ◌+◌, ◌-◌, ◌*◌, ◌^◌, ◌≤◌, ◌<◌}
use native.Mathlib.Decide.{dec_lt}
use native.Mathlib.Nat.{add-zero}
use native.Mathlib.Omega.{arith}
use borrow.Author.Tests.{eq-eqb, eqb-true, eqb-false, ne_eqb}
use lib.Dec.{eqb, lit≤}
use lib.ListN.{length, get_or, take, drop, length-drop, length-reverse}
use lib.Seq.{length-take-le, take_at, drop_at, get_or-take, get_or-drop}
use Rattle.answer.specs.Answer.{Refusal, answer}
use Rattle.answer.proofs.Laws.{passed, refused}
use Rattle.octets.specs.Bits.{value_of, part}
use Rattle.octets.proofs.Digits.{Bits, value-one, reverse_bits}
use Rattle.places.specs.Places.{total}
use Rattle.places.specs.Streams.{Row, widths_in, among, stream_in}
use Rattle.places.proofs.Streams.{among-length, among-bits}
use Rattle.remainder.proofs.Errors.{flipped-bits}
use Rattle.remainder.specs.Division.{polynomial}
use Rattle.remainder.specs.Register.{register_of}
use Rattle.remainder.specs.Errors.{flipped}
use Rattle.dataframe.specs.Table.{sync, crc, sbid, stuffing, unused, room_of, table}
use Rattle.dataframe.specs.Frame.{carried, sbid1, sbid2, stuffed_in, behind, overhead_in, six_generator, is_covered, due_of}
use Rattle.dataframe.specs.Refusals.{bit_refusals}
use Rattle.dataframe.proofs.Rows.{crc-is}
use Rattle.dataframe.proofs.Streams.{bits_in, amount-is, table-total, room-long, carried-is, covered-stays}
use Rattle.dataframe.proofs.RoundTrip.{Sound, sound, stuffed-most, announces}
use Rattle.dataerrors.specs.Errors.{stream_at, rank_at, seen_as, Wrong, is_pair, is_crc}
use Rattle.dataerrors.proofs.Turned.{flipped-length, flipped-other, flipped-value, among_same, among_turned, rank-inside, part-other}
use Rattle.dataerrors.proofs.Six.{one_seen}

-- ---- pairs of places

either : (s t : Bool) → (s || t) ≡ true → (s ≡ true) ⊎ (t ≡ true)
either true t e = inl refl
either false t e = inr e

wrong_first : (s t : Bool) → s ≡ false → (s && t) ≡ false
wrong_first s t e = ap (λ (u : Bool). u && t) e

wrong_second : (s t : Bool) → t ≡ false → (s && t) ≡ false
wrong_second true t e = e
wrong_second false t e = refl

neither : (s t : Bool) → (s || t) ≡ false → (s ≡ false) × (t ≡ false)
neither true t e = absurd (false≢true (sym e))
neither false t e = (refl, e)

-- a pair that the place is none of stays
pair-stays : (B : List ℕ) (at i : ℕ) → is_pair at i ≡ false → part at 2 (flipped B i) ≡ part at 2 B
pair-stays B at i e = pick (dec_lt i at)
  where
    n : (eqb i at ≡ false) × (eqb i (at + 1) ≡ false)
    n = neither (eqb i at) (eqb i (at + 1)) e

    pick : Dec (i < at) → part at 2 (flipped B i) ≡ part at 2 B
    pick (yes l) = part-other B at 2 i (inl l)
    pick (no l) =
        let p : i ≡ at → ⊥ = eqb-false i at n.0 in
        let q : i ≡ at + 1 → ⊥ = eqb-false i (at + 1) n.1 in
        part-other B at 2 i (inr (omega arith))

-- a pair that the place is one of shows its bit
pair-shows : (B C : List ℕ) (at i : ℕ) → is_pair at i ≡ true → part at 2 B ≡ part at 2 C → get_or B i 0 ≡ get_or C i 0
pair-shows B C at i e f = pick (either (eqb i at) (eqb i (at + 1)) e)
  where
    bit : (t : ℕ) → t < 2 → get_or B (at + t) 0 ≡ get_or C (at + t) 0
    bit t h =
        sym (get_or-take 2 (drop at B) t 0 h ∙ get_or-drop at B t 0) ∙ ap (λ (l : List ℕ). get_or l t 0) f ∙ get_or-take 2 (drop at C) t 0 h ∙ get_or-drop at C t 0

    pick : (eqb i at ≡ true) ⊎ (eqb i (at + 1) ≡ true) → get_or B i 0 ≡ get_or C i 0
    pick (inl g) = subst (λ (j : ℕ). get_or B j 0 ≡ get_or C j 0) (add-zero at ∙ sym (eqb-true i at g)) (bit 0 (omega arith))
    pick (inr g) = subst (λ (j : ℕ). get_or B j 0 ≡ get_or C j 0) (sym (eqb-true i (at + 1) g)) (bit 1 (omega arith))

-- ---- the six, as they stand

-- a bit that is none of them leaves them
crc-stays : (form k : ℕ) (B : List ℕ) (i : ℕ) → form ≤ 1 → is_crc k i ≡ false → carried crc form k (flipped B i) ≡ carried crc form k B
crc-stays form k B i h e =
    let a = neither (is_pair (12 * k + 20) i) (is_pair (24 * k + 30) i || is_pair (36 * k + 40) i) e in
    let b = neither (is_pair (24 * k + 30) i) (is_pair (36 * k + 40) i) a.1 in
    crc-is k (flipped B i) form h
    ∙ ap₂ ◌++◌ (pair-stays B (12 * k + 20) i a.0) (ap₂ ◌++◌ (pair-stays B (24 * k + 30) i b.0) (pair-stays B (36 * k + 40) i b.1))
    ∙ sym (crc-is k B form h)

-- one of them shows in them
crc-shows : (form k : ℕ) (B C : List ℕ) (i : ℕ) → form ≤ 1 → 36 * k + 42 ≤ length B → 36 * k + 42 ≤ length C → is_crc k i ≡ true
    → carried crc form k B ≡ carried crc form k C → get_or B i 0 ≡ get_or C i 0
crc-shows form k B C i h n m e f =
    pick (either (is_pair (12 * k + 20) i) (is_pair (24 * k + 30) i || is_pair (36 * k + 40) i) e)
  where
    P : List ℕ → List ℕ
    P X = part (12 * k + 20) 2 X

    Q : List ℕ → List ℕ
    Q X = part (24 * k + 30) 2 X

    R : List ℕ → List ℕ
    R X = part (36 * k + 40) 2 X

    all : P B ++ (Q B ++ R B) ≡ P C ++ (Q C ++ R C)
    all = sym (crc-is k B form h) ∙ f ∙ crc-is k C form h

    two : (X : List ℕ) (at : ℕ) → at + 2 ≤ length X → length (part at 2 X) ≡ 2
    two X at g = length-take-le 2 (drop at X) (omega (arith, length-drop at X))

    front : (p q r s : List ℕ) → length p ≡ 2 → length q ≡ 2 → p ++ r ≡ q ++ s → p ≡ q
    front p q r s a b g = sym (take_at p r 2 a) ∙ ap (take 2) g ∙ take_at q s 2 b

    rear : (p q r s : List ℕ) → length p ≡ 2 → length q ≡ 2 → p ++ r ≡ q ++ s → r ≡ s
    rear p q r s a b g = sym (drop_at p r 2 a) ∙ ap (drop 2) g ∙ drop_at q s 2 b

    later : Q B ++ R B ≡ Q C ++ R C
    later = rear (P B) (P C) (Q B ++ R B) (Q C ++ R C) (two B (12 * k + 20) (omega arith)) (two C (12 * k + 20) (omega arith)) all

    pick : (is_pair (12 * k + 20) i ≡ true) ⊎ ((is_pair (24 * k + 30) i || is_pair (36 * k + 40) i) ≡ true) → get_or B i 0 ≡ get_or C i 0
    pick (inl g) =
        pair-shows B C (12 * k + 20) i g
        (front (P B) (P C) (Q B ++ R B) (Q C ++ R C) (two B (12 * k + 20) (omega arith)) (two C (12 * k + 20) (omega arith)) all)
    pick (inr g) = which (either (is_pair (24 * k + 30) i) (is_pair (36 * k + 40) i) g)
      where
        which : (is_pair (24 * k + 30) i ≡ true) ⊎ (is_pair (36 * k + 40) i ≡ true) → get_or B i 0 ≡ get_or C i 0
        which (inl g) =
            pair-shows B C (24 * k + 30) i g (front (Q B) (Q C) (R B) (R C) (two B (24 * k + 30) (omega arith)) (two C (24 * k + 30) (omega arith)) later)
        which (inr g) =
            pair-shows B C (36 * k + 40) i g (rear (Q B) (Q C) (R B) (R C) (two B (24 * k + 30) (omega arith)) (two C (24 * k + 30) (omega arith)) later)

-- the six stand before their end
crc-inside : (k i n : ℕ) → 36 * k + 42 ≤ n → is_crc k i ≡ true → i < n
crc-inside k i n h e = pick (either (is_pair (12 * k + 20) i) (is_pair (24 * k + 30) i || is_pair (36 * k + 40) i) e)
  where
    pair : (at : ℕ) → at ≤ 36 * k + 40 → is_pair at i ≡ true → i < n
    pair at u f = which (either (eqb i at) (eqb i (at + 1)) f)
      where
        which : (eqb i at ≡ true) ⊎ (eqb i (at + 1) ≡ true) → i < n
        which (inl g) = omega (arith, eqb-true i at g)
        which (inr g) = omega (arith, eqb-true i (at + 1) g)

    pick : (is_pair (12 * k + 20) i ≡ true) ⊎ ((is_pair (24 * k + 30) i || is_pair (36 * k + 40) i) ≡ true) → i < n
    pick (inl f) = pair (12 * k + 20) (omega arith) f
    pick (inr f) = last (either (is_pair (24 * k + 30) i) (is_pair (36 * k + 40) i) f)
      where
        last : (is_pair (24 * k + 30) i ≡ true) ⊎ (is_pair (36 * k + 40) i ≡ true) → i < n
        last (inl g) = pair (24 * k + 30) (omega arith) g
        last (inr g) = pair (36 * k + 40) (omega arith) g

-- the room reaches behind the six
reaches : (form k : ℕ) → form ≤ 1 → k ≤ 289 → (B : List ℕ) → length B ≡ 8 * room_of form → 36 * k + 42 ≤ length B
reaches zero k h m B l = omega arith
reaches (suc zero) k h m B l = omega arith
reaches (suc (suc f)) k h m B l = absurd (omega arith)

none-or-two : (t : Bool) → cond t 0 2 ≤ 2
none-or-two true = lit≤ tt
none-or-two false = lit≤ tt

-- two bits that are the same, one of them turned over
two-bits : (l : List ℕ) (j : ℕ) → Bits l → length l ≤ 2 → j < length l → get_or l 0 0 ≡ get_or l 1 0 → get_or (flipped l j) 0 0 ≡ get_or (flipped l j) 1 0 → ⊥
two-bits [] j h n u e f = omega arith
two-bits (x ∷ []) zero h n u e f = omega (arith, h 0)
two-bits (x ∷ []) (suc j) h n u e f = omega arith
two-bits (x ∷ y ∷ []) zero h n u e f = omega (arith, h 0)
two-bits (x ∷ y ∷ []) (suc zero) h n u e f = omega (arith, h 0)
two-bits (x ∷ y ∷ []) (suc (suc j)) h n u e f = omega arith
two-bits (x ∷ y ∷ z ∷ l) j h n u e f = omega arith

-- ---- the bit that was turned over

module _ (form k word next : ℕ) (B : List ℕ) (i : ℕ) (h : form ≤ 1) (m : k ≤ 289) (l : length B ≡ 8 * room_of form) (b : Bits B)
    (n : i < 8 * room_of form) where
  abbrev B' : List ℕ
  B' = flipped B i

  abbrev s : ℕ
  s = stuffed_in form k B

  abbrev T : List Row
  T = table form k s

  few : s ≤ 4
  few = stuffed-most form s (announces form k word next B h m l b)

  -- the stream that it belongs to
  abbrev x : ℕ
  x = stream_at T i

  at : i < total (widths_in T)
  at = subst (λ (t : ℕ). i < t) (sym (table-total form k s h m few)) n

  long : total (widths_in T) ≤ length B
  long = room-long form k s B h m few l

  -- has one bit turned over
  mine : (y : ℕ) → x ≡ y → stream_in y T B' ≡ flipped (stream_in y T B) (rank_at (eqb y) T i)
  mine y e = among_turned (eqb y) T B i at long (eq-eqb y x (sym e))

  mine_inside : (y : ℕ) → x ≡ y → rank_at (eqb y) T i < length (stream_in y T B)
  mine_inside y e = rank-inside (eqb y) T B i at long (eq-eqb y x (sym e))

  -- so its value is another
  mine-other : (y : ℕ) → x ≡ y → value_of (stream_in y T B') ≡ value_of (stream_in y T B) → ⊥
  mine-other y e =
      flipped-value (stream_in y T B) (stream_in y T B') (rank_at (eqb y) T i) (among-bits (eqb y) T B b) (mine_inside y e) (mine y e)

  -- and the others stay
  others : (y : ℕ) → (y ≡ x → ⊥) → stream_in y T B' ≡ stream_in y T B
  others y e = among_same (eqb y) T B i at (ne_eqb y x e)

  -- as they are carried
  carried-stays : (y : ℕ) → y ≤ 6 → (y ≡ x → ⊥) → carried y form k B' ≡ carried y form k B
  carried-stays y u e = sym (carried-is form k s B' h y u) ∙ others y e ∙ carried-is form k s B h y u

  -- where sbid stays, what is announced does, and what stands by it
  stuffed-stays : (sbid ≡ x → ⊥) → stuffed_in form k B' ≡ s
  stuffed-stays e = ap (λ (t : List ℕ). 4 * get_or t 0 0) (carried-stays 6 (lit≤ tt) e)

  behind-at : (y : ℕ) → (sbid ≡ x → ⊥) → behind y form k B' ≡ stream_in y T B'
  behind-at y e = ap (λ (t : ℕ). stream_in y (table form k t) B') (stuffed-stays e)

  due-stays : is_covered x ≡ false → due_of form k B' ≡ due_of form k B
  due-stays e =
      ap (register_of 6 six_generator 0) (sym (covered-stays form k s B' h) ∙ among_same is_covered T B i at e ∙ covered-stays form k s B h)

  due-other : is_covered x ≡ true → due_of form k B' ≡ due_of form k B → ⊥
  due-other e f =
      one_seen (among is_covered T B) (rank_at is_covered T i) (among-bits is_covered T B b) (rank-inside is_covered T B i at long e)
      (ap (register_of 6 six_generator 0) (sym (among_turned is_covered T B i at long e) ∙ covered-stays form k s B' h) ∙ f
      ∙ ap (register_of 6 six_generator 0) (sym (covered-stays form k s B h)))

  -- sbid1 and sbid2 no longer say the same
  twins-other : x ≡ sbid → sbid1 form k B ≡ sbid2 form k B → sbid1 form k B' ≡ sbid2 form k B' → ⊥
  twins-other e f g =
      two-bits (carried sbid form k B) (rank_at (eqb 6) T i) (among-bits (eqb 6) (table form k 0) B b)
      at_most
      (subst (λ (t : List ℕ). rank_at (eqb 6) T i < length t) (carried-is form k s B h 6 (lit≤ tt)) (mine_inside 6 e)) f
      (subst (λ (t : List ℕ). get_or t 0 0 ≡ get_or t 1 0)
      (sym (carried-is form k s B' h 6 (lit≤ tt)) ∙ mine 6 e
      ∙ ap (λ (t : List ℕ). flipped t (rank_at (eqb 6) T i)) (carried-is form k s B h 6 (lit≤ tt))) g)
    where
      at_most : length (carried sbid form k B) ≤ 2
      at_most =
          let e : length (carried sbid form k B) ≡ bits_in form k 0 6 =
          among-length (eqb 6) (table form k 0) B (room-long form k 0 B h m (lit≤ tt) l) ∙ amount-is form k 0 6 h in
          subst (λ (t : ℕ). t ≤ 2) (sym e) (none-or-two (eqb form 0))

  -- the places of the six are those of their stream
  not-crc : is_crc k i ≡ false → x ≡ crc → ⊥
  not-crc c e =
      mine-other 4 e (ap value_of (carried-is form k s B' h 4 (lit≤ tt) ∙ crc-stays form k B i h c ∙ sym (carried-is form k s B h 4 (lit≤ tt))))

  own-crc : is_crc k i ≡ true → x ≡ crc
  own-crc c = pick (eqb x 4) refl
    where
      pick : (t : Bool) → eqb x 4 ≡ t → x ≡ crc
      pick true e = eqb-true x 4 e
      pick false e =
          absurd (flipped-other B i b (subst (λ (t : ℕ). i < t) (sym l) n)
          (crc-shows form k B' B i h (reaches form k h m B' (flipped-length B i ∙ l)) (reaches form k h m B l) c
          (carried-stays 4 (lit≤ tt) (λ f. eqb-false x 4 e (sym f)))))

  module _ (g : Sound form k word next B) where
    abbrev L : List Refusal
    L = bit_refusals form k word next B'

    -- the two tests of stuffing
    abbrev twins : Bool
    twins = eqb (sbid1 form k B') (sbid2 form k B')

    abbrev ones : Bool
    ones = eqb (value_of (behind stuffing form k B')) (2 ^ stuffed_in form k B' - 1)

    -- the tests that the bit does not touch
    pass-5 : (sync ≡ x → ⊥) → answer L ≡ answer (drop 1 L)
    pass-5 e = passed 5 (drop 1 L) (ap not (eq-eqb _ _ (ap value_of (carried-stays 0 (lit≤ tt) e) ∙ g.synced)))

    pass-9 : (sbid ≡ x → ⊥) → (stuffing ≡ x → ⊥) → answer (drop 1 L) ≡ answer (drop 2 L)
    pass-9 e f =
        passed 9 (drop 2 L) (ap not (ap₂ ◌&&◌ (alike e)
        (eq-eqb _ _ (ap value_of (behind-at 7 e ∙ others 7 f) ∙ g.ones ∙ sym (ap (λ (t : ℕ). 2 ^ t - 1) (stuffed-stays e))))))
      where
        alike : (sbid ≡ x → ⊥) → eqb (sbid1 form k B') (sbid2 form k B') ≡ true
        alike e = eq-eqb _ _ (subst (λ (t : List ℕ). get_or t 0 0 ≡ get_or t 1 0) (sym (carried-stays 6 (lit≤ tt) e)) g.twins)

    pass-6 : (sbid ≡ x → ⊥) → (unused ≡ x → ⊥) → answer (drop 2 L) ≡ answer (drop 3 L)
    pass-6 e f = passed 6 (drop 3 L) (ap not (eq-eqb _ _ (ap value_of (behind-at 8 e ∙ others 8 f) ∙ g.clear)))

    -- what is answered, by the stream that the bit belongs to
    pub turned-answers : answer (bit_refusals form k word next (flipped B i)) ≡ seen_as (stream_at (table form k (stuffed_in form k B)) i)
    turned-answers = in-sync (eqb x 0) refl
      where
        -- a number is not another
        apart : (y z : ℕ) → x ≡ y → eqb z y ≡ false → z ≡ x → ⊥
        apart y z e f g = eqb-false z y f (g ∙ e)

        differs : (y : ℕ) → eqb x y ≡ false → y ≡ x → ⊥
        differs y e f = eqb-false x y e (sym f)

        seven : (y : ℕ) → (0 ≡ y → ⊥) → (4 ≡ y → ⊥) → (6 ≡ y → ⊥) → (7 ≡ y → ⊥) → (8 ≡ y → ⊥) → seen_as y ≡ 7
        seven zero a c d e f = absurd (a refl)
        seven (suc zero) a c d e f = refl
        seven (suc (suc zero)) a c d e f = refl
        seven (suc (suc (suc zero))) a c d e f = refl
        seven (suc (suc (suc (suc zero)))) a c d e f = absurd (c refl)
        seven (suc (suc (suc (suc (suc zero))))) a c d e f = refl
        seven (suc (suc (suc (suc (suc (suc zero)))))) a c d e f = absurd (d refl)
        seven (suc (suc (suc (suc (suc (suc (suc zero))))))) a c d e f = absurd (e refl)
        seven (suc (suc (suc (suc (suc (suc (suc (suc zero)))))))) a c d e f = absurd (f refl)
        seven (suc (suc (suc (suc (suc (suc (suc (suc (suc y))))))))) a c d e f = refl

        -- of none of these five, so a covered one
        in_rest : (eqb x 0 ≡ false) → (eqb x 4 ≡ false) → (eqb x 6 ≡ false) → (eqb x 7 ≡ false) → (eqb x 8 ≡ false) → answer L ≡ seen_as x
        in_rest a c d e f =
            let v : is_covered x ≡ true = ap not (ap₂ ◌||◌ (ap₂ ◌||◌ (ap₂ ◌||◌ a c) e) f) in
            let w : eqb next (due_of form k B') ≡ false = ne_eqb next (due_of form k B') (λ y. due-other v (sym y ∙ g.due)) in
            pass-5 (differs 0 a) ∙ pass-9 (differs 6 d) (differs 7 e) ∙ pass-6 (differs 6 d) (differs 8 f) ∙ refused 7 (drop 4 L) (ap not w)
            ∙ sym (seven x (differs 0 a) (differs 4 c) (differs 6 d) (differs 7 e) (differs 8 f))

        in-unused : (t : Bool) → eqb x 8 ≡ t → (eqb x 0 ≡ false) → (eqb x 4 ≡ false) → (eqb x 6 ≡ false) → (eqb x 7 ≡ false) → answer L ≡ seen_as x
        in-unused true z a c d e =
            let y = eqb-true x 8 z in
            let w : value_of (behind unused form k B') ≡ 0 → ⊥ =
            λ v. mine-other 8 y (sym (ap value_of (behind-at 8 (differs 6 d))) ∙ v ∙ sym g.clear) in
            pass-5 (differs 0 a) ∙ pass-9 (differs 6 d) (differs 7 e) ∙ refused 6 (drop 3 L) (ap not (ne_eqb _ _ w)) ∙ sym (ap seen_as y)
        in-unused false z a c d e = in_rest a c d e z

        in-stuffing : (t : Bool) → eqb x 7 ≡ t → (eqb x 0 ≡ false) → (eqb x 4 ≡ false) → (eqb x 6 ≡ false) → answer L ≡ seen_as x
        in-stuffing true z a c d =
            let y = eqb-true x 7 z in
            let w : value_of (behind stuffing form k B') ≡ 2 ^ stuffed_in form k B' - 1 → ⊥ =
            λ v. mine-other 7 y
            (sym (ap value_of (behind-at 7 (differs 6 d))) ∙ v ∙ ap (λ (t : ℕ). 2 ^ t - 1) (stuffed-stays (differs 6 d)) ∙ sym g.ones) in
            pass-5 (differs 0 a) ∙ refused 9 (drop 2 L) (ap not (wrong_second twins ones (ne_eqb _ _ w))) ∙ sym (ap seen_as y)
        in-stuffing false z a c d = in-unused (eqb x 8) refl a c d z

        in-sbid : (t : Bool) → eqb x 6 ≡ t → (eqb x 0 ≡ false) → (eqb x 4 ≡ false) → answer L ≡ seen_as x
        in-sbid true z a c =
            let y = eqb-true x 6 z in
            pass-5 (differs 0 a) ∙ refused 9 (drop 2 L) (ap not (wrong_first twins ones (ne_eqb _ _ (twins-other y g.twins)))) ∙ sym (ap seen_as y)
        in-sbid false z a c = in-stuffing (eqb x 7) refl a c z

        in-crc : (t : Bool) → eqb x 4 ≡ t → (eqb x 0 ≡ false) → answer L ≡ seen_as x
        in-crc true z a =
            let y = eqb-true x 4 z in
            let w : is_covered x ≡ false = ap is_covered y in
            pass-5 (differs 0 a) ∙ pass-9 (apart 4 6 y refl) (apart 4 7 y refl) ∙ pass-6 (apart 4 6 y refl) (apart 4 8 y refl)
            ∙ passed 7 (drop 4 L) (ap not (eq-eqb _ _ (g.due ∙ sym (due-stays w)))) ∙ sym (ap seen_as y)
        in-crc false z a = in-sbid (eqb x 6) refl a z

        in-sync : (t : Bool) → eqb x 0 ≡ t → answer L ≡ seen_as x
        in-sync true z =
            let y = eqb-true x 0 z in
            let w : value_of (carried sync form k B') ≡ word → ⊥ =
            λ v. mine-other 0 y
            (ap value_of (carried-is form k s B' h 0 (lit≤ tt)) ∙ v ∙ sym g.synced ∙ sym (ap value_of (carried-is form k s B h 0 (lit≤ tt)))) in
            refused 5 (drop 1 L) (ap not (ne_eqb _ _ w)) ∙ sym (ap seen_as y)
        in-sync false z = in-crc (eqb x 4) refl z

-- ---- the theorems

wrong-one : (y : ℕ) → (y ≡ crc → ⊥) → Wrong (seen_as y)
wrong-one zero h = inl refl
wrong-one (suc zero) h = inr (inr (inr refl))
wrong-one (suc (suc zero)) h = inr (inr (inr refl))
wrong-one (suc (suc (suc zero))) h = inr (inr (inr refl))
wrong-one (suc (suc (suc (suc zero)))) h = absurd (h refl)
wrong-one (suc (suc (suc (suc (suc zero))))) h = inr (inr (inr refl))
wrong-one (suc (suc (suc (suc (suc (suc zero)))))) h = inr (inl refl)
wrong-one (suc (suc (suc (suc (suc (suc (suc zero))))))) h = inr (inl refl)
wrong-one (suc (suc (suc (suc (suc (suc (suc (suc zero)))))))) h = inr (inr (inl refl))
wrong-one (suc (suc (suc (suc (suc (suc (suc (suc (suc y))))))))) h = inr (inr (inr refl))

module _ (form k word next : ℕ) (B : List ℕ) (i : ℕ) (h : form ≤ 1) (m : k ≤ 289) (l : length B ≡ 8 * room_of form) (b : Bits B)
    (n : i < 8 * room_of form) (z : answer (bit_refusals form k word next B) ≡ 0) where
  -- any one changed bit of the room but its own six is seen
  pub one_bit : is_crc k i ≡ false → Wrong (answer (bit_refusals form k word next (flipped B i)))
  one_bit c =
      subst Wrong (sym (turned-answers form k word next B i h m l b n (sound form k word next B z)))
      (wrong-one (stream_at (table form k (stuffed_in form k B)) i) (not-crc form k word next B i h m l b n c))

  -- its own six are not looked at
  pub own_six : is_crc k i ≡ true → answer (bit_refusals form k word next (flipped B i)) ≡ 0
  own_six c = turned-answers form k word next B i h m l b n (sound form k word next B z) ∙ ap seen_as (own-crc form k word next B i h m l b n c)

-- but those of the next frame C are: one of them changed makes this frame answer 7
pub next-six : (form k word : ℕ) (B C : List ℕ) (i : ℕ) → form ≤ 1 → k ≤ 289 → length C ≡ 8 * room_of form → Bits C → is_crc k i ≡ true
    → answer (bit_refusals form k word (overhead_in form k C).crc B) ≡ 0 → answer (bit_refusals form k word (overhead_in form k (flipped C i)).crc B) ≡ 7
next-six form k word B C i h m l c e z =
    let L = bit_refusals form k word (polynomial (carried crc form k (flipped C i))) B in
    let g = sound form k word (polynomial (carried crc form k C)) B z in
    let t : eqb (sbid1 form k B) (sbid2 form k B) ≡ true = eq-eqb _ _ g.twins in
    passed 5 (drop 1 L) (ap not (eq-eqb _ _ g.synced))
    ∙ passed 9 (drop 2 L) (ap not (ap₂ ◌&&◌ t (eq-eqb _ _ g.ones)))
    ∙ passed 6 (drop 3 L) (ap not (eq-eqb _ _ g.clear))
    ∙ refused 7 (drop 4 L) (ap not (ne_eqb _ _ (λ f. other (f ∙ sym g.due))))
  where
    same_bits : (p q : List ℕ) → Bits p → Bits q → length p ≡ length q → polynomial p ≡ polynomial q → p ≡ q
    same_bits p q u v n f =
        sym (reverse-reverse p)
        ∙ ap reverse (value-one (reverse p) (reverse q) (reverse_bits p u) (reverse_bits q v) (length-reverse p ∙ n ∙ sym (length-reverse q)) f)
        ∙ reverse-reverse q

    six : (X : List ℕ) → length X ≡ 8 * room_of form → length (carried crc form k X) ≡ 6
    six X u =
        among-length (eqb 4) (table form k 0) X (room-long form k 0 X h m (lit≤ tt) u) ∙ amount-is form k 0 4 h

    l' : length (flipped C i) ≡ 8 * room_of form
    l' = flipped-length C i ∙ l

    inside : i < length C
    inside = crc-inside k i (length C) (reaches form k h m C l) e

    other : polynomial (carried crc form k (flipped C i)) ≡ polynomial (carried crc form k C) → ⊥
    other f =
        flipped-other C i c inside
        (crc-shows form k (flipped C i) C i h (reaches form k h m (flipped C i) l') (reaches form k h m C l) e
        (same_bits (carried crc form k (flipped C i)) (carried crc form k C) (among-bits (eqb 4) (table form k 0) (flipped C i) (flipped-bits C i c))
        (among-bits (eqb 4) (table form k 0) C c) (six (flipped C i) l' ∙ sym (six C l)) f))
