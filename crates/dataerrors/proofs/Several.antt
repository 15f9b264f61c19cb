-- Changed bits among those that the six cover: any number within six in a row, and any two that are not a multiple of 63 apart, make a frame
-- answer 7; any two that are go unseen. Assumes nothing.
use mathlib.Core.Path.{◌≡◌, refl, sym, ap, ◌∙◌, subst}
use mathlib.Core.Bool.{Bool, true, false, not, false≢true}
use mathlib.Core.Logic.{◌⊎◌, inl, inr}
use mathlib.Core.List.{List}
use Prim.Native.Nat.{ℕ, ◌+◌, ◌-◌, ◌*◌, ◌%◌, ◌^◌, ◌≤◌, ◌<◌}
use native.Mathlib.Nat.{le_of_lt, lt_trans, lt_of_lt_of_le}
use native.Mathlib.Omega.{arith}
use borrow.Author.Tests.{ne_eqb}
use lib.Dec.{eqb, lit≤}
use lib.ListN.{length, get_or}
use Rattle.answer.specs.Answer.{answer}
use Rattle.octets.specs.Bits.{value_of}
use Rattle.octets.proofs.Digits.{Bits}
use Rattle.places.specs.Places.{total, Holds}
use Rattle.places.specs.Streams.{Row, row, widths_in, among, stream_in}
use Rattle.places.proofs.Places.{inside}
use Rattle.places.proofs.Streams.{among-length, among-bits}
use Rattle.remainder.specs.Register.{register_of}
use Rattle.remainder.specs.Errors.{flipped}
use Rattle.distance.specs.Errors.{BurstBits}
use Rattle.dataframe.specs.Table.{sync, sbid, unused, room_of, table}
use Rattle.dataframe.specs.Frame.{carried, stuffed_in, behind, six_generator, is_covered, covered, due_of}
use Rattle.dataframe.specs.Refusals.{stuffing_right, bit_refusals}
use Rattle.answer.proofs.Order.{both}
use Rattle.dataframe.proofs.Streams.{table-total, room-long, carried-is, covered-stays}
use Rattle.dataframe.proofs.RoundTrip.{sound, sound-answers, stuffed-most, announces}
use Rattle.dataframe.proofs.Order.{due-one, seven}
use Rattle.dataerrors.specs.Errors.{stream_at, rank_at, longest, turn, FarBits, TurnBits, is_free, TurnPlaces}
use Rattle.dataerrors.proofs.Turned.{flipped-length, among_same, among_turned, rank-inside, row-stream, row-rank}
use Rattle.dataerrors.proofs.Six.{two-unseen, two-seen, burst-seen}

-- ---- two frames B and C of one form and size

module _ (form k : ℕ) (B C : List ℕ) (h : form ≤ 1) (m : k ≤ 289) (l : length B ≡ 8 * room_of form) (l' : length C ≡ 8 * room_of form)
    (b : Bits B) (c : Bits C) where
  same_length : length (covered form k B) ≡ length (covered form k C)
  same_length =
      among-length is_covered (table form k 0) B (room-long form k 0 B h m (lit≤ tt) l)
      ∙ sym (among-length is_covered (table form k 0) C (room-long form k 0 C h m (lit≤ tt) l'))

  bits : (X : List ℕ) → Bits X → Bits (covered form k X)
  bits X x = among-bits is_covered (table form k 0) X x

  -- the six of one are not those of the other
  pub due-differs : BurstBits longest (covered form k B) (covered form k C) ⊎ FarBits (covered form k B) (covered form k C)
      → due_of form k B ≡ due_of form k C → ⊥
  due-differs (inl f) e = burst-seen (covered form k B) (covered form k C) same_length (bits B b) (bits C c) f e
  due-differs (inr f) e =
      f.far (two-seen (covered form k B) f.two.first f.two.second (bits B b) f.two.ordered f.two.inside
      (ap (register_of 6 six_generator 0) (sym f.two.turned) ∙ sym e))

  -- or they are
  pub due-same : TurnBits (covered form k B) (covered form k C) → due_of form k C ≡ due_of form k B
  due-same f =
      ap (register_of 6 six_generator 0) f.two.turned
      ∙ two-unseen (covered form k B) f.two.first f.two.second (bits B b) f.two.ordered f.two.inside f.round

  module _ (word next : ℕ) (f : BurstBits longest (covered form k B) (covered form k C) ⊎ FarBits (covered form k B) (covered form k C))
      (z : answer (bit_refusals form k word next B) ≡ 0) where
    -- so not both answer 0
    pub not-both : answer (bit_refusals form k word next C) ≡ 0 → ⊥
    not-both y = due-differs f (sym (sound form k word next B z).due ∙ (sound form k word next C y).due)

    -- the other answers 7, where nothing else is wrong with it
    pub answers-seven : value_of (carried sync form k C) ≡ word → stuffing_right form k C ≡ true → value_of (behind unused form k C) ≡ 0
        → answer (bit_refusals form k word next C) ≡ 7
    answers-seven p q r =
        (seven form k C c word next p q r).1 (λ d. due-differs f (sym (sound form k word next B z).due ∙ due-one form k C c next d))

-- ---- two bits of a frame that go unseen

module _ (form k word next : ℕ) (B : List ℕ) (i j : ℕ) (h : form ≤ 1) (m : k ≤ 289) (l : length B ≡ 8 * room_of form) (b : Bits B)
    (n : i < 8 * room_of form) (o : j < 8 * room_of form) (p : TurnPlaces (table form k (stuffed_in form k B)) i j) where
  abbrev s : ℕ
  s = stuffed_in form k B

  abbrev T : List Row
  T = table form k s

  abbrev C : List ℕ
  C = flipped (flipped B i) j

  few : s ≤ 4
  few = stuffed-most form s (announces form k word next B h m l b)

  at : (q : ℕ) → q < 8 * room_of form → q < total (widths_in T)
  at q u = subst (λ (t : ℕ). q < t) (sym (table-total form k s h m few)) u

  l₁ : length (flipped B i) ≡ 8 * room_of form
  l₁ = flipped-length B i ∙ l

  -- what is not covered, or sbid, stays
  stays : (wanted : ℕ → Bool) → wanted (stream_at T i) ≡ false → wanted (stream_at T j) ≡ false → among wanted T C ≡ among wanted T B
  stays wanted e f = among_same wanted T (flipped B i) j (at j o) f ∙ among_same wanted T B i (at i n) e

  -- a stream that is not free is no other's
  not_free : (y x : ℕ) → is_free y ≡ false → is_free x ≡ true → eqb y x ≡ false
  not_free y x e f = ne_eqb y x (λ g. false≢true (sym e ∙ ap is_free g ∙ f))

  stream-stays : (y : ℕ) → is_free y ≡ false → stream_in y T C ≡ stream_in y T B
  stream-stays y e = stays (eqb y) (not_free y (stream_at T i) e p.first_free) (not_free y (stream_at T j) e p.second_free)

  carried-stays : (y : ℕ) → y ≤ 6 → is_free y ≡ false → carried y form k C ≡ carried y form k B
  carried-stays y u e = sym (carried-is form k s C h y u) ∙ stream-stays y e ∙ carried-is form k s B h y u

  stuffed-stays : stuffed_in form k C ≡ s
  stuffed-stays = ap (λ (t : List ℕ). 4 * get_or t 0 0) (carried-stays 6 (lit≤ tt) refl)

  behind-stays : (y : ℕ) → is_free y ≡ false → behind y form k C ≡ behind y form k B
  behind-stays y e = ap (λ (t : ℕ). stream_in y (table form k t) C) stuffed-stays ∙ stream-stays y e

  -- of what is covered two bits are turned over
  is-covered : (x : ℕ) → is_free x ≡ true → is_covered x ≡ true
  is-covered x e = (both (is_covered x) (not (eqb x sbid)) e).0

  two-turned : among is_covered T C ≡ flipped (flipped (among is_covered T B) (rank_at is_covered T i)) (rank_at is_covered T j)
  two-turned =
      among_turned is_covered T (flipped B i) j (at j o) (room-long form k s (flipped B i) h m few l₁) (is-covered (stream_at T j) p.second_free)
      ∙ ap (λ (t : List ℕ). flipped t (rank_at is_covered T j))
      (among_turned is_covered T B i (at i n) (room-long form k s B h m few l) (is-covered (stream_at T i) p.first_free))

  due-stays : due_of form k C ≡ due_of form k B
  due-stays =
      ap (register_of 6 six_generator 0) (sym (covered-stays form k s C h) ∙ two-turned)
      ∙ two-unseen (among is_covered T B) (rank_at is_covered T i) (rank_at is_covered T j) (among-bits is_covered T B b) p.ordered
      (rank-inside is_covered T B j (at j o) (room-long form k s B h m few l) (is-covered (stream_at T j) p.second_free)) p.round
      ∙ ap (register_of 6 six_generator 0) (covered-stays form k s B h)

  -- the frame answers 0 as before
  pub unseen : answer (bit_refusals form k word next B) ≡ 0 → answer (bit_refusals form k word next (flipped (flipped B i) j)) ≡ 0
  unseen z =
      let g = sound form k word next B z in
      sound-answers form k word next C (record {
        synced = ap value_of (carried-stays 0 (lit≤ tt) refl) ∙ g.synced;
        twins = subst (λ (t : List ℕ). get_or t 0 0 ≡ get_or t 1 0) (sym (carried-stays 6 (lit≤ tt) refl)) g.twins;
        ones = ap value_of (behind-stays 7 refl) ∙ g.ones ∙ sym (ap (λ (t : ℕ). 2 ^ t - 1) stuffed-stays);
        clear = ap value_of (behind-stays 8 refl) ∙ g.clear;
        due = g.due ∙ sym due-stays;
      })

-- two bits of one row, a multiple of 63 apart
module _ (form k word next : ℕ) (B : List ℕ) (h : form ≤ 1) (m : k ≤ 289) (l : length B ≡ 8 * room_of form) (b : Bits B)
    (z : answer (bit_refusals form k word next B) ≡ 0) where
  abbrev F : List Row
  F = table form k (stuffed_in form k B)

  pub row-unseen : (r i j : ℕ) → Holds (widths_in (table form k (stuffed_in form k B))) r i → Holds (widths_in (table form k (stuffed_in form k B))) r j
      → is_free (get_or (table form k (stuffed_in form k B)) r (row 0 0)).stream ≡ true → i < j → (j - i) % turn ≡ 0
      → answer (bit_refusals form k word next (flipped (flipped B i) j)) ≡ 0
  row-unseen r i j p q e u t =
      unseen form k word next B i j h m l b (inner i p) (inner j q) (record {
        first_free = ap is_free (row-stream F r i p) ∙ e;
        second_free = ap is_free (row-stream F r j q) ∙ e;
        ordered = more (rank_at is_covered F i) (rank_at is_covered F j) (i) (j) u far;
        round = ap (λ (n : ℕ). n % turn) (less (rank_at is_covered F i) (rank_at is_covered F j) (j - i) far) ∙ t;
      }) z
    where
      far : rank_at is_covered F j ≡ rank_at is_covered F i + (j - i)
      far = row-rank is_covered F r i j p q (le_of_lt u)

      more : (x y i j : ℕ) → i < j → y ≡ x + (j - i) → x < y
      more x y i j u e = omega arith

      less : (x y d : ℕ) → y ≡ x + d → y - x ≡ d
      less x y d e = omega arith

      -- a place of a row is one of the room
      inner : (n : ℕ) → Holds (widths_in F) r n → n < 8 * room_of form
      inner n g =
          subst (λ (t : ℕ). n < t)
          (table-total form k (stuffed_in form k B) h m (stuffed-most form (stuffed_in form k B) (announces form k word next B h m l b)))
          (lt_of_lt_of_le g.within (inside (widths_in F) r))

  -- for one, payload bits p and q of the first block
  pub payload-unseen : (p q : ℕ) → p < q → q < 12 * k → (q - p) % turn ≡ 0
      → answer (bit_refusals form k word next (flipped (flipped B (16 + p)) (16 + q))) ≡ 0
  payload-unseen p q u v t =
      row-unseen 2 (16 + p) (16 + q) (first p (lt_trans u v)) (first q v) refl (up u) (ap (λ (n : ℕ). n % turn) down ∙ t)
    where
      first : (n : ℕ) → n < 12 * k → Holds (widths_in (table form k (stuffed_in form k B))) 2 (16 + n)
      first n g = record { begun = low n; within = high n (12 * k) g }
        where
          low : (n : ℕ) → 16 ≤ 16 + n
          low n = omega arith

          high : (n w : ℕ) → n < w → 16 + n < 16 + w
          high n w g = omega arith

      up : p < q → 16 + p < 16 + q
      up g = omega arith

      down : 16 + q - (16 + p) ≡ q - p
      down = omega arith
