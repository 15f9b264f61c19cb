-- How many bits each stream has in the table, for every size and either form; what is written fits; the streams before the end stand where they
-- stand, stuffing or not. Assumes nothing.
use mathlib.Core.Path.{◌≡◌, refl, sym, ap, ◌∙◌, subst}
use mathlib.Core.Bool.{Bool, true, false, cond, ◌&&◌}
use mathlib.Core.List.{List, [], ◌∷◌, ◌++◌}
use Prim.Native.Nat.{ℕ, zero, suc, ◌+◌, ◌-◌, ◌*◌, ◌≤◌, ◌<◌}
use native.Mathlib.Decide.{dec_le}
use native.Mathlib.Nat.{add-zero, le_refl}
use native.Mathlib.Omega.{arith}
use borrow.Author.Tests.{ltb-true, ne_eqb}
use lib.Dec.{eqb, ltb}
use lib.ListN.{length, get_or, take, drop, replicate, length-replicate, get_or-eq_default}
use Rattle.octets.proofs.Digits.{Bits, nil-bits, cons-bits, digits-length, digits-bits, zeros-bits}
use Rattle.octets.proofs.Laws.{bits-length, bits-bits}
use Rattle.places.specs.Places.{total}
use Rattle.places.specs.Streams.{Row, widths_in, amount, among, stream_in}
use Rattle.places.proofs.Streams.{Fits, counted, before, sifted, counted_is, among-front}
use Rattle.answer.proofs.Order.{both}
use Rattle.remainder.proofs.Errors.{check-length, check_bits_right}
use Rattle.dataframe.specs.declared.Overhead.{Overhead}
use Rattle.dataframe.specs.Table.{synchronous, stuffing, unused, line_bits, room_of, table}
use Rattle.dataframe.specs.Frame.{mark_of, streams, carried, is_covered, covered}

-- two tests that both hold
-- ---- the bits of each stream

-- in a table with s stuffing bits each stream has so many bits
abbrev pub amounts : ℕ → ℕ → ℕ → List ℕ
amounts form k s =
    14 ∷ 4 ∷ 48 * k ∷ 20 ∷ 6 ∷ cond (eqb form synchronous) 4 0 ∷ cond (eqb form synchronous) 0 2 ∷ cond (eqb form synchronous) 0 s
    ∷ (8 * room_of form - line_bits form k s) ∷ []

-- stream x
abbrev pub bits_in : ℕ → ℕ → ℕ → ℕ → ℕ
bits_in form k s x = get_or (amounts form k s) x 0

-- whether the streams of a table have numbers below n
below : ℕ → List Row → Bool
below n [] = true
below n (r ∷ rs) = ltb r.stream n && below n rs

-- then it takes nothing of any other
beyond : (n x : ℕ) (rs : List Row) → below n rs ≡ true → n ≤ x → amount (eqb x) rs ≡ 0
unfolding below
beyond n x [] e h = refl
beyond n x (r ∷ rs) e h =
    let b = both (ltb r.stream n) (below n rs) e in
    let l = ltb-true r.stream n b.0 in
    ap (λ (t : Bool). cond t (r.width + amount (eqb x) rs) (amount (eqb x) rs)) (ne_eqb x r.stream (λ f. omega arith)) ∙ beyond n x rs b.1 h

four : (k : ℕ) → 12 * k + (12 * k + (12 * k + (12 * k + 0))) ≡ 48 * k
four k = omega arith

-- counted row by row, one clause for each stream
counts : (form k s x : ℕ) → form ≤ 1 → x ≤ 8 → counted (eqb x) (table form k s) ≡ bits_in form k s x
counts zero k s zero h l = refl
counts zero k s (suc zero) h l = refl
counts zero k s (suc (suc zero)) h l = four k
counts zero k s (suc (suc (suc zero))) h l = refl
counts zero k s (suc (suc (suc (suc zero)))) h l = refl
counts zero k s (suc (suc (suc (suc (suc zero))))) h l = refl
counts zero k s (suc (suc (suc (suc (suc (suc zero)))))) h l = refl
counts zero k s (suc (suc (suc (suc (suc (suc (suc zero))))))) h l = refl
counts zero k s (suc (suc (suc (suc (suc (suc (suc (suc zero)))))))) h l = add-zero _
counts zero k s (suc (suc (suc (suc (suc (suc (suc (suc (suc x))))))))) h l = absurd (omega arith)
counts (suc zero) k s zero h l = refl
counts (suc zero) k s (suc zero) h l = refl
counts (suc zero) k s (suc (suc zero)) h l = four k
counts (suc zero) k s (suc (suc (suc zero))) h l = refl
counts (suc zero) k s (suc (suc (suc (suc zero)))) h l = refl
counts (suc zero) k s (suc (suc (suc (suc (suc zero))))) h l = refl
counts (suc zero) k s (suc (suc (suc (suc (suc (suc zero)))))) h l = refl
counts (suc zero) k s (suc (suc (suc (suc (suc (suc (suc zero))))))) h l = add-zero s
counts (suc zero) k s (suc (suc (suc (suc (suc (suc (suc (suc zero)))))))) h l = add-zero _
counts (suc zero) k s (suc (suc (suc (suc (suc (suc (suc (suc (suc x))))))))) h l = absurd (omega arith)
counts (suc (suc f)) k s x h l = absurd (omega arith)

-- stream x has so many bits; past the last there are none
pub amount-is : (form k s x : ℕ) → form ≤ 1 → amount (eqb x) (table form k s) ≡ bits_in form k s x
unfolding below
amount-is form k s x h = pick (dec_le x 8)
  where
    all : (form : ℕ) → form ≤ 1 → below 9 (table form k s) ≡ true
    all zero h = refl
    all (suc zero) h = refl
    all (suc (suc f)) h = absurd (omega arith)

    pick : Dec (x ≤ 8) → amount (eqb x) (table form k s) ≡ bits_in form k s x
    pick (yes l) = counted_is (eqb x) (table form k s) ∙ counts form k s x h l
    pick (no l) = beyond 9 x (table form k s) (all form h) (omega arith) ∙ sym (get_or-eq_default (amounts form k s) 0 {n = x} (omega arith))

-- together they fill the room
pub table-total : (form k s : ℕ) → form ≤ 1 → k ≤ 289 → s ≤ 4 → total (widths_in (table form k s)) ≡ 8 * room_of form
table-total zero k s h l m = omega arith
table-total (suc zero) k s h l m = omega arith
table-total (suc (suc f)) k s h l m = absurd (omega arith)

pub room-long : (form k s : ℕ) (B : List ℕ) → form ≤ 1 → k ≤ 289 → s ≤ 4 → length B ≡ 8 * room_of form → total (widths_in (table form k s)) ≤ length B
room-long form k s B h m u l =
    subst (λ (t : ℕ). total (widths_in (table form k s)) ≤ t) (table-total form k s h m u ∙ sym l) (le_refl (total (widths_in (table form k s))))

-- the rows before the end
abbrev front : ℕ → ℕ → List Row
front form k = take 19 (table form k 0)

-- the two at the end
abbrev rear : ℕ → ℕ → ℕ → List Row
rear form k s = drop 19 (table form k s)

module _ (form k s : ℕ) (bits : List ℕ) (h : form ≤ 1) where
  -- streams that do not reach the end stand where they stand, whatever is stuffed
  stands : (wanted : ℕ → Bool) → wanted stuffing ≡ false → wanted unused ≡ false
      → among wanted (table form k s) bits ≡ among wanted (table form k 0) bits
  stands wanted p q = pick form h
    where
      none : (t : ℕ) (b : List ℕ) → sifted wanted (rear 1 k t) b ≡ []
      none t b =
          ap (λ (x : Bool). before x (take t b) (sifted wanted (drop 1 (rear 1 k t)) (drop t b))) p
          ∙ ap (λ (x : Bool). before x (take (8 * room_of 1 - line_bits 1 k t) (drop t b)) []) q

      pick : (form : ℕ) → form ≤ 1 → among wanted (table form k s) bits ≡ among wanted (table form k 0) bits
      pick zero h = let e : table 0 k s ≡ table 0 k 0 = refl in ap (λ (rs : List Row). among wanted rs bits) e
      pick (suc zero) h =
          let e : table 1 k s ≡ front 1 k ++ rear 1 k s = refl in
          let f : table 1 k 0 ≡ front 1 k ++ rear 1 k 0 = refl in
          ap (λ (rs : List Row). among wanted rs bits) e ∙ among-front wanted (front 1 k) (rear 1 k s) (rear 1 k 0) bits (none s) (none 0)
          ∙ ap (λ (rs : List Row). among wanted rs bits) (sym f)
      pick (suc (suc f)) h = absurd (omega arith)

  pub carried-is : (x : ℕ) → x ≤ 6 → stream_in x (table form k s) bits ≡ carried x form k bits
  carried-is x l = stands (eqb x) (ne_eqb x 7 (λ e. omega arith)) (ne_eqb x 8 (λ e. omega arith))

  pub covered-stays : among is_covered (table form k s) bits ≡ covered form k bits
  covered-stays = stands is_covered refl refl

-- ---- what is written

-- stream x is written with so many bits
abbrev pub written : ℕ → ℕ → ℕ → ℕ → ℕ
written form k s x = get_or (14 ∷ 4 ∷ 48 * k ∷ 20 ∷ 6 ∷ 4 ∷ 2 ∷ s ∷ (8 * room_of form - line_bits form k s) ∷ []) x 0

pub same_bits : (n b : ℕ) → b < 2 → Bits (replicate n b)
same_bits zero b h = nil-bits
same_bits (suc n) b h = cons-bits b (replicate n b) h (same_bits n b h)

module _ (form k word : ℕ) (o : Overhead) (octets : List ℕ) where
  -- what each stream has
  pub stream-length : (x : ℕ) → length octets ≡ 6 * k
      → length (streams form k word o octets x) ≡ written form k o.stuffing x
  stream-length zero l = digits-length 14 word
  stream-length (suc zero) l = digits-length 4 o.indicators
  stream-length (suc (suc zero)) l = bits-length octets ∙ omega arith
  stream-length (suc (suc (suc zero))) l = digits-length 20 o.eoc
  stream-length (suc (suc (suc (suc zero)))) l = check-length 6 o.crc
  stream-length (suc (suc (suc (suc (suc zero))))) l = digits-length 4 o.spare
  stream-length (suc (suc (suc (suc (suc (suc zero)))))) l = refl
  stream-length (suc (suc (suc (suc (suc (suc (suc zero))))))) l = length-replicate o.stuffing 1
  stream-length (suc (suc (suc (suc (suc (suc (suc (suc zero)))))))) l = length-replicate (8 * room_of form - line_bits form k o.stuffing) 0
  stream-length (suc (suc (suc (suc (suc (suc (suc (suc (suc x))))))))) l = refl

  pub stream_bits : (x : ℕ) → Bits (streams form k word o octets x)
  stream_bits zero = digits-bits 14 word
  stream_bits (suc zero) = digits-bits 4 o.indicators
  stream_bits (suc (suc zero)) = bits-bits octets
  stream_bits (suc (suc (suc zero))) = digits-bits 20 o.eoc
  stream_bits (suc (suc (suc (suc zero)))) = check_bits_right 6 o.crc
  stream_bits (suc (suc (suc (suc (suc zero))))) = digits-bits 4 o.spare
  stream_bits (suc (suc (suc (suc (suc (suc zero)))))) = same_bits 2 (mark_of o.stuffing) (mark (eqb o.stuffing 4))
    where
      mark : (t : Bool) → cond t 1 0 < 2
      mark true = omega arith
      mark false = omega arith
  stream_bits (suc (suc (suc (suc (suc (suc (suc zero))))))) = same_bits o.stuffing 1 (omega arith)
  stream_bits (suc (suc (suc (suc (suc (suc (suc (suc zero)))))))) = zeros-bits (8 * room_of form - line_bits form k o.stuffing)
  stream_bits (suc (suc (suc (suc (suc (suc (suc (suc (suc x))))))))) = nil-bits

-- the table takes no more of a stream than it has: of the form's own streams all, of the others nothing
pub fits : (form k word : ℕ) (o : Overhead) (octets : List ℕ) → form ≤ 1 → length octets ≡ 6 * k
    → Fits (table form k o.stuffing) (streams form k word o octets)
fits form k word o octets h l x =
    subst (λ (n : ℕ). n ≤ length (streams form k word o octets x)) (sym (amount-is form k o.stuffing x h))
    (subst (λ (n : ℕ). bits_in form k o.stuffing x ≤ n) (sym (stream-length form k word o octets x l)) (most (eqb form 0) x))
  where
    s : ℕ
    s = o.stuffing

    room : ℕ
    room = 8 * room_of form - line_bits form k s

    -- a part of it, or nothing
    some : (t : Bool) (a b c : ℕ) → a ≤ c → b ≤ c → cond t a b ≤ c
    some true a b c p q = p
    some false a b c p q = q

    most : (t : Bool) (x : ℕ)
        → get_or (14 ∷ 4 ∷ 48 * k ∷ 20 ∷ 6 ∷ cond t 4 0 ∷ cond t 0 2 ∷ cond t 0 s ∷ room ∷ []) x 0
        ≤ get_or (14 ∷ 4 ∷ 48 * k ∷ 20 ∷ 6 ∷ 4 ∷ 2 ∷ s ∷ room ∷ []) x 0
    most t zero = omega arith
    most t (suc zero) = omega arith
    most t (suc (suc zero)) = omega arith
    most t (suc (suc (suc zero))) = omega arith
    most t (suc (suc (suc (suc zero)))) = omega arith
    most t (suc (suc (suc (suc (suc zero))))) = some t 4 0 4 (omega arith) (omega arith)
    most t (suc (suc (suc (suc (suc (suc zero)))))) = some t 0 2 2 (omega arith) (omega arith)
    most t (suc (suc (suc (suc (suc (suc (suc zero))))))) = some t 0 s s (omega arith) (omega arith)
    most t (suc (suc (suc (suc (suc (suc (suc (suc zero)))))))) = omega arith
    most t (suc (suc (suc (suc (suc (suc (suc (suc (suc x))))))))) = omega arith
