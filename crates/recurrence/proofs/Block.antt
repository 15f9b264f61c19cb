-- Many bits at once. Once over the number of bits taken together (`block_out`, `block-after`): the bits of a block are the digits of a number, and
-- so are those of the line before it, so that the recurrence is a sum of shifted numbers. Assumes nothing.
use mathlib.Core.Path.{◌≡◌, refl, sym, ap, ap₂, subst, ◌∙◌}
use mathlib.Core.Logic.{◌⊎◌, inl, inr}
use mathlib.Core.List.{List, [], ◌∷◌, ◌++◌, reverse, reverse-append, reverse-reverse}
use Prim.Native.Nat.{ℕ, ◌+◌, ◌-◌, ◌*◌, ◌/◌, ◌%◌, ◌^◌, ◌≤◌, ◌<◌}
use native.Mathlib.Nat.{add-mul, mul_assoc, mod-eq_of_lt, mod-lt}
use native.Mathlib.Omega.{arith}
use lib.Dec.{lit≤}
use lib.Pow.{pow-add, pow_pos, high, split, mod-mod-pow, shr_lt, shr-shr, shr_le, shl-shr}
use lib.Bits.{bit_xor, bit_or, or_mod, or_shifted, xor_lt, xor_shifted, xor_shr, xor_mod}
use lib.ListN.{length, get_or, take, drop, length-reverse, length-drop}
use lib.Seq.{take_at, length-take-le}
use Rattle.octets.specs.Bits.{digits_of, value_of, bits_of, part, laid}
use Rattle.octets.proofs.Digits.{Bits, digits-length, digits-bits, digits-at, digits-take, digits-mod-pow, turned_lt}
use Rattle.octets.proofs.Turn.{turn_of, turn-digits}
use Rattle.octets.proofs.Laws.{Octets, bits-length, laid_none, laid_next}
use Rattle.octets.proofs.Words.{digits-cut, digits-join, part-more}
use Rattle.octets.proofs.Xor.{xor_assoc, xor-swap, bit, back}
use Rattle.octets.proofs.Sums.{sum, doubled, sum_comm, sum_twice, sum-mod, sum-sum-mod, sum-last, sum-none, coded, coded-sum, coded-lt}
use Rattle.recurrence.specs.Line.{sum3, line, newest}
use Rattle.recurrence.specs.Run.{on_line, run_of, after_of}
use Rattle.recurrence.specs.declared.Way.{Way}
use Rattle.recurrence.specs.declared.Way.TheVariants.{Scramble as scramble, Descramble as descramble}
use Rattle.recurrence.specs.Window.{state_of, Out, Gone}
use Rattle.recurrence.proofs.Laws.{xor3, run_none, run_length, run-bits, run-append, after-append}
use Rattle.recurrence.proofs.Exactly.{run-descrambles, descrambles-run, scrambles-run, descrambled-state, scrambled-state, sum3-twice}

-- ---- the scrambler undoes the descrambler

module _ (tap : ℕ) (h : 1 ≤ tap) (l : tap ≤ 23) (state : ℕ) (s : List ℕ) (hs : Bits s) where
  pub undone : s ≡ run_of scramble tap state (run_of descramble tap state s)
  undone =
      let f = run_of descramble tap state s in
      let e : length f ≡ length s = run_length descramble tap state s in
      scrambles-run tap h l state f s
      (record {
        size = sym e;
        rule = λ n k. let m : n < length s = omega arith in
            let A = get_or (line state s) (23 + n - tap) 0 in
            let B = get_or (line state s) n 0 in
            sym (ap (λ (x : ℕ). sum3 x A B) ((run-descrambles tap h l state s hs).rule n m) ∙ sum3-twice (get_or s n 0) A B (hs n));
      })

  pub undone-state : state < 2 ^ 23 → after_of scramble tap state (run_of descramble tap state s) ≡ after_of descramble tap state s
  undone-state k =
      scrambled-state tap state (run_of descramble tap state s) k ∙ ap (newest state) (sym undone) ∙ sym (descrambled-state tap state s k hs)

-- ---- a block of n bits: the digits of y, behind the line's last 23, the digits of W, the oldest first

module _ (n W y : ℕ) (hW : W < 2 ^ 23) where
  -- the state that holds those 23, and they and the block as one number
  abbrev state : ℕ
  state = turn_of 23 W

  abbrev whole : ℕ
  whole = y * 2 ^ 23 + W

  line-digits : line state (digits_of n y) ≡ digits_of (23 + n) whole
  line-digits =
      ap (λ (l : List ℕ). l ++ digits_of n y) (ap reverse (turn-digits 23 W) ∙ reverse-reverse (digits_of 23 W)) ∙ sym (digits-join 23 n (23 + n) y W refl hW)

  -- where the block's bits are on the line
  pub block_out : (tap : ℕ) → 1 ≤ tap → tap ≤ 23
      → run_of descramble tap state (digits_of n y) ≡ digits_of n (bit_xor (bit_xor y (whole / 2 ^ (23 - tap))) whole)
  block_out tap h l =
      let P = whole / 2 ^ (23 - tap) in
      let v = bit_xor (bit_xor y P) whole in
      sym (descrambles-run tap h l state (digits_of n y) (digits_of n v) (digits-bits n y)
      (record { size = digits-length n v ∙ sym (digits-length n y); rule = λ i k. rule i (omega (arith, digits-length n y)) }))
    where
      digit : (i : ℕ) → i < 23 + n → get_or (line state (digits_of n y)) i 0 ≡ whole / 2 ^ i % 2
      digit i k = ap (λ (L : List ℕ). get_or L i 0) line-digits ∙ digits-at (23 + n) whole i k

      rule : (i : ℕ) → i < n
          → get_or (digits_of n (bit_xor (bit_xor y (whole / 2 ^ (23 - tap))) whole)) i 0
          ≡ sum3 (get_or (digits_of n y) i 0) (get_or (line state (digits_of n y)) (23 + i - tap) 0) (get_or (line state (digits_of n y)) i 0)
      rule i k =
          let P = whole / 2 ^ (23 - tap) in
          let a = y / 2 ^ i in
          let b = P / 2 ^ i in
          let c = whole / 2 ^ i in
          let e : 23 - tap + i ≡ 23 + i - tap = omega arith in
          digits-at n (bit_xor (bit_xor y P) whole) i k
          ∙ ap (λ (x : ℕ). x % 2) (xor_shr (bit_xor y P) whole i ∙ ap (λ (x : ℕ). bit_xor x c) (xor_shr y P i))
          ∙ xor_mod (bit_xor a b) c 1 ∙ ap (λ (x : ℕ). bit_xor x (c % 2)) (xor_mod a b 1)
          ∙ xor3 (a % 2) (b % 2) (c % 2) (bit a) (bit b) (bit c)
          ∙ ap₂ (λ (x y : ℕ). sum3 x y (c % 2)) (sym (digits-at n y i k))
          (ap (λ (x : ℕ). x % 2) (shr-shr whole (23 - tap) i ∙ ap (λ (m : ℕ). whole / 2 ^ m) e) ∙ sym (digit (23 + i - tap) (omega arith)))
          ∙ ap (λ (x : ℕ). sum3 (get_or (digits_of n y) i 0) (get_or (line state (digits_of n y)) (23 + i - tap) 0) x) (sym (digit i (omega arith)))

  pub block-after : (tap : ℕ) → after_of descramble tap state (digits_of n y) ≡ turn_of 23 (whole / 2 ^ n)
  block-after tap =
      let D = digits_of 23 (whole / 2 ^ n) in
      let e : 23 + n ≡ n + 23 = omega arith in
      descrambled-state tap state (digits_of n y) (turned_lt 23 W) (digits-bits n y)
      ∙ ap (λ (l : List ℕ). value_of (take 23 (reverse l))) (line-digits ∙ digits-cut n 23 (23 + n) whole e)
      ∙ ap (λ (l : List ℕ). value_of (take 23 l)) (reverse-append (digits_of n whole) D)
      ∙ ap value_of (take_at (reverse D) (reverse (digits_of n whole)) 23 (length-reverse D ∙ digits-length 23 (whole / 2 ^ n)))

-- ---- up to 64 bits

-- the bits of a word that lie tap and 23 back, added, as the code adds them
abbrev pub spread_of : ℕ → ℕ → ℕ
spread_of tap v = coded 64 v (tap ∷ 23 ∷ []) v

-- digits of a number are those of its low 64
digits_low : (n v : ℕ) → n ≤ 64 → digits_of n v ≡ digits_of n (v % 2 ^ 64)
digits_low n v h = sym (digits-take n 64 v h) ∙ ap (take n) (sym (digits-mod-pow 64 v)) ∙ digits-take n 64 (v % 2 ^ 64) h

module _ (tap : ℕ) (h : 1 ≤ tap) (l : tap ≤ 23) (W : ℕ) (hW : W < 2 ^ 23) where
  -- what the line before the bits adds to them
  abbrev pub earlier : ℕ
  earlier = bit_xor (W / 2 ^ (23 - tap)) W

  earlier-lt : earlier < 2 ^ 64
  earlier-lt = xor_lt 64 (W / 2 ^ (23 - tap)) W (omega (arith, shr_le W (23 - tap))) (omega arith)

  module _ (n y : ℕ) (hn : n ≤ 64) (hy : y < 2 ^ 64) where
    -- the block's number within the word
    word_sum : bit_xor (bit_xor y (whole n W y hW / 2 ^ (23 - tap))) (whole n W y hW) % 2 ^ 64 ≡ bit_xor (spread_of tap y) earlier
    word_sum =
        let d = 23 - tap in
        let X = whole n W y hW in
        let D = W / 2 ^ d in
        let x : X ≡ bit_xor (y * 2 ^ 23) W = sym (xor_shifted y 23 W hW) in
        let pw : 2 ^ 23 ≡ 2 ^ tap * 2 ^ d = ap (λ (n : ℕ). 2 ^ n) back_is ∙ pow-add 2 tap d in
        let t : y * 2 ^ 23 / 2 ^ d ≡ y * 2 ^ tap =
        ap (λ (n : ℕ). n / 2 ^ d) (ap (λ (n : ℕ). y * n) pw ∙ sym (mul_assoc y (2 ^ tap) (2 ^ d))) ∙ shl-shr (y * 2 ^ tap) d in
        let xd : X / 2 ^ d ≡ bit_xor (y * 2 ^ tap) D = ap (λ (n : ℕ). n / 2 ^ d) x ∙ xor_shr (y * 2 ^ 23) W d ∙ ap (λ (n : ℕ). bit_xor n D) t in
        ap₂ (λ (a b : ℕ). bit_xor (bit_xor y a) b % 2 ^ 64) xd x
        ∙ ap (λ (a : ℕ). bit_xor a (bit_xor (y * 2 ^ 23) W) % 2 ^ 64) (sym (xor_assoc y (y * 2 ^ tap) D))
        ∙ ap (λ (a : ℕ). a % 2 ^ 64) (xor-swap (bit_xor y (y * 2 ^ tap)) D (y * 2 ^ 23) W)
        ∙ xor_mod (bit_xor (bit_xor y (y * 2 ^ tap)) (y * 2 ^ 23)) earlier 64
        ∙ ap₂ bit_xor
        (xor_mod (bit_xor y (y * 2 ^ tap)) (y * 2 ^ 23) 64
        ∙ ap (λ (a : ℕ). bit_xor a (y * 2 ^ 23 % 2 ^ 64)) (xor_mod y (y * 2 ^ tap) 64 ∙ ap (λ (a : ℕ). bit_xor a (y * 2 ^ tap % 2 ^ 64)) (mod-eq_of_lt hy)))
        (mod-eq_of_lt earlier-lt)
      where
        back_is : 23 ≡ tap + (23 - tap)
        back_is = omega arith

    word-run : run_of descramble tap (turn_of 23 W) (digits_of n y) ≡ digits_of n (bit_xor (spread_of tap y) earlier)
    word-run =
        let v = bit_xor (bit_xor y (whole n W y hW / 2 ^ (23 - tap))) (whole n W y hW) in
        block_out n W y hW tap h l ∙ digits_low n v hn ∙ ap (digits_of n) word_sum

  -- both ways: y on the line, f on the other side
  pub word_back : (y : ℕ) → y < 2 ^ 64 → (n : ℕ) → n ≤ 64 → Out descramble tap W n y (bit_xor (spread_of tap y) earlier)
  word_back y hy n hn = (sym (word-run n y hn hy), sym (block-after n W y hW tap))

  pub word-forth : (y f : ℕ) → y < 2 ^ 64 → spread_of tap y ≡ bit_xor f earlier → (n : ℕ) → n ≤ 64 → Out scramble tap W n f y
  word-forth y f hy e n hn =
      let S = turn_of 23 W in
      let D = digits_of n y in
      let r : run_of descramble tap S D ≡ digits_of n f = word-run n y hn hy ∙ ap (λ (x : ℕ). digits_of n (bit_xor x earlier)) e ∙ ap (digits_of n) (back f earlier) in (
        undone tap h l S D (digits-bits n y) ∙ ap (run_of scramble tap S) r,
        sym (block-after n W y hW tap) ∙ sym (undone-state tap h l S D (digits-bits n y) (turned_lt 23 W)) ∙ ap (after_of scramble tap S) r,
      )

-- ---- the spread undone: the spread of the word so far is u with its bits k back added

module _ (tap u : ℕ) (hu : u < 2 ^ 64) where
  abbrev taps : List ℕ
  taps = tap ∷ 23 ∷ []

  -- after the first two
  pub begun : (o : ℕ) → o ≡ spread_of tap u → o < 2 ^ 64 → spread_of tap (coded 64 o (doubled taps) o) ≡ sum ((tap + tap + (tap + tap)) ∷ []) u % 2 ^ 64
  begun o e ho =
      let N = 2 ^ 64 in
      let two = doubled taps in
      coded-sum 64 taps (coded 64 o two o) (coded-lt 64 two o ho) ∙ ap (λ (x : ℕ). sum taps x % N) (coded-sum 64 two o ho) ∙ sum-mod 64 taps (sum two o)
      ∙ ap (λ (x : ℕ). sum taps (sum two x) % N) (e ∙ coded-sum 64 taps u hu) ∙ sum-sum-mod 64 taps two (sum taps u)
      ∙ ap (λ (x : ℕ). x % N) (sum_comm taps two (sum taps u) ∙ ap (sum two) (sum_twice taps u) ∙ sum_twice two u)
      ∙ sum-last 64 (tap + tap + (tap + tap)) 92 u (lit≤ tt)

  pub gathering : (y k : ℕ) → y < 2 ^ 64 → spread_of tap y ≡ sum (k ∷ []) u % 2 ^ 64
      → spread_of tap (coded 64 y (k ∷ []) y) ≡ sum ((k + k) ∷ []) u % 2 ^ 64
  gathering y k hy e =
      let N = 2 ^ 64 in
      let K = k ∷ [] in
      coded-sum 64 taps (coded 64 y K y) (coded-lt 64 K y hy) ∙ ap (λ (x : ℕ). sum taps x % N) (coded-sum 64 K y hy) ∙ sum-mod 64 taps (sum K y)
      ∙ ap (λ (x : ℕ). x % N) (sum_comm taps K y) ∙ sym (sum-mod 64 K (sum taps y))
      ∙ ap (λ (x : ℕ). sum K x % N) (sym (coded-sum 64 taps y hy) ∙ e) ∙ sum-mod 64 K (sum K u) ∙ ap (λ (x : ℕ). x % N) (sum_twice K u)

  pub done : (y k : ℕ) → 64 ≤ k → spread_of tap y ≡ sum (k ∷ []) u % 2 ^ 64 → spread_of tap y ≡ u
  done y k h e = e ∙ sum-none 64 k u h ∙ mod-eq_of_lt hu

-- ---- the window n bits further, as the code finds it

module _ (W y n : ℕ) (hW : W < 2 ^ 23) where
  abbrev further : ℕ
  further = (y * 2 ^ 23 + W) / 2 ^ n % 2 ^ 23

  pub later-few : n < 23 → bit_or (y * 2 ^ (23 - n) % 2 ^ 64) (W / 2 ^ n) % 2 ^ 23 ≡ further
  later-few h =
      let d = 23 - n in
      let c : d + n ≡ 23 = omega arith in
      let lw : W / 2 ^ n < 2 ^ d = shr_lt d n (subst (λ (m : ℕ). W < 2 ^ m) (sym c) hW) in
      let pw : 2 ^ 23 ≡ 2 ^ d * 2 ^ n = ap (λ (m : ℕ). 2 ^ m) (sym c) ∙ pow-add 2 d n in
      let A = y * 2 ^ d in
      let B = W / 2 ^ n in
      let e : y * 2 ^ 23 + W ≡ (A + B) * 2 ^ n + W % 2 ^ n =
      ap₂ ◌+◌ (ap (λ (m : ℕ). y * m) pw ∙ sym (mul_assoc y (2 ^ d) (2 ^ n))) (sym (split W n)) ∙ omega (arith, add-mul A B (2 ^ n)) in
      or_mod (A % 2 ^ 64) B 23 ∙ ap (λ (x : ℕ). bit_or x (B % 2 ^ 23)) (mod-mod-pow A 41 23) ∙ sym (or_mod A B 23)
      ∙ ap (λ (x : ℕ). x % 2 ^ 23) (or_shifted y d B lw ∙ sym (ap (λ (x : ℕ). x / 2 ^ n) e ∙ high (A + B) n (mod-lt W (pow_pos n))))

  pub later-many : 23 ≤ n → y / 2 ^ (n - 23) % 2 ^ 23 ≡ further
  later-many h =
      let c : 23 + (n - 23) ≡ n = omega arith in
      ap (λ (x : ℕ). x % 2 ^ 23)
      (ap (λ (x : ℕ). x / 2 ^ (n - 23)) (sym (high y 23 hW)) ∙ shr-shr (y * 2 ^ 23 + W) 23 (n - 23) ∙ ap (λ (m : ℕ). (y * 2 ^ 23 + W) / 2 ^ m) c)

-- ---- the run over n bits more, behind the first m

module _ (way : Way) (tap start : ℕ) (s : List ℕ) (at m n j : ℕ) (e : m + n ≡ j) (h : at + m ≤ 8 * length s) (st : ℕ)
    (g : st ≡ after_of way tap start (part at m (bits_of s))) where
  abbrev taken : List ℕ
  taken = part at m (bits_of s)

  abbrev fresh : List ℕ
  fresh = part (at + m) n (bits_of s)

  pub state-more : after_of way tap st fresh ≡ after_of way tap start (part at j (bits_of s))
  state-more =
      ap (λ (x : ℕ). after_of way tap x fresh) g ∙ sym (after-append way tap start taken fresh) ∙ ap (after_of way tap start) (part-more (bits_of s) at m n j e)

  pub out-more : (o₀ o t : List ℕ) → o ≡ laid o₀ at (run_of way tap start taken) → t ≡ laid o (at + m) (run_of way tap st fresh)
      → t ≡ laid o₀ at (run_of way tap start (part at j (bits_of s)))
  out-more o₀ o t p q =
      let R = run_of way tap start taken in
      let l : length R ≡ m =
      run_length way tap start taken ∙ length-take-le m (drop at (bits_of s)) (omega (arith, length-drop at (bits_of s), bits-length s)) in
      laid_next o₀ at R (run_of way tap st fresh) (at + m) (run-bits way tap start taken) (ap (λ (x : ℕ). at + x) l) p q
      ∙ ap (laid o₀ at)
      (ap (λ (x : ℕ). R ++ run_of way tap x fresh) g ∙ sym (run-append way tap start taken fresh) ∙ ap (run_of way tap start) (part-more (bits_of s) at m n j e))

-- ---- windows: nothing gone yet, up to 64 bits at once, and one stretch behind the other

module _ (way : Way) (tap : ℕ) where
  pub gone-none : (W : ℕ) (s : List ℕ) (at : ℕ) → W < 2 ^ 23 → Octets s → Gone way tap W [] s at W s
  gone-none W s at h o = let n = run_none way tap (state_of W) in (h, n.1, laid_none s at o ∙ ap (laid s at) n.0)

  pub gone-word : (W n f r y q : ℕ) (bs o t : List ℕ) → Out way tap W n f r → y ≡ (on_line way f r * 2 ^ 23 + W) / 2 ^ n % 2 ^ 23 → digits_of n f ≡ bs
      → t ≡ laid o q (digits_of n r) → Gone way tap W bs o q y t
  gone-word W n f r y q bs o t out e d p =
      let S = state_of W in
      let X = (on_line way f r * 2 ^ 23 + W) / 2 ^ n in (
        subst (λ (x : ℕ). x < 2 ^ 23) (sym e) (mod-lt X (pow_pos 23)),
        ap state_of e ∙ ap (λ (l : List ℕ). value_of (reverse l)) (digits-mod-pow 23 X) ∙ out.1 ∙ ap (after_of way tap S) d,
        p ∙ ap (laid o q) (out.0 ∙ ap (run_of way tap S) d),
      )

  pub gone-join : (s : List ℕ) (p m n j q W X Y : ℕ) (o₀ o t : List ℕ) → m + n ≡ j → p + m ≤ 8 * length s → p + m ≡ q
      → Gone way tap W (part p m (bits_of s)) o₀ p X o → Gone way tap X (part q n (bits_of s)) o q Y t → Gone way tap W (part p j (bits_of s)) o₀ p Y t
  gone-join s p m n j q W X Y o₀ o t e h f a b =
      let S = state_of X in
      let F : ℕ → List ℕ = λ k. part k n (bits_of s) in (
        b.0,
        b.1 ∙ ap (λ (k : ℕ). after_of way tap S (F k)) (sym f) ∙ state-more way tap (state_of W) s p m n j e h S a.1,
        out-more way tap (state_of W) s p m n j e h S a.1 o₀ o t a.2 (b.2 ∙ ap (λ (k : ℕ). laid o k (run_of way tap S (F k))) (sym f)),
      )

  -- no bits are gone at any place
  pub gone-moved : (s : List ℕ) (n q q' W X : ℕ) (o t : List ℕ) → (n ≡ 0) ⊎ (q ≡ q') → Gone way tap W (part q n (bits_of s)) o q X t
      → Gone way tap W (part q' n (bits_of s)) o q' X t
  unfolding laid run_of
  gone-moved s n q q' W X o t (inl e) a = subst (λ (k : ℕ). Gone way tap W (part q' k (bits_of s)) o q' X t) (sym e) (subst (λ (k : ℕ). Gone way tap W (part q k (bits_of s)) o q X t) e a)
  gone-moved s n q q' W X o t (inr e) a = subst (λ (k : ℕ). Gone way tap W (part k n (bits_of s)) o k X t) e a
