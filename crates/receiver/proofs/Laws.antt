-- Laws for the functions. Assumes nothing.
use mathlib.Core.Path.{◌≡◌, refl, sym, ap, ap₂, subst, ◌∙◌}
use mathlib.Core.Bool.{Bool, true, false, cond, not, ◌||◌, ◌&&◌, false≢true}
use mathlib.Core.Logic.{◌⊎◌, inl, inr}
use mathlib.Core.List.{List, [], ◌++◌, reverse, append-nil}
use Prim.Native.Nat.{ℕ, ◌+◌, ◌-◌, ◌*◌, ◌/◌, ◌%◌, ◌^◌, ◌≤◌, ◌<◌, min, max}
use native.Mathlib.Nat.{mul_comm, div-div-eq-div-mul, zero-div}
use native.Mathlib.Omega.{arith}
use borrow.Author.Tests.{eqb-true, eq-eqb, ne_eqb, le-ltb, lt-leb}
use lib.Bits.{bit_and, bit_xor, and_step, xor_add_and, and_shr, xor_shr}
use lib.Dec.{eqb, leb}
use lib.ListN.{length, take, drop, replicate, length-append, length-drop, length-replicate, replicate-append-replicate}
use lib.Seq.{length-take-le, take_all, drop_at, sets, sets-eq}
use Rattle.std.specs.Prelude.{Result, Ok, Err, is_err}
use Rattle.answer.specs.declared.Refused.{Refused}
use Rattle.answer.specs.Given.{answer_of}
use Rattle.answer.proofs.Given.{refused-number}
use Rattle.answer.specs.Answer.{answer}
use Rattle.answer.proofs.Laws.{given, passed}
use Rattle.octets.specs.Bits.{digits_of, value_of, bits_of, octets_of, part, laid}
use Rattle.octets.proofs.Digits.{append_bits, take-bits, drop_bits, zeros-bits, zeros-value, digits-take, value-digits, turned_lt}
use Rattle.octets.proofs.Laws.{Octets, bits-length, bits-bits, bits-part, bits-octets, octets-length, laid_next}
use Rattle.octets.proofs.Fields.{part-part}
use Rattle.octets.proofs.Words.{digits-drop, drop-take, field-digits, octets-octets, octets-zeros}
use Rattle.octets.proofs.Whole.{drop_all, laid-octets}
use Rattle.layout.specs.Frame.{training_sync, final_sync}
use Rattle.recurrence.specs.Run.{run_of}
use Rattle.recurrence.specs.declared.Way.TheVariants.{Descramble as descramble}
use Rattle.recurrence.proofs.Laws.{run-bits}
use Rattle.scrambler.specs.Ends.{tap_of}
use Rattle.scrambler.specs.Promises.{frame_refusals, clocked, frame_out, FramePromise}
use Rattle.scrambler.specs.declared.Scrambler.{Scrambler}
use Rattle.receiver.specs.Stream.{state_at, heard_at, frame_at, synced, reads, lies_at}
use Rattle.receiver.specs.Promises.{joined, first_that}
use Rattle.receiver.specs.Search.{sync_in, sync_from}
use Rattle.receiver.proofs.Earliest.{First, first_is, NoneTo, none-further, found_at}
use Rattle.receiver.proofs.Window.{lies-here}

pub by-true : {A : Type 0} (t : Bool) (x y : A) → t ≡ true → cond t x y ≡ x
by-true t x y e = ap (λ (s : Bool). cond s x y) e

pub by-false : {A : Type 0} (t : Bool) (x y : A) → t ≡ false → cond t x y ≡ y
by-false t x y e = ap (λ (s : Bool). cond s x y) e

-- ---- sync words

pub sync-is : (x : ℕ) → x % 16384 ≡ 13727 → true ≡ sync_in x
unfolding value_of training_sync final_sync
sync-is x e = sym (ap (λ (t : Bool). t || eqb (x % 2 ^ 14) 15979) (eq-eqb _ _ e))

-- one of the two
which : (v : ℕ) → sync_in v ≡ true → (v % 2 ^ 14 ≡ 13727) ⊎ (v % 2 ^ 14 ≡ 15979)
unfolding value_of training_sync final_sync
which v e = pick (eqb (v % 2 ^ 14) 13727) refl
  where
    pick : (t : Bool) → eqb (v % 2 ^ 14) 13727 ≡ t → (v % 2 ^ 14 ≡ 13727) ⊎ (v % 2 ^ 14 ≡ 15979)
    pick true f = inl (eqb-true _ _ f)
    pick false f = inr (eqb-true _ _ (sym (ap (λ (s : Bool). s || eqb (v % 2 ^ 14) 15979) f) ∙ e))

pub sync-other : (x : ℕ) → (x % 16384 ≡ 13727 → ⊥) → eqb (x % 16384) 15979 ≡ sync_in x
unfolding value_of training_sync final_sync
sync-other x e = sym (ap (λ (t : Bool). t || eqb (x % 2 ^ 14) 15979) (ne_eqb _ _ e))

-- ---- all digits at once

-- the digits of a conjunction and of an exclusive or
and_one : (a b : ℕ) → a % 2 ≡ 1 → b % 2 ≡ 1 → bit_and a b % 2 ≡ 1
and_one a b h k = ap (λ (n : ℕ). n % 2) (and_step a b) ∙ omega (arith, h, k)

xor-one : (a b : ℕ) → a % 2 + b % 2 ≡ 1 → bit_xor a b % 2 ≡ 1
xor-one a b h = omega (arith, h, xor_add_and a b)

first-one-of : (a b : ℕ) → a ≡ 1 → b ≡ 0 → a + b ≡ 1
first-one-of a b h k = ap₂ ◌+◌ h k

second-one-of : (a b : ℕ) → a ≡ 0 → b ≡ 1 → a + b ≡ 1
second-one-of a b h k = ap₂ ◌+◌ h k

module _ (x j : ℕ) where
  -- x, shifted by k
  swap : (k : ℕ) → x / 2 ^ k / 2 ^ j ≡ x / 2 ^ j / 2 ^ k
  swap k =
      div-div-eq-div-mul x (2 ^ k) (2 ^ j) ∙ ap (λ (n : ℕ). x / n) (mul_comm (2 ^ k) (2 ^ j)) ∙ sym (div-div-eq-div-mul x (2 ^ j) (2 ^ k))

  abbrev Digit : ℕ → Type 0
  Digit r = r / 2 ^ j % 2 ≡ 1

  both-ones : (a b : ℕ) → Digit a → Digit b → Digit (bit_and a b)
  both-ones a b h k = ap (λ (n : ℕ). n % 2) (and_shr a b j) ∙ and_one (a / 2 ^ j) (b / 2 ^ j) h k

  one : (k : ℕ) → x / 2 ^ j / 2 ^ k % 2 ≡ 1 → Digit (x / 2 ^ k)
  one k h = ap (λ (n : ℕ). n % 2) (swap k) ∙ h

  turn : (k l : ℕ) → x / 2 ^ j / 2 ^ k % 2 + x / 2 ^ j / 2 ^ l % 2 ≡ 1 → Digit (bit_xor (x / 2 ^ k) (x / 2 ^ l))
  turn k l h =
      ap (λ (n : ℕ). n % 2) (xor_shr (x / 2 ^ k) (x / 2 ^ l) j)
      ∙ xor-one (x / 2 ^ k / 2 ^ j) (x / 2 ^ l / 2 ^ j) (ap₂ (λ (a b : ℕ). a % 2 + b % 2) (swap k) (swap l) ∙ h)

-- what `may_begin` computes
abbrev pub may_begin : ℕ → ℕ
may_begin x =
    let ones = bit_and (bit_and (bit_and (bit_and (bit_and x (x / 2 ^ 1)) (x / 2 ^ 3)) (x / 2 ^ 10)) (x / 2 ^ 12)) (x / 2 ^ 13) in
    let early = bit_and (bit_xor (x / 2 ^ 2) (x / 2 ^ 5)) (bit_xor (x / 2 ^ 4) (x / 2 ^ 6)) in
    let late = bit_and (bit_xor (x / 2 ^ 7) (x / 2 ^ 9)) (bit_xor (x / 2 ^ 8) (x / 2 ^ 11)) in
    bit_and (bit_and ones early) late

-- it has a one where a sync word begins
pub may-begin : (x j : ℕ) → sync_from x j ≡ true → may_begin x / 2 ^ j % 2 ≡ 1
may-begin x j e = pick (which (x / 2 ^ j) e)
  where
    v : ℕ
    v = x / 2 ^ j

    from : (v % 2 ≡ 1) × (v / 2 ^ 1 % 2 ≡ 1) × (v / 2 ^ 3 % 2 ≡ 1) × (v / 2 ^ 10 % 2 ≡ 1) × (v / 2 ^ 12 % 2 ≡ 1) × (v / 2 ^ 13 % 2 ≡ 1)
        → (v / 2 ^ 2 % 2 + v / 2 ^ 5 % 2 ≡ 1) × (v / 2 ^ 4 % 2 + v / 2 ^ 6 % 2 ≡ 1) × (v / 2 ^ 7 % 2 + v / 2 ^ 9 % 2 ≡ 1) × (v / 2 ^ 8 % 2 + v / 2 ^ 11 % 2 ≡ 1)
        → may_begin x / 2 ^ j % 2 ≡ 1
    from o t =
        let a = both-ones x j x (x / 2 ^ 1) o.0 (one x j 1 o.1) in
        let b = both-ones x j _ (x / 2 ^ 3) a (one x j 3 o.2) in
        let c = both-ones x j _ (x / 2 ^ 10) b (one x j 10 o.3) in
        let d = both-ones x j _ (x / 2 ^ 12) c (one x j 12 o.4) in
        let ones = both-ones x j _ (x / 2 ^ 13) d (one x j 13 o.5) in
        let early = both-ones x j _ _ (turn x j 2 5 t.0) (turn x j 4 6 t.1) in
        let late = both-ones x j _ _ (turn x j 7 9 t.2) (turn x j 8 11 t.3) in
        both-ones x j _ _ (both-ones x j _ _ ones early) late

    pick : (v % 2 ^ 14 ≡ 13727) ⊎ (v % 2 ^ 14 ≡ 15979) → may_begin x / 2 ^ j % 2 ≡ 1
    pick (inl w) =
        from (omega arith, omega arith, omega arith, omega arith, omega arith, omega arith) (
          first-one-of (v / 2 ^ 2 % 2) (v / 2 ^ 5 % 2) (omega arith) (omega arith),
          first-one-of (v / 2 ^ 4 % 2) (v / 2 ^ 6 % 2) (omega arith) (omega arith),
          first-one-of (v / 2 ^ 7 % 2) (v / 2 ^ 9 % 2) (omega arith) (omega arith),
          first-one-of (v / 2 ^ 8 % 2) (v / 2 ^ 11 % 2) (omega arith) (omega arith),
        )
    pick (inr w) =
        from (omega arith, omega arith, omega arith, omega arith, omega arith, omega arith) (
          second-one-of (v / 2 ^ 2 % 2) (v / 2 ^ 5 % 2) (omega arith) (omega arith),
          second-one-of (v / 2 ^ 4 % 2) (v / 2 ^ 6 % 2) (omega arith) (omega arith),
          second-one-of (v / 2 ^ 7 % 2) (v / 2 ^ 9 % 2) (omega arith) (omega arith),
          second-one-of (v / 2 ^ 8 % 2) (v / 2 ^ 11 % 2) (omega arith) (omega arith),
        )

-- where none may, none begins
pub none-begins : (x r : ℕ) → ((j : ℕ) → sync_from x j ≡ true → r / 2 ^ j % 2 ≡ 1) → r ≡ 0 → (j : ℕ) → sync_from x j ≡ false
none-begins x r h e j = pick (sync_from x j) refl
  where
    pick : (t : Bool) → sync_from x j ≡ t → t ≡ false
    pick true f = absurd (no_digit (h j f))
      where
        no_digit : r / 2 ^ j % 2 ≡ 1 → ⊥
        no_digit d = let z : 0 / 2 ^ j ≡ 0 = zero-div (2 ^ j) in absurd (omega (arith, d, ap (λ (n : ℕ). n / 2 ^ j) e, z))
    pick false f = refl

-- of 56 bits from a place on, those from the j-th on
pub sync-there : (s : List ℕ) (at j v : ℕ) → at + 56 ≤ 8 * length s → j + 14 ≤ 56 → v ≡ value_of (part (at + 0) 56 (bits_of s))
    → sync_from v j ≡ synced (bits_of s) (at + j)
sync-there s at j v h l e =
    ap (λ (n : ℕ). eqb n (value_of training_sync) || eqb n (value_of final_sync)) (sym (value-digits 14 (v / 2 ^ j)) ∙ ap value_of digits)
  where
    B : List ℕ
    B = bits_of s

    whole : digits_of 56 v ≡ part at 56 B
    whole =
        let z : at + 0 ≡ at = omega arith in
        ap (digits_of 56) (e ∙ ap (λ (i : ℕ). value_of (part i 56 B)) z) ∙ field-digits s at 56 h

    digits : digits_of 14 (v / 2 ^ j) ≡ part (at + j) 14 B
    digits =
        sym (digits-drop j 14 (j + 14) v refl)
        ∙ ap (drop j) (sym (digits-take (j + 14) 56 v l) ∙ ap (take (j + 14)) whole)
        ∙ drop-take j 14 (take 56 (drop at B))
        ∙ front
      where
        front : take 14 (drop j (take 56 (drop at B))) ≡ take 14 (drop (at + j) B)
        front = part-part B j 14 at 56 (at + j) l refl

-- the search of one word: of n places from `at` on
module _ (s : List ℕ) (p stop at n v j : ℕ) (long : stop + 56 ≤ 8 * length s) (h : p ≤ at) (l : at < stop) (size : n ≡ min (stop - at) 43)
    (word : v ≡ value_of (part (at + 0) 56 (bits_of s))) (first : j ≡ first_that (sync_from v) 0 n) (before : NoneTo (synced (bits_of s)) p at) where
  found : First (sync_from v) 0 n j
  found = subst (First (sync_from v) 0 n) (sym first) (first_is (sync_from v) 0 n)

  here : (i : ℕ) → i < n → sync_from v i ≡ synced (bits_of s) (at + i)
  here i k = sync-there s at i v (omega arith) (omega arith) word

  none_in : (k : ℕ) → k ≤ j → NoneTo (synced (bits_of s)) at (at + k)
  none_in k m q a b =
      let e : at + (q - at) ≡ q = omega arith in
      ap (synced (bits_of s)) (sym e) ∙ sym (here (q - at) (omega (arith, found.to))) ∙ found.before (q - at) (omega arith) (omega arith)

  pub sync-found : j < n → at + j ≡ first_that (synced (bits_of s)) p (stop - p)
  sync-found k =
      found_at (synced (bits_of s)) p (stop - p) (at + j) (omega arith) (omega arith)
      (none-further (synced (bits_of s)) p at (at + j) before (none_in j (omega arith)))
      (sym (here j k) ∙ found.holds (omega arith))

  pub sync-none : n ≤ j → NoneTo (synced (bits_of s)) p (at + n)
  sync-none k = none-further (synced (bits_of s)) p at (at + n) before (none_in n k)

-- ---- a frame at a place

-- bits laid over octets that are all zero, from their first on
pub zeros-over : (n m k : ℕ) (P : List ℕ) → length P ≡ m → m + k ≡ 8 * n → laid (replicate n 0) 0 P ≡ octets_of n (P ++ replicate k 0)
unfolding laid
zeros-over n m k P e f =
    let z : bits_of (replicate n 0) ≡ replicate (8 * n) 0 =
    ap bits_of (sym (octets-zeros n)) ∙ bits-octets n (replicate (8 * n) 0) (length-replicate (8 * n) 0) (zeros-bits (8 * n)) in
    let l : length {A = ℕ} (replicate (8 * n) 0) ≡ 8 * n = length-replicate (8 * n) 0 in
    let z' : 0 + length P ≡ m = omega (arith, e) in
    let d : drop {A = ℕ} (0 + length P) (replicate (8 * n) 0) ≡ replicate k 0 =
    ap₂ (drop {A = ℕ}) z' (ap (λ (i : ℕ). replicate i 0) (sym f) ∙ sym (replicate-append-replicate m k 0)) ∙ drop_at (replicate m 0) (replicate k 0) m (length-replicate m 0) in
    ap₂ octets_of (length-replicate n 0) (ap (λ (t : List ℕ). sets t 0 P) z ∙ sets-eq P (replicate (8 * n) 0) 0 (omega (arith, l)) ∙ ap (λ (t : List ℕ). P ++ t) d)

module _ (end : ℕ) (s : List ℕ) (at : ℕ) (known : end ≤ 1) (h : 23 ≤ at) (l : at + 4227 ≤ 8 * length s) where
  abbrev B : List ℕ
  B = bits_of s

  abbrev P : List ℕ
  P = part at 4227 B

  abbrev Z : List ℕ
  Z = replicate 5 0

  P-length : length P ≡ 4227
  P-length = length-take-le 4227 (drop at B) (omega (arith, length-drop at B, bits-length s))

  -- the frame as it was heard
  heard-is : laid (replicate 529 0) 0 P ≡ heard_at B at
  heard-is = zeros-over 529 4227 5 P P-length refl

  heard-bits : bits_of (heard_at B at) ≡ P ++ Z
  heard-bits =
      bits-octets 529 (P ++ Z) (length-append P Z ∙ omega (arith, P-length)) (append_bits P Z (take-bits 4227 (drop at B) (drop_bits at B (bits-bits s))) (zeros-bits 5))

  state-is : (before state : ℕ) → before ≡ value_of (part (at - 23) 23 B) → state ≡ value_of (reverse (digits_of 23 before)) → state ≡ state_at B at
  state-is before state e f =
      f ∙ ap (λ (t : List ℕ). value_of (reverse t)) (ap (digits_of 23) e ∙ field-digits s (at - 23) 23 (omega arith))

  pub descrambled-is : (heard plain exit : List ℕ) (before state : ℕ) (r : Result Scrambler Refused) → length plain ≡ 529 → heard ≡ laid (replicate 529 0) 0 P
      → before ≡ value_of (part (at - 23) 23 B) → state ≡ value_of (reverse (digits_of 23 before))
      → FramePromise descramble (record { end = end; state = state }) heard plain r exit → exit ≡ frame_at end B at
  unfolding frame_at
  descrambled-is heard plain exit before state r n e f g p =
      let hd = e ∙ heard-is in
      let R = frame_refusals (record { end = end; state = state }) heard plain in
      let lh : length heard ≡ 529 = ap length hd ∙ octets-length 529 (P ++ Z) in
      let st : state < 2 ^ 23 = subst (λ (k : ℕ). k < 2 ^ 23) (sym g) (turned_lt 23 before) in
      let pad : value_of (part 4227 5 (bits_of heard)) ≡ 0 =
      ap (λ (t : List ℕ). value_of (part 4227 5 t)) (ap bits_of hd ∙ heard-bits) ∙ ap (λ (t : List ℕ). value_of (take 5 t)) (drop_at P Z 4227 P-length) ∙ zeros-value 5 in
      let zero : answer R ≡ 0 =
      passed 1 (drop 1 R) (ap not (eq-eqb _ _ lh)) ∙ passed 1 (drop 2 R) (ap not (eq-eqb _ _ n)) ∙ passed 2 (drop 3 R) (le-ltb 1 end known)
      ∙ passed 4 (drop 4 R) (lt-leb (2 ^ 23) state st) ∙ passed 6 [] (ap not (eq-eqb _ _ pad)) in
      p.left ∙ given (answer_of r) plain (frame_out descramble (record { end = end; state = state }) heard) (p.answered ∙ zero)
      ∙ ap₂ (λ (k : ℕ) (t : List ℕ). frame_out descramble (record { end = end; state = k }) t) (state-is before state f g) hd

-- checking refuses where it gives an error, and only there
pub is-refused : {A : Type 0} (r : Result A Refused) → is_err r ≡ true → answer_of r ≡ 0 → ⊥
is-refused (Ok v) e z = absurd (false≢true e)
is-refused (Err x) e z = let p = refused-number x in omega (arith, p, z)

pub is-right : {A : Type 0} (r : Result A Refused) → is_err r ≡ false → answer_of r ≡ 0
is-right (Ok v) e = refl
is-right (Err x) e = absurd (false≢true (sym e))

-- a frame is 529 octets
pub frame-size : (end : ℕ) (B : List ℕ) (at : ℕ) → length (frame_at end B at) ≡ 529
unfolding frame_at
frame-size end B at = octets-length 529 _

pub frame-octets : (end : ℕ) (s : List ℕ) (at : ℕ) → Octets (frame_at end (bits_of s) at)
unfolding frame_at
frame-octets end s at =
    let x : Scrambler = record { end = end; state = state_at (bits_of s) at } in
    let H = heard_at (bits_of s) at in
    let S = part 0 14 (bits_of H) in
    let R = run_of descramble (tap_of end) x.state (clocked H) in
    octets-octets 529 (S ++ (R ++ replicate 5 0))
    (append_bits S (R ++ replicate 5 0) (bits-part H 0 14) (append_bits R (replicate 5 0) (run-bits descramble (tap_of end) x.state (clocked H)) (zeros-bits 5)))

-- octets copied whole
pub whole-copied : (s source : List ℕ) (n : ℕ) → Octets s → Octets source → length s ≡ n → length source ≡ n
    → laid s 0 (part 0 (8 * n) (bits_of source)) ≡ source
whole-copied s source n o p e f =
    ap (laid s 0) (take_all (8 * n) (bits_of source) (omega (arith, bits-length source)))
    ∙ laid-octets s source 0 o p (omega arith) ∙ append-nothing (drop (0 + length source) s) (drop_all (0 + length source) s (omega arith))
  where
    append-nothing : (t : List ℕ) → t ≡ [] → source ++ t ≡ source
    append-nothing t z = ap (λ (u : List ℕ). source ++ u) z ∙ append-nil source

-- ---- the search for a frame

module _ (end : ℕ) (B : List ℕ) where
  pub lies-unsynced : (p : ℕ) → synced B p ≡ false → lies_at end B p ≡ false
  unfolding lies_at
  lies-unsynced p e = ap (λ (t : Bool). leb 23 p && (leb (p + 4227) (length B) && (t && reads end B p))) e ∙ never (leb 23 p) (leb (p + 4227) (length B))
    where
      never : (s t : Bool) → s && (t && false) ≡ false
      never true true = refl
      never true false = refl
      never false t = refl

  pub none-synced : (p q : ℕ) → NoneTo (synced B) p q → NoneTo (lies_at end B) p q
  none-synced p q h i k l = lies-unsynced i (h i k l)

  pub lies-by : (p : ℕ) (r : Bool) → 23 ≤ p → p + 4227 ≤ length B → synced B p ≡ true → r ≡ reads end B p → lies_at end B p ≡ r
  lies-by p r h l e f = lies-here end B p h l ∙ ap (λ (t : Bool). t && reads end B p) e ∙ sym f

-- the next place where a sync word stands
pub next-at : (B : List ℕ) (p stop r : ℕ) → p ≤ stop → r ≡ first_that (synced B) p (stop - p)
    → (p ≤ r) × (r ≤ stop) × (r < stop → synced B r ≡ true) × NoneTo (synced B) p r
next-at B p stop r h e =
    let f : First (synced B) p (stop - p) r = subst (First (synced B) p (stop - p)) (sym e) (first_is (synced B) p (stop - p)) in
    (f.from, omega (arith, f.to), λ l. f.holds (omega arith), f.before)

-- ---- where to begin

pub begins-ahead : (m heard stop : ℕ) → m + 4256 < heard + 30 → 30 ≤ stop → 30 ≡ min (max 30 (m + 4256 - heard)) stop
begins-ahead m heard stop h l = omega arith

pub begins-later : (m heard : ℕ) → heard + 30 ≤ m + 4256 → m + 4256 - heard ≡ max 30 (m + 4256 - heard)
begins-later m heard h = omega arith

-- ---- the bits kept and those of the lump

pub joined-bits : (line lump room₁ room₂ : List ℕ) (bits : ℕ) → length line ≡ 532 → bits ≤ 8 * length lump → bits ≤ 4096
    → room₁ ≡ laid (replicate 1044 0) 0 (part 0 4256 (bits_of line)) → room₂ ≡ laid room₁ 4256 (part 0 bits (bits_of lump))
    → bits_of room₂ ≡ joined line lump bits ++ replicate (4096 - bits) 0
joined-bits line lump room₁ room₂ bits l h k e f =
    let A = bits_of line in
    let X = part 0 bits (bits_of lump) in
    let lA : length A ≡ 4256 = bits-length line ∙ ap (λ (n : ℕ). 8 * n) l in
    let lX : length X ≡ bits = length-take-le bits (bits_of lump) (omega (arith, bits-length lump)) in
    let lJ : length (A ++ X) ≡ 4256 + bits = length-append A X ∙ ap₂ ◌+◌ lA lX in
    let one : room₁ ≡ laid (replicate 1044 0) 0 A = e ∙ ap (laid (replicate 1044 0) 0) (take_all 4256 A (omega (arith, lA))) in
    let both : room₂ ≡ laid (replicate 1044 0) 0 (A ++ X) = laid_next (replicate 1044 0) 0 A X 4256 (bits-bits line) (omega (arith, lA)) one f in
    let J = (A ++ X) ++ replicate (4096 - bits) 0 in
    ap bits_of (both ∙ zeros-over 1044 (4256 + bits) (4096 - bits) (A ++ X) lJ (omega arith))
    ∙ bits-octets 1044 J (length-append (A ++ X) (replicate (4096 - bits) 0) ∙ omega (arith, lJ, length-replicate {A = ℕ} (4096 - bits) 0))
    (append_bits (A ++ X) (replicate (4096 - bits) 0) (append_bits A X (bits-bits line) (bits-part lump 0 bits)) (zeros-bits (4096 - bits)))
