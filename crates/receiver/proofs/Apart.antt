-- Two sync words stand at least 7 bits apart, so that a call tries at most 586 places. Assumes nothing.
use mathlib.Core.Path.{◌≡◌, refl, sym, ap, ap₂, subst, ◌∙◌}
use mathlib.Core.Bool.{Bool, true, false, cond, not, ◌||◌, ◌&&◌, false≢true}
use mathlib.Core.List.{List}
use Prim.Native.Nat.{ℕ, zero, suc, ◌+◌, ◌-◌, ◌*◌, ◌≤◌, ◌<◌}
use native.Mathlib.Decide.{dec_le}
use native.Mathlib.Omega.{arith}
use borrow.Author.Tests.{eqb-true, eq-eqb, not-true}
use lib.Dec.{eqb}
use lib.ListN.{length, take, drop, length-drop}
use lib.Seq.{length-take-le, take_all, take-take}
use Rattle.answer.proofs.Order.{both}
use Rattle.octets.specs.Bits.{digits_of, value_of, part}
use Rattle.octets.proofs.Digits.{Bits, take-bits, drop_bits, digits-bits, value-one}
use Rattle.octets.proofs.Fields.{part-part}
use Rattle.layout.specs.Frame.{training_sync, final_sync, sync_word}
use Rattle.receiver.specs.Stream.{synced}
use Rattle.receiver.specs.Apart.{syncs}

-- ---- overlaps of the two words

-- whether w begins d bits behind the beginning of v, as far as they overlap
abbrev meets : ℕ → List ℕ → List ℕ → Bool
meets d v w = eqb (value_of (drop d v)) (value_of (take (14 - d) w))

-- none of the four pairs does
abbrev none_meet : ℕ → Bool
none_meet d =
    not (meets d training_sync training_sync)
    && (not (meets d training_sync final_sync) && (not (meets d final_sync training_sync) && not (meets d final_sync final_sync)))

overlaps : (d : ℕ) → 1 ≤ d → d ≤ 6 → none_meet d ≡ true
unfolding value_of training_sync final_sync
overlaps zero h l = absurd (omega arith)
overlaps (suc zero) h l = refl
overlaps (suc (suc zero)) h l = refl
overlaps (suc (suc (suc zero))) h l = refl
overlaps (suc (suc (suc (suc zero)))) h l = refl
overlaps (suc (suc (suc (suc (suc zero))))) h l = refl
overlaps (suc (suc (suc (suc (suc (suc zero)))))) h l = refl
overlaps (suc (suc (suc (suc (suc (suc (suc d))))))) h l = absurd (omega arith)

none-meets : (d : ℕ) (v w : Bool) → 1 ≤ d → d ≤ 6 → meets d (sync_word v) (sync_word w) ≡ false
none-meets d v w h l = pick v w
  where
    apart_in : Bool → Bool → Bool
    apart_in v w = not (meets d (sync_word v) (sync_word w))

    a : (apart_in true true ≡ true) × (apart_in true false && (apart_in false true && apart_in false false) ≡ true)
    a = both (apart_in true true) (apart_in true false && (apart_in false true && apart_in false false)) (overlaps d h l)

    b : (apart_in true false ≡ true) × (apart_in false true && apart_in false false ≡ true)
    b = both (apart_in true false) (apart_in false true && apart_in false false) a.1

    c : (apart_in false true ≡ true) × (apart_in false false ≡ true)
    c = both (apart_in false true) (apart_in false false) b.1

    pick : (v w : Bool) → meets d (sync_word v) (sync_word w) ≡ false
    pick true true = not-true _ a.0
    pick true false = not-true _ b.0
    pick false true = not-true _ c.0
    pick false false = not-true _ c.1

-- the words are bits, 14 each
word-bits : (v : Bool) → Bits (sync_word v)
unfolding digits_of training_sync final_sync
word-bits true = digits-bits 14 13727
word-bits false = digits-bits 14 15979

word-length : (v : Bool) → length (sync_word v) ≡ 14
unfolding training_sync final_sync
word-length true = refl
word-length false = refl

-- ---- places where one stands

module _ (bits : List ℕ) (ok : Bits bits) where
  -- which of the two
  record Word (p : ℕ) : Type 0 where
    training : Bool
    is : part p 14 bits ≡ sync_word training

  word_at : (p : ℕ) → p + 14 ≤ length bits → synced bits p ≡ true → Word p
  word_at p h e = pick (eqb (value_of P) (value_of training_sync)) refl
    where
      P : List ℕ
      P = part p 14 bits

      same : (v : Bool) → value_of P ≡ value_of (sync_word v) → P ≡ sync_word v
      same v = value-one P (sync_word v) (take-bits 14 (drop p bits) (drop_bits p bits ok)) (word-bits v)
          (length-take-le 14 (drop p bits) (omega (arith, length-drop p bits)) ∙ sym (word-length v))

      pick : (t : Bool) → eqb (value_of P) (value_of training_sync) ≡ t → Word p
      pick true f = record { training = true; is = same true (eqb-true _ _ f) }
      pick false f =
          record { training = false; is = same false (eqb-true _ _ (sym (ap (λ (s : Bool). s || eqb (value_of P) (value_of final_sync)) f) ∙ e)) }

  -- AT LEAST 7 BITS APART
  pub apart : (p q : ℕ) → q + 14 ≤ length bits → p < q → synced bits p ≡ true → synced bits q ≡ true → p + 7 ≤ q
  apart p q h l e f = pick (dec_le (p + 7) q)
    where
      d : ℕ
      d = q - p

      v : Word p
      v = word_at p (omega arith) e

      w : Word q
      w = word_at q h f

      meet : d ≤ 6 → drop d (sync_word v.training) ≡ take (14 - d) (sync_word w.training)
      meet m =
          sym (take_all (14 - d) (drop d (sync_word v.training)) (omega (arith, length-drop d (sync_word v.training), word-length v.training)))
          ∙ ap (part d (14 - d)) (sym v.is)
          ∙ part-part bits d (14 - d) p 14 q (omega arith) (omega arith)
          ∙ sym (take-take (14 - d) 14 (drop q bits) (omega arith))
          ∙ ap (take (14 - d)) w.is

      pick : Dec (p + 7 ≤ q) → p + 7 ≤ q
      pick (yes m) = m
      pick (no m) =
          absurd (false≢true (sym (none-meets d v.training w.training (omega arith) (omega arith)) ∙ eq-eqb _ _ (ap value_of (meet (omega arith)))))

  -- ---- how many stand among n places

  none-among : (b n : ℕ) → ((q : ℕ) → b ≤ q → q < b + n → synced bits q ≡ false) → (m r : ℕ) → n + r ≡ m → syncs bits b m ≡ syncs bits (b + n) r
  unfolding syncs
  none-among b zero h m r e =
      let a : b ≡ b + 0 = omega arith in
      let c : m ≡ r = omega arith in
      ap₂ (syncs bits) a c
  none-among b (suc n) h zero r e = absurd (omega arith)
  none-among b (suc n) h (suc m) r e =
      let a : suc b + n ≡ b + suc n = omega arith in
      let z : 0 + syncs bits (suc b) m ≡ syncs bits (suc b) m = omega arith in
      ap (λ (t : Bool). cond t 1 0 + syncs bits (suc b) m) (h b (omega arith) (omega arith)) ∙ z
      ∙ none-among (suc b) n (λ q k l. h q (omega arith) (omega arith)) m r (omega arith) ∙ ap (λ (i : ℕ). syncs bits i r) a

  few : (fuel n b : ℕ) → n ≤ fuel → b + n + 13 ≤ length bits → 7 * syncs bits b n ≤ n + 6
  unfolding syncs
  few zero n b h l = let e : n ≡ 0 = omega arith in subst (λ (k : ℕ). 7 * syncs bits b k ≤ k + 6) (sym e) (omega arith)
  few (suc fuel) n b h l = on n h l (few fuel)
    where
      Few : Type 0
      Few = (m c : ℕ) → m ≤ fuel → c + m + 13 ≤ length bits → 7 * syncs bits c m ≤ m + 6

      on : (n : ℕ) → n ≤ suc fuel → b + n + 13 ≤ length bits → Few → 7 * syncs bits b n ≤ n + 6
      on zero h l ih = omega arith
      on (suc n) h l ih = pick (synced bits b) refl
        where
          pick : (t : Bool) → synced bits b ≡ t → 7 * (cond t 1 0 + syncs bits (suc b) n) ≤ suc n + 6
          pick false e = omega (arith, ih n (suc b) (omega arith) (omega arith))
          pick true e = by (dec_le n 6)
            where
              alone : (q : ℕ) → suc b ≤ q → q < suc b + 6 → q < suc b + n → synced bits q ≡ false
              alone q k m i = at (synced bits q) refl
                where
                  at : (s : Bool) → synced bits q ≡ s → s ≡ false
                  at true f = absurd (omega (arith, apart b q (omega arith) (omega arith) e f))
                  at false f = refl

              by : Dec (n ≤ 6) → 7 * (1 + syncs bits (suc b) n) ≤ suc n + 6
              by (yes m) =
                  let z : syncs bits (suc b) n ≡ 0 = none-among (suc b) n (λ q k i. alone q k (omega arith) i) n 0 (omega arith) in
                  omega (arith, z)
              by (no m) =
                  let z : syncs bits (suc b) n ≡ syncs bits (suc b + 6) (n - 6) =
                  none-among (suc b) 6 (λ q k i. alone q k i (omega arith)) n (n - 6) (omega arith) in
                  omega (arith, z, ih (n - 6) (suc b + 6) (omega arith) (omega arith))

  -- A CALL TRIES AT MOST 586 PLACES: of 4,096 places no more begin with a sync word
  pub few-places : (b n : ℕ) → n ≤ 4096 → b + n + 13 ≤ length bits → syncs bits b n ≤ 586
  few-places b n h l = omega (arith, few n n b (omega arith) l)
