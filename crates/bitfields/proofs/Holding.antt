-- A window over octets: what stands in memory and what is held are together the bits so far. Assumes nothing.
use mathlib.Core.Path.{◌≡◌, refl, sym, ap, ap₂, subst, ◌∙◌}
use mathlib.Core.Logic.{inl, inr}
use mathlib.Core.List.{List, ◌++◌}
use Prim.Native.Nat.{ℕ, zero, suc, ◌+◌, ◌-◌, ◌*◌, ◌/◌, ◌%◌, ◌^◌, ◌≤◌, ◌<◌}
use native.Mathlib.Nat.{mod-lt, mod-eq_of_lt}
use native.Mathlib.Decide.{dec_lt}
use native.Mathlib.Omega.{arith}
use lib.Arith.{digits_lt}
use lib.Bits.{bit_or, or_mod, or_shifted}
use lib.IntN.{ℤ, pos}
use lib.ListN.{length, get_or, take, drop, replicate, length-append, length-take, length-replicate, take-append-drop, get_or-append, get_or-eq_default}
use lib.Pow.{pow-add, pow_pos, pow_mono, high, shr-shr, shr_lt}
use lib.Seq.{take-append-le, drop-append-le, take-add, drop-drop, length-take-le, take_all, get_or-take, get_or-append-add}
use Rattle.octets.specs.Bits.{digits_of, laid}
use Rattle.octets.proofs.Digits.{Bits, take-bits, digits-length, digits-take, digits-mod-pow}
use Rattle.octets.proofs.Laws.{Octets, laid_none, laid_next}
use Rattle.octets.proofs.Words.{digits-drop, digits-join}
use Rattle.bitfields.specs.declared.Window.{Window}
use Rattle.bitfields.specs.Promises.{first_of}
use Rattle.bitfields.specs.Fields.{above, Pushed}

-- ---- as the code makes it

module _ (c h w v : ℕ) (hc : c < 64) (hh : h < 2 ^ c) (hw : w ≤ 32) where
  abbrev field : ℕ
  field = v % 2 ^ w

  abbrev whole : ℕ
  whole = field * 2 ^ c + h

  whole-lt : whole < 2 ^ (c + w)
  whole-lt =
      let e : w + c ≡ c + w = omega arith in
      subst (λ (k : ℕ). whole < 2 ^ k) e (subst (λ (x : ℕ). whole < x) (sym (pow-add 2 w c)) (digits_lt (mod-lt v (pow_pos w)) hh))

  pub low-is : bit_or (field * 2 ^ c % 2 ^ 64) h ≡ whole % 2 ^ 64
  low-is =
      let l : c ≤ 64 = omega arith in
      let lt : h < 2 ^ 64 = omega (arith, pow_mono l) in
      ap (bit_or (field * 2 ^ c % 2 ^ 64)) (sym (mod-eq_of_lt lt)) ∙ sym (or_mod (field * 2 ^ c) h 64) ∙ ap (λ (x : ℕ). x % 2 ^ 64) (or_shifted field c h hh)

  pub stays : c + w < 64 → bit_or (field * 2 ^ c % 2 ^ 64) h ≡ whole
  stays l = let m : c + w ≤ 64 = omega arith in low-is ∙ mod-eq_of_lt (omega (arith, whole-lt, pow_mono m))

  pub high_is : 64 ≤ c + w → field / 2 ^ (64 - c) ≡ whole / 2 ^ 64
  high_is l =
      let e : c + (64 - c) ≡ 64 = omega arith in
      ap (λ (x : ℕ). x / 2 ^ (64 - c)) (sym (high field c hh)) ∙ shr-shr whole c (64 - c) ∙ ap (λ (k : ℕ). whole / 2 ^ k) e

-- ---- what is in memory and what is held

-- the bits so far, from place p on: those before the window's octet are laid, the others held
pub record Holds (s₀ : List ℕ) (p : ℕ) (bits s : List ℕ) (a : Window) : Type 0 where
  pub few : a.count < 64
  pub small : a.held < 2 ^ a.count
  pub behind : p ≤ 8 * a.octet
  pub size : p + length bits ≡ 8 * a.octet + a.count
  pub laid-part : s ≡ laid s₀ p (take (8 * a.octet - p) bits)
  pub held-part : digits_of a.count a.held ≡ drop (8 * a.octet - p) bits

-- one field more
pub holds_more : (s₀ : List ℕ) (p : ℕ) (bits s : List ℕ) (a : Window) (w v : ℕ) (t : List ℕ) (r : Window) → Bits bits → w ≤ 32 → Holds s₀ p bits s a
    → Pushed s a w v t r → Holds s₀ p (bits ++ digits_of w v) t r
holds_more s₀ p bits s a w v t r ok hw h q =
    let n = 8 * a.octet - p in
    let ds = digits_of w v in
    let H = above a w v in
    let le : n ≤ length bits = omega (arith, h.size, h.behind) in
    let join : digits_of (a.count + w) H ≡ digits_of a.count a.held ++ ds =
    digits-join a.count w (a.count + w) (v % 2 ^ w) a.held refl h.small ∙ ap (λ (l : List ℕ). digits_of a.count a.held ++ l) (digits-mod-pow w v) in
    let rest : drop n (bits ++ ds) ≡ digits_of (a.count + w) H =
    drop-append-le n bits ds le ∙ ap (λ (l : List ℕ). l ++ ds) (sym h.held-part) ∙ sym join in
    let front : take n (bits ++ ds) ≡ take n bits = take-append-le n bits ds le in
    let lt : H < 2 ^ (a.count + w) = whole-lt a.count a.held w v h.few h.small hw in
    let len : length (bits ++ ds) ≡ length bits + w = length-append bits ds ∙ ap (λ (k : ℕ). length bits + k) (digits-length w v) in
    pick rest front lt len q
  where
    pick : drop (8 * a.octet - p) (bits ++ digits_of w v) ≡ digits_of (a.count + w) (above a w v)
        → take (8 * a.octet - p) (bits ++ digits_of w v) ≡ take (8 * a.octet - p) bits → above a w v < 2 ^ (a.count + w)
        → length (bits ++ digits_of w v) ≡ length bits + w → Pushed s a w v t r → Holds s₀ p (bits ++ digits_of w v) t r
    pick rest front lt len (inl z) =
        subst (Holds s₀ p (bits ++ digits_of w v) t) (sym z.2)
        (record {
          few = z.0;
          small = lt;
          behind = h.behind;
          size = ap (λ (k : ℕ). p + k) len ∙ omega (arith, h.size);
          laid-part = z.1 ∙ h.laid-part ∙ ap (laid s₀ p) (sym front);
          held-part = sym rest;
        })
    pick rest front lt len (inr z) =
        let n = 8 * a.octet - p in
        let all = bits ++ digits_of w v in
        let H = above a w v in
        let c = a.count + w in
        let m : 8 * (a.octet + 8) - p ≡ n + 64 = omega (arith, h.behind) in
        let e : c ≡ 64 + (c - 64) = omega (arith, z.0) in
        let d : c ≡ c - 64 + 64 = omega (arith, z.0) in
        let first : take 64 (drop n all) ≡ digits_of 64 H = ap (take 64) rest ∙ digits-take 64 c H z.0 in
        let size-n : length (take n bits) ≡ n = length-take-le n bits (omega (arith, h.size, h.behind)) in
        subst (Holds s₀ p all t) (sym z.2)
        (record {
          few = omega (arith, h.few);
          small = shr_lt (c - 64) 64 (subst (λ (k : ℕ). H < 2 ^ k) d lt);
          behind = omega (arith, h.behind);
          size = ap (λ (k : ℕ). p + k) len ∙ omega (arith, h.size, z.0);
          laid-part =
              laid_next s₀ p (take n bits) (digits_of 64 H) (8 * a.octet) (take-bits n bits ok) (ap (λ (k : ℕ). p + k) size-n ∙ omega (arith, h.behind)) h.laid-part z.1
              ∙ ap (laid s₀ p) (sym (ap (λ (k : ℕ). take k all) m ∙ take-add n 64 all ∙ ap₂ (λ (x y : List ℕ). x ++ y) front first));
          held-part = sym (ap (λ (k : ℕ). drop k all) m ∙ sym (drop-drop 64 n all) ∙ ap (drop 64) rest ∙ digits-drop 64 (c - 64) c H e);
        })

-- at the end: what is held, laid behind the rest
pub holds-all : (s₀ : List ℕ) (p : ℕ) (bits s : List ℕ) (a : Window) (t : List ℕ) → Bits bits → Holds s₀ p bits s a
    → t ≡ laid s (8 * a.octet) (digits_of a.count a.held) → t ≡ laid s₀ p bits
holds-all s₀ p bits s a t ok h e =
    let n = 8 * a.octet - p in
    let size-n : length (take n bits) ≡ n = length-take-le n bits (omega (arith, h.size, h.behind)) in
    laid_next s₀ p (take n bits) (digits_of a.count a.held) (8 * a.octet) (take-bits n bits ok) (ap (λ (k : ℕ). p + k) size-n ∙ omega (arith, h.behind)) h.laid-part e
    ∙ ap (laid s₀ p) (ap (λ (l : List ℕ). take n bits ++ l) h.held-part ∙ take-append-drop n bits)

-- at the beginning
pub holds-none : (s₀ : List ℕ) (bits : List ℕ) (a : Window) → a.count < 64 → a.held < 2 ^ a.count → bits ≡ digits_of a.count a.held → Octets s₀
    → Holds s₀ (8 * a.octet) bits s₀ a
holds-none s₀ bits a c h e o =
    let p = 8 * a.octet in
    let n : 0 ≡ p - p = omega arith in
    record {
      few = c;
      small = h;
      behind = omega arith;
      size = ap (λ (l : List ℕ). p + length l) e ∙ ap (λ (k : ℕ). p + k) (digits-length a.count a.held);
      laid-part = laid_none s₀ p o ∙ ap (λ (k : ℕ). laid s₀ p (take k bits)) n;
      held-part = sym e ∙ ap (λ (k : ℕ). drop k bits) n;
    }

-- ---- the first n numbers

first-length : (n : ℕ) (zs : List ℤ) → length (first_of n zs) ≡ n
first-length n zs =
    length-append (take n zs) (replicate (n - length zs) (pos 0))
    ∙ omega (arith, length-take n zs, length-replicate (n - length zs) (pos 0))

pub first-size : (n k : ℕ) (zs : List ℤ) → k < n → k < length (first_of n zs)
first-size n k zs h = omega (arith, first-length n zs)

pub first-all : (n : ℕ) (zs : List ℤ) → take n (first_of n zs) ≡ first_of n zs
first-all n zs = take_all n (first_of n zs) (omega (arith, first-length n zs))

pub first-at : (n k : ℕ) (zs : List ℤ) → k < n → get_or (first_of n zs) k (pos 0) ≡ get_or zs k (pos 0)
first-at n k zs h = pick (dec_lt k (length zs))
  where
    pick : Dec (k < length zs) → get_or (first_of n zs) k (pos 0) ≡ get_or zs k (pos 0)
    pick (yes l) = get_or-append (take n zs) (replicate (n - length zs) (pos 0)) (pos 0) k (omega (arith, length-take n zs)) ∙ get_or-take n zs k (pos 0) h
    pick (no l) =
        let e : k ≡ length (take n zs) + (k - length zs) = omega (arith, length-take n zs) in
        ap (λ (i : ℕ). get_or (first_of n zs) i (pos 0)) e ∙ get_or-append-add (take n zs) (replicate (n - length zs) (pos 0)) (k - length zs) (pos 0)
        ∙ zero-at (n - length zs) (k - length zs) ∙ sym (get_or-eq_default zs (pos 0) (omega arith))
      where
        zero-at : (m i : ℕ) → get_or (replicate m (pos 0)) i (pos 0) ≡ pos 0
        zero-at zero i = refl
        zero-at (suc m) zero = refl
        zero-at (suc m) (suc i) = zero-at m i
