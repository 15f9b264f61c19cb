-- Whole octets copied and cleared, said of octets and not of their bits. Assumes nothing.
use mathlib.Core.Path.{◌≡◌, refl, sym, ap, ap₂, ◌∙◌, subst}
use mathlib.Core.List.{List, [], ◌∷◌, ◌++◌, append_assoc}
use Prim.Native.Nat.{ℕ, zero, suc, ◌+◌, ◌*◌, ◌/◌, ◌%◌, ◌≤◌, ◌<◌}
use native.Mathlib.Omega.{arith}
use lib.Dec.{lit≤}
use lib.ListN.{length, get_or, set, take, drop, replicate, length-take, length-drop, length-replicate}
use lib.Seq.{sets, sets-eq, get_or-drop, paste}
use Rattle.octets.specs.Bits.{bits_of, part, laid}
use Rattle.octets.proofs.Digits.{zeros-bits}
use Rattle.octets.proofs.Laws.{Octets, bits-bits, bits-length, octets-bits, sets_below}
use Rattle.octets.proofs.Words.{octets-part, octets-laid, octets-zeros}

-- ---- parts of octets are octets

pub append-octets : (xs ys : List ℕ) → Octets xs → Octets ys → Octets (xs ++ ys)
append-octets [] ys h l i = l i
append-octets (x ∷ xs) ys h l zero = h zero
append-octets (x ∷ xs) ys h l (suc i) = append-octets xs ys (λ j. h (suc j)) l i

pub take-octets : (n : ℕ) (l : List ℕ) → Octets l → Octets (take n l)
take-octets zero l h i = lit≤ tt
take-octets (suc n) [] h i = lit≤ tt
take-octets (suc n) (x ∷ l) h zero = h zero
take-octets (suc n) (x ∷ l) h (suc i) = take-octets n l (λ j. h (suc j)) i

pub drop-octets : (n : ℕ) (l : List ℕ) → Octets l → Octets (drop n l)
drop-octets n l h i = subst (λ (x : ℕ). x < 256) (sym (get_or-drop n l i 0)) (h (n + i))

pub set-octets : (l : List ℕ) (i a : ℕ) → Octets l → a < 256 → Octets (set l i a)
set-octets l i a o h = sets_below 256 l i (a ∷ []) o one
  where
    one : (j : ℕ) → get_or (a ∷ []) j 0 < 256
    one zero = h
    one (suc j) = lit≤ tt

-- ---- copying and clearing

-- nothing stands behind the end
pub drop_all : (k : ℕ) (s : List ℕ) → length s ≤ k → drop k s ≡ []
drop_all zero [] h = refl
drop_all zero (x ∷ s) h = absurd (omega arith)
drop_all (suc k) [] h = refl
drop_all (suc k) (x ∷ s) h = drop_all k s (omega arith)

-- octets laid from an octet on: what stands before them, they, and what stands behind them
pub laid-octets : (s x : List ℕ) (at : ℕ) → Octets s → Octets x → at + length x ≤ length s
    → laid s (8 * at) (bits_of x) ≡ take at s ++ (x ++ drop (at + length x) s)
laid-octets s x at o p h =
    sym (octets-laid s (bits_of x) at (length x) o (bits-bits x) (bits-length x)) ∙ ap (sets s at) (octets-bits x p) ∙ sets-eq x s at h
    ∙ append_assoc (take at s) x (drop (at + length x) s)

-- n octets of a source
pub copied : (s source : List ℕ) (at from n : ℕ) → Octets s → Octets source → from + n ≤ length source → at + n ≤ length s
    → laid s (8 * at) (part (8 * from) (8 * n) (bits_of source)) ≡ take at s ++ (part from n source ++ drop (at + n) s)
copied s source at from n o p h l =
    let x = part from n source in
    let e : length x ≡ n = omega (arith, length-take n (drop from source), length-drop from source) in
    ap (laid s (8 * at)) (sym (octets-part source from n h)) ∙ laid-octets s x at o (take-octets n (drop from source) (drop-octets from source p)) (omega (arith, e))
    ∙ ap (λ (k : ℕ). take at s ++ (x ++ drop (at + k) s)) e

-- n bits that are whole octets, pasted
pub copied_all : (s source exit : List ℕ) (at from n : ℕ) → Octets s → Octets source
    → (at % 8 ≡ 0) × (from % 8 ≡ 0) × (n % 8 ≡ 0) × (at / 8 + n / 8 ≤ length s) × (from / 8 + n / 8 ≤ length source)
    → exit ≡ paste s (at / 8) (drop (from / 8) source) (n / 8) → exit ≡ laid s at (part from n (bits_of source))
copied_all s source exit at from n o p h e =
    let a : 8 * (at / 8) ≡ at = omega (arith, h.0) in
    let f : 8 * (from / 8) ≡ from = omega (arith, h.1) in
    let m : 8 * (n / 8) ≡ n = omega (arith, h.2) in
    e ∙ append_assoc (take (at / 8) s) (part (from / 8) (n / 8) source) (drop (at / 8 + n / 8) s)
    ∙ sym (copied s source (at / 8) (from / 8) (n / 8) o p h.4 h.3)
    ∙ ap₂ (λ (i : ℕ) (b : List ℕ). laid s i b) a (ap₂ (λ (j c : ℕ). part j c (bits_of source)) f m)

-- n octets made zero
pub cleared : (s : List ℕ) (at n : ℕ) → Octets s → at + n ≤ length s
    → laid s (8 * at) (replicate (8 * n) 0) ≡ take at s ++ (replicate n 0 ++ drop (at + n) s)
cleared s at n o h =
    sym (octets-laid s (replicate (8 * n) 0) at n o (zeros-bits (8 * n)) (length-replicate (8 * n) 0)) ∙ ap (sets s at) (octets-zeros n)
    ∙ sets-eq (replicate n 0) s at (omega (arith, length-replicate {A = ℕ} n 0))
    ∙ append_assoc (take at s) (replicate n 0) (drop (at + length (replicate n 0)) s)
    ∙ ap (λ (k : ℕ). take at s ++ (replicate n 0 ++ drop (at + k) s)) (length-replicate n 0)
