-- Laws of octets put one behind the other. Assumes nothing.
use mathlib.Core.Path.{◌≡◌, refl, sym, ap, ap₂, ◌∙◌}
use mathlib.Core.List.{List, [], ◌∷◌, ◌++◌, append_assoc, append-nil}
use Prim.Native.Nat.{ℕ, suc, ◌+◌, ◌-◌, ◌*◌, ◌≤◌, ◌<◌}
use native.Mathlib.Omega.{arith}
use lib.Dec.{lit≤}
use lib.ListN.{length, get_or, take, drop, set, replicate, length-set, length-take, length-drop, length-append}
use lib.Seq.{take-suc-set, lt-length-set, take_at}
use borrow.Rule.Slice.PartMut.{put_mid}
use Rattle.octets.proofs.Whole.{drop_all}
use Rattle.eoc.proofs.Escapes.{encoded-most, escaped-next}
use Rattle.eoc.specs.Message.{flag, encoded, escaped, framed, padded, form_most}

-- one octet put at a place
pub one-put : (l : List ℕ) (i j a : ℕ) → i + 1 ≡ j → i < length l → take j (set l i a) ≡ take i l ++ (a ∷ [])
one-put l i j a e h =
    let f : j ≡ suc i = omega arith in
    ap (λ (n : ℕ). take n (set l i a)) f ∙ take-suc-set l i a h

-- and two
pub two-put : (l : List ℕ) (i j a b : ℕ) → i + 2 ≡ j → i + 1 < length l → take j (set (set l i a) (i + 1) b) ≡ take i l ++ (a ∷ b ∷ [])
two-put l i j a b e h =
    one-put (set l i a) (i + 1) j b (omega arith) (lt-length-set l i a h)
    ∙ ap (λ (x : List ℕ). x ++ (b ∷ [])) (one-put l i (i + 1) a refl (omega arith))
    ∙ append_assoc (take i l) (a ∷ []) (b ∷ [])

-- ---- the octets between the flags

-- so far
abbrev pub SoFar : List ℕ → List ℕ → List ℕ → ℕ → ℕ → Type 0
SoFar room₀ fields room at k =
    (at ≡ 1 + length (escaped (take k fields))) × (at ≤ 2 * k + 1) × (take at room ≡ take 1 room₀ ++ escaped (take k fields)) × (length room ≡ length room₀)

pub none_yet : (room fields : List ℕ) → SoFar room fields room 1 0
unfolding escaped
none_yet room fields = (refl, lit≤ tt, sym (append-nil (take 1 room)), refl)

pub one_more : (room₀ fields room room' : List ℕ) (at k r : ℕ) → k < length fields → SoFar room₀ fields room at k → r ≡ at + length (encoded (get_or fields k 0))
    → take r room' ≡ take at room ++ encoded (get_or fields k 0) → length room' ≡ length room → SoFar room₀ fields room' r (k + 1)
one_more room₀ fields room room' at k r h s e f l =
    let o = get_or fields k 0 in
    let next : suc k ≡ k + 1 = omega arith in
    let n = sym (ap (λ (i : ℕ). escaped (take i fields)) next) ∙ escaped-next fields k h in
    let w : length (escaped (take (k + 1) fields)) ≡ length (escaped (take k fields)) + length (encoded o) = ap length n ∙ length-append (escaped (take k fields)) (encoded o) in (
      omega (arith, e, s.0, w),
      omega (arith, e, s.1, encoded-most o),
      f ∙ ap (λ (x : List ℕ). x ++ encoded o) s.2 ∙ append_assoc (take 1 room₀) (escaped (take k fields)) (encoded o)
          ∙ ap (λ (x : List ℕ). take 1 room₀ ++ x) (sym n),
      l ∙ s.3,
    )

-- ---- the whole form

-- flags put round octets X that stand from place 1 to before `end`, and zeros behind
pub form-put : (room₀ room zeros X : List ℕ) (end : ℕ) → length room₀ ≡ form_most → length room ≡ length room₀ → end ≡ 1 + length X → end < form_most
    → take end room ≡ take 1 (set room₀ 0 flag) ++ X
    → let R = set room end flag in
    zeros ≡ replicate (length (take (length R - (end + 1)) (drop (end + 1) R))) 0 → put_mid (end + 1) (length R - (end + 1)) R zeros ≡ padded form_most (framed X)
form-put room₀ room zeros X end h l e b f g =
    let R = set room end flag in
    let lR : length R ≡ form_most = length-set room end flag ∙ l ∙ h in
    let first : take 1 (set room₀ 0 flag) ≡ flag ∷ [] = one-put room₀ 0 1 flag refl (omega (arith, h)) in
    let front : take (end + 1) R ≡ framed X =
    one-put room end (end + 1) flag refl (omega (arith, l, h)) ∙ ap (λ (x : List ℕ). x ++ (flag ∷ [])) (f ∙ ap (λ (x : List ℕ). x ++ X) first) in
    let none : drop (length R - (end + 1)) (drop (end + 1) R) ≡ [] = drop_all (length R - (end + 1)) (drop (end + 1) R) (omega (arith, length-drop (end + 1) R)) in
    let w : length (take (length R - (end + 1)) (drop (end + 1) R)) ≡ form_most - length (framed X) =
    omega (arith, length-take (length R - (end + 1)) (drop (end + 1) R), length-drop (end + 1) R, lR, length-append X (flag ∷ []), e) in
    ap₂ (λ (x y : List ℕ). x ++ (zeros ++ y)) front none ∙ ap (λ (x : List ℕ). framed X ++ x) (append-nil zeros ∙ g ∙ ap (λ (k : ℕ). replicate k 0) w)

-- addresses, message number and contents at the front of the fields
pub body-put : (address number : ℕ) (contents put : List ℕ) → put ≡ contents
    → let F = set (set (replicate 77 0) 0 address) 1 number in take (2 + length contents) (put_mid 2 (2 + length contents - 2) F put) ≡ address ∷ number ∷ contents
body-put address number contents put e =
    let n = length contents in
    let F = set (set (replicate 77 0) 0 address) 1 number in
    let l : length (address ∷ number ∷ contents) ≡ 2 + n = omega arith in
    ap (λ (x : List ℕ). take (2 + n) (put_mid 2 (2 + n - 2) F x)) e
    ∙ take_at (address ∷ number ∷ contents) (drop (2 + n - 2) (drop 2 F)) (2 + n) l
