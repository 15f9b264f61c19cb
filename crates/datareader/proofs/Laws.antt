-- Laws of reading a data-mode frame. Assumes nothing.
use mathlib.Core.Path.{◌≡◌, sym, ap, ap₂, ◌∙◌, subst}
use mathlib.Core.List.{List, ◌++◌}
use Prim.Native.Nat.{ℕ, ◌+◌, ◌*◌, ◌^◌, ◌≤◌}
use native.Mathlib.Nat.{add_comm, mul_comm}
use native.Mathlib.Omega.{arith}
use lib.ListN.{length, drop, length-append, length-drop}
use lib.Seq.{length-take-le}
use Rattle.octets.specs.Bits.{value_of, bits_of, octets_of, part, laid}
use Rattle.octets.proofs.Digits.{Bits, value-append, no_value}
use Rattle.octets.proofs.Laws.{bits-length, bits-part, laid_next, laid_end}
use Rattle.remainder.specs.Division.{polynomial}
use Rattle.dataframe.specs.declared.Overhead.{Overhead}
use Rattle.dataframe.specs.Table.{indicators, eoc, spare, crc}
use Rattle.dataframe.specs.Frame.{carried, stuffed_in, overhead_in, payload_in}
use Rattle.dataframe.proofs.Rows.{indicators-are, eoc-is, spare-is, no-spare, payload-is}
use Rattle.dataframe.specs.declared.Form.{Form}
use Rattle.dataframe.specs.declared.Form.TheVariants.{Synchronous, Plesiochronous}
use Rattle.dataframe.specs.declared.Room.{Room}
use Rattle.dataframe.specs.Forms.{form_number}
use Rattle.dataframe.specs.Rooms.{form_in, carried_by, payload_at}
use Rattle.dataframe.proofs.Rooms.{form-known, room-holds}

-- ---- numbers of pieces: the first w bits, and the value of the rest above them

above : (p r : List ℕ) (w a v : ℕ) → length p ≡ w → a ≡ value_of p → v ≡ value_of r → a + 2 ^ w * v ≡ value_of (p ++ r)
above p r w a v l e f =
    ap₂ (λ (x y : ℕ). x + 2 ^ w * y) e f ∙ add_comm (value_of p) (2 ^ w * value_of r) ∙ ap (λ (x : ℕ). x + value_of p) (mul_comm (2 ^ w) (value_of r))
    ∙ ap (λ (n : ℕ). value_of r * 2 ^ n + value_of p) (sym l) ∙ sym (value-append p r)

module _ (s : List ℕ) (m : ℕ) (h : 4 * m + 46 ≤ 8 * length s) where
  abbrev B : List ℕ
  B = bits_of s

  wide : (at w : ℕ) → at + w ≤ 4 * m + 46 → length (part at w B) ≡ w
  wide at w k = length-take-le w (drop at B) (omega (arith, length-drop at B, bits-length s, h, k))

  pub indicators-value : (a b c : ℕ) → a ≡ value_of (part 14 2 B) → b ≡ value_of (part (m + 22) 1 B) → c ≡ value_of (part (2 * m + 32) 1 B)
      → a + 4 * (b + 2 * c) ≡ value_of (part 14 2 B ++ (part (m + 22) 1 B ++ part (2 * m + 32) 1 B))
  indicators-value a b c e f g =
      above (part 14 2 B) (part (m + 22) 1 B ++ part (2 * m + 32) 1 B) 2 a (b + 2 * c) (wide 14 2 (omega arith)) e
      (above (part (m + 22) 1 B) (part (2 * m + 32) 1 B) 1 b c (wide (m + 22) 1 (omega arith)) f g)

  pub spare-value : (a b c : ℕ) → a ≡ value_of (part (m + 23) 1 B) → b ≡ value_of (part (2 * m + 35) 1 B) → c ≡ value_of (part (4 * m + 46) 2 B)
      → a + 2 * (b + 2 * c) ≡ value_of (part (m + 23) 1 B ++ (part (2 * m + 35) 1 B ++ part (4 * m + 46) 2 B))
  spare-value a b c e f g =
      above (part (m + 23) 1 B) (part (2 * m + 35) 1 B ++ part (4 * m + 46) 2 B) 1 a (b + 2 * c) (wide (m + 23) 1 (omega arith)) e
      (above (part (2 * m + 35) 1 B) (part (4 * m + 46) 2 B) 1 b c (wide (2 * m + 35) 1 (omega arith)) f g)

  pub eoc-value : (a b c d e f : ℕ) → a ≡ value_of (part (m + 16) 4 B) → b ≡ value_of (part (m + 24) 2 B) → c ≡ value_of (part (2 * m + 26) 4 B)
      → d ≡ value_of (part (2 * m + 33) 2 B) → e ≡ value_of (part (3 * m + 36) 4 B) → f ≡ value_of (part (3 * m + 42) 4 B)
      → a + 16 * (b + 4 * (c + 16 * (d + 4 * (e + 16 * f))))
      ≡ value_of (part (m + 16) 4 B ++ (part (m + 24) 2 B ++ (part (2 * m + 26) 4 B ++ (part (2 * m + 33) 2 B ++ (part (3 * m + 36) 4 B ++ part (3 * m + 42) 4 B)))))
  eoc-value a b c d e f ea eb ec ed ee ef =
      let A = part (m + 16) 4 B in
      let C = part (2 * m + 26) 4 B in
      let D = part (2 * m + 33) 2 B in
      let E = part (3 * m + 36) 4 B in
      let F = part (3 * m + 42) 4 B in
      let b₁ = part (m + 24) 2 B in
      above A (b₁ ++ (C ++ (D ++ (E ++ F)))) 4 a (b + 4 * (c + 16 * (d + 4 * (e + 16 * f)))) (wide (m + 16) 4 (omega arith)) ea
      (above b₁ (C ++ (D ++ (E ++ F))) 2 b (c + 16 * (d + 4 * (e + 16 * f))) (wide (m + 24) 2 (omega arith)) eb
      (above C (D ++ (E ++ F)) 4 c (d + 4 * (e + 16 * f)) (wide (2 * m + 26) 4 (omega arith)) ec
      (above D (E ++ F) 2 d (e + 16 * f) (wide (2 * m + 33) 2 (omega arith)) ed
      (above E F 4 e f (wide (3 * m + 36) 4 (omega arith)) ee ef))))

-- ---- payload, block behind block

module _ (p s : List ℕ) (n : ℕ) (l : 8 * length p ≡ 4 * n) (h : 4 * n + 46 ≤ 8 * length s) where
  abbrev C : List ℕ
  C = bits_of s

  block-bits : (at : ℕ) → Bits (part at n C)
  block-bits at = bits-part s at n

  block-length : (at : ℕ) → at + n ≤ 4 * n + 46 → length (part at n C) ≡ n
  block-length at k = length-take-le n (drop at C) (omega (arith, length-drop at C, bits-length s, h, k))

  pub payload-laid : (p₁ p₂ p₃ p₄ : List ℕ) → p₁ ≡ laid p 0 (part 16 n C) → p₂ ≡ laid p₁ n (part (n + 26) n C) → p₃ ≡ laid p₂ (2 * n) (part (2 * n + 36) n C)
      → p₄ ≡ laid p₃ (3 * n) (part (3 * n + 46) n C)
      → p₄ ≡ octets_of (length p) (part 16 n C ++ (part (n + 26) n C ++ (part (2 * n + 36) n C ++ part (3 * n + 46) n C)))
  payload-laid p₁ p₂ p₃ p₄ e₁ e₂ e₃ e₄ =
      let b₁ = part 16 n C in
      let b₂ = part (n + 26) n C in
      let b₃ = part (2 * n + 36) n C in
      let b₄ = part (3 * n + 46) n C in
      let l₁ = block-length 16 (omega arith) in
      let l₂ = block-length (n + 26) (omega arith) in
      let l₃ = block-length (2 * n + 36) (omega arith) in
      let l₄ = block-length (3 * n + 46) (omega arith) in
      let f₃ = laid_next p₂ (2 * n) b₃ b₄ (3 * n) (block-bits (2 * n + 36)) (omega (arith, l₃)) e₃ e₄ in
      let f₂ = laid_next p₁ n b₂ (b₃ ++ b₄) (2 * n) (block-bits (n + 26)) (omega (arith, l₂)) e₂ f₃ in
      let f₁ = laid_next p 0 b₁ (b₂ ++ (b₃ ++ b₄)) n (block-bits 16) (omega (arith, l₁)) e₁ f₂ in
      let all : 0 + length (b₁ ++ (b₂ ++ (b₃ ++ b₄))) ≡ 8 * length p =
      omega (arith, length-append b₁ (b₂ ++ (b₃ ++ b₄)), length-append b₂ (b₃ ++ b₄), length-append b₃ b₄, l₁, l₂, l₃, l₄, l) in
      f₁ ∙ laid_end p 0 (b₁ ++ (b₂ ++ (b₃ ++ b₄))) all

-- ---- by the streams of the table

module _ (form k : ℕ) (bits : List ℕ) (h : form ≤ 1) where
  twice : 2 * (12 * k) ≡ 24 * k
  twice = omega arith

  thrice : 3 * (12 * k) ≡ 36 * k
  thrice = omega arith

  pub indicators-in : (r : ℕ) → r ≡ value_of (part 14 2 bits ++ (part (12 * k + 22) 1 bits ++ part (2 * (12 * k) + 32) 1 bits))
      → r ≡ value_of (carried indicators form k bits)
  indicators-in r e =
      e ∙ ap (λ (x : ℕ). value_of (part 14 2 bits ++ (part (12 * k + 22) 1 bits ++ part (x + 32) 1 bits))) twice
      ∙ ap value_of (sym (indicators-are k bits form h))

  pub eoc-in : (r : ℕ)
      → r ≡ value_of (part (12 * k + 16) 4 bits ++ (part (12 * k + 24) 2 bits ++ (part (2 * (12 * k) + 26) 4 bits
      ++ (part (2 * (12 * k) + 33) 2 bits ++ (part (3 * (12 * k) + 36) 4 bits ++ part (3 * (12 * k) + 42) 4 bits)))))
      → r ≡ value_of (carried eoc form k bits)
  eoc-in r e =
      e ∙ ap₂ (λ (x y : ℕ). value_of (part (12 * k + 16) 4 bits ++ (part (12 * k + 24) 2 bits ++ (part (x + 26) 4 bits ++ (part (x + 33) 2 bits ++ (part (y + 36) 4 bits
      ++ part (y + 42) 4 bits)))))) twice thrice
      ∙ ap value_of (sym (eoc-is k bits form h))

  pub payload-in : (r : List ℕ) (n : ℕ) → n ≡ 6 * k
      → r ≡ octets_of n (part 16 (12 * k) bits ++ (part (12 * k + 26) (12 * k) bits ++ (part (2 * (12 * k) + 36) (12 * k) bits
      ++ part (3 * (12 * k) + 46) (12 * k) bits)))
      → r ≡ payload_in form k bits
  payload-in r n l e =
      e ∙ ap₂ (λ (x y : ℕ). octets_of n (part 16 (12 * k) bits ++ (part (12 * k + 26) (12 * k) bits ++ (part (x + 36) (12 * k) bits
      ++ part (y + 46) (12 * k) bits)))) twice thrice
      ∙ ap₂ octets_of l (sym (payload-is k bits form h))

-- ---- in a room whose blocks have m bits

module _ (r : Room) (m : ℕ) (l : m ≡ 12 * r.size) where
  abbrev K : ℕ
  K = r.size

  abbrev S : List ℕ
  S = r.octets.now

  holds : 4 * m + 46 ≤ 8 * length S
  holds = omega (arith, l, room-holds r)

  pub indicators-read : (a b c : ℕ) → a ≡ value_of (part 14 2 (bits_of S)) → b ≡ value_of (part (m + 22) 1 (bits_of S)) → c ≡ value_of (part (2 * m + 32) 1 (bits_of S))
      → a + 4 * (b + 2 * c) ≡ (carried_by r).indicators
  indicators-read a b c e f g =
      let v = a + 4 * (b + 2 * c) in
      indicators-in (form_in r) K (bits_of S) (form-known r.form) v
      (subst (λ (x : ℕ). v ≡ value_of (part 14 2 (bits_of S) ++ (part (x + 22) 1 (bits_of S) ++ part (2 * x + 32) 1 (bits_of S)))) l
      (indicators-value S m holds a b c e f g))

  pub eoc-read : (a b c d e f : ℕ) → a ≡ value_of (part (m + 16) 4 (bits_of S)) → b ≡ value_of (part (m + 24) 2 (bits_of S))
      → c ≡ value_of (part (2 * m + 26) 4 (bits_of S)) → d ≡ value_of (part (2 * m + 33) 2 (bits_of S)) → e ≡ value_of (part (3 * m + 36) 4 (bits_of S))
      → f ≡ value_of (part (3 * m + 42) 4 (bits_of S)) → a + 16 * (b + 4 * (c + 16 * (d + 4 * (e + 16 * f)))) ≡ (carried_by r).eoc
  eoc-read a b c d e f ea eb ec ed ee ef =
      let v = a + 16 * (b + 4 * (c + 16 * (d + 4 * (e + 16 * f)))) in
      eoc-in (form_in r) K (bits_of S) (form-known r.form) v
      (subst (λ (x : ℕ). v ≡ value_of (part (x + 16) 4 (bits_of S) ++ (part (x + 24) 2 (bits_of S) ++ (part (2 * x + 26) 4 (bits_of S)
      ++ (part (2 * x + 33) 2 (bits_of S) ++ (part (3 * x + 36) 4 (bits_of S) ++ part (3 * x + 42) 4 (bits_of S))))))) l
      (eoc-value S m holds a b c d e f ea eb ec ed ee ef))

  pub spare-read : r.form ≡ Synchronous → (a b c : ℕ) → a ≡ value_of (part (m + 23) 1 (bits_of S)) → b ≡ value_of (part (2 * m + 35) 1 (bits_of S))
      → c ≡ value_of (part (4 * m + 46) 2 (bits_of S)) → a + 2 * (b + 2 * c) ≡ (carried_by r).spare
  spare-read p a b c e f g =
      let x : m + 23 ≡ 12 * K + 23 = omega (arith, l) in
      let y : 2 * m + 35 ≡ 24 * K + 35 = omega (arith, l) in
      let z : 4 * m + 46 ≡ 48 * K + 46 = omega (arith, l) in
      spare-value S m holds a b c e f g
      ∙ ap₂ (λ (i j : ℕ). value_of (part i 1 (bits_of S) ++ (part j 1 (bits_of S) ++ part (4 * m + 46) 2 (bits_of S)))) x y
      ∙ ap (λ (i : ℕ). value_of (part (12 * K + 23) 1 (bits_of S) ++ (part (24 * K + 35) 1 (bits_of S) ++ part i 2 (bits_of S)))) z
      ∙ ap value_of (sym (spare-is K (bits_of S)))
      ∙ ap (λ (x : Form). value_of (carried spare (form_number x) K (bits_of S))) (sym p)

  pub payload-read : (p p₁ p₂ p₃ p₄ : List ℕ) → length p ≡ 6 * K → p₁ ≡ laid p 0 (part 16 m (bits_of S)) → p₂ ≡ laid p₁ m (part (m + 26) m (bits_of S))
      → p₃ ≡ laid p₂ (2 * m) (part (2 * m + 36) m (bits_of S)) → p₄ ≡ laid p₃ (3 * m) (part (3 * m + 46) m (bits_of S)) → p₄ ≡ payload_at r
  payload-read p p₁ p₂ p₃ p₄ h e₁ e₂ e₃ e₄ =
      payload-in (form_in r) K (bits_of S) (form-known r.form) p₄ (length p) h
      (subst (λ (x : ℕ). p₄ ≡ octets_of (length p) (part 16 x (bits_of S) ++ (part (x + 26) x (bits_of S) ++ (part (2 * x + 36) x (bits_of S)
      ++ part (3 * x + 46) x (bits_of S))))) l
      (payload-laid p S m (omega (arith, h, l)) holds p₁ p₂ p₃ p₄ e₁ e₂ e₃ e₄))

pub no-spare-read : (r : Room) → r.form ≡ Plesiochronous → 0 ≡ (carried_by r).spare
no-spare-read r p =
    sym no_value ∙ ap value_of (sym (no-spare r.size (bits_of r.octets.now)))
    ∙ ap (λ (x : Form). value_of (carried spare (form_number x) r.size (bits_of r.octets.now))) (sym p)

pub overhead-is : (form k : ℕ) (bits : List ℕ) (i e s t c : ℕ) → i ≡ value_of (carried indicators form k bits) → e ≡ value_of (carried eoc form k bits)
    → s ≡ value_of (carried spare form k bits) → t ≡ stuffed_in form k bits → c ≡ polynomial (carried crc form k bits)
    → ◌≡◌ {A = Overhead} (record { indicators = i; eoc = e; spare = s; stuffing = t; crc = c }) (overhead_in form k bits)
overhead-is form k bits i e s t c ei ee es et ec =
    ap₂ (λ (x y : ℕ). record { indicators = x; eoc = y; spare = s; stuffing = t; crc = c }) ei ee
    ∙ ap₂ (λ (x y : ℕ). record { indicators = value_of (carried indicators form k bits); eoc = value_of (carried eoc form k bits); spare = x; stuffing = y; crc = c }) es et
    ∙ ap (λ (x : ℕ). record {
      indicators = value_of (carried indicators form k bits);
      eoc = value_of (carried eoc form k bits);
      spare = value_of (carried spare form k bits);
      stuffing = stuffed_in form k bits;
      crc = x;
    }) ec
