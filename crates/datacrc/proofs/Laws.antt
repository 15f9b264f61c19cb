-- Laws of the six check bits. Assumes nothing.
use mathlib.Core.Path.{◌≡◌, refl, sym, ap, ap₂, ◌∙◌, subst}
use mathlib.Core.List.{List, [], ◌++◌, append_assoc, reverse}
use Prim.Native.Nat.{ℕ, ◌+◌, ◌*◌, ◌^◌, ◌≤◌}
use native.Mathlib.Omega.{arith}
use lib.Dec.{lit≤}
use lib.ListN.{length, drop, length-append, length-drop}
use lib.Seq.{length-take-le}
use Rattle.octets.specs.Bits.{digits_of, value_of, bits_of, part}
use Rattle.octets.proofs.Digits.{Bits, append_bits, digits_value, value-append}
use Rattle.octets.proofs.Laws.{bits-length, bits-part}
use Rattle.remainder.specs.Division.{Degree, polynomial, Remainder, RemainderFrom}
use Rattle.remainder.proofs.Division.{computed}
use Rattle.remainder.proofs.Start.{follows}
use Rattle.dataframe.specs.Table.{crc, end_width}
use Rattle.dataframe.specs.Frame.{six_generator, carried, covered, due_of, Due}
use Rattle.datacrc.specs.Promises.{SixesGiven}
use Rattle.dataframe.specs.declared.Room.{Room}
use Rattle.dataframe.specs.Rooms.{form_in, carried_by, DueIn}
use Rattle.dataframe.proofs.Rooms.{form-known, room-holds}
use Rattle.dataframe.proofs.Rows.{crc-is, covered-is}

-- ---- what is left of four runs of bits, each behind the one before

nothing : Remainder 6 six_generator [] 0
unfolding Rattle.remainder.specs.Division.times value_of
nothing = record { quotient = []; divided = refl; below = lit≤ tt }

module _ (p q r t : List ℕ) (bp : Bits p) (bq : Bits q) (br : Bits r) (bt : Bits t) where
  pub four : (a b c d : ℕ) → RemainderFrom 6 six_generator 0 p a → RemainderFrom 6 six_generator a q b → RemainderFrom 6 six_generator b r c
      → RemainderFrom 6 six_generator c t d → Remainder 6 six_generator (p ++ (q ++ (r ++ t))) d
  four a b c d f g h i =
      let one = follows 6 six_generator [] p 0 a bp nothing f in
      let two = follows 6 six_generator p q a b bq one g in
      let three = follows 6 six_generator (p ++ q) r b c br two h in
      subst (λ (l : List ℕ). Remainder 6 six_generator l d) (append_assoc (p ++ q) r t ∙ append_assoc p q (r ++ t))
      (follows 6 six_generator (p ++ q ++ r) t c d bt three i)

module _ (s : List ℕ) (n e a b c d : ℕ) where
  abbrev B : List ℕ
  B = bits_of s

  pub due-is : RemainderFrom 6 six_generator 0 (part 14 (n + 6) B) a → RemainderFrom 6 six_generator a (part (n + 22) (n + 8) B) b
      → RemainderFrom 6 six_generator b (part (2 * n + 32) (n + 8) B) c → RemainderFrom 6 six_generator c (part (3 * n + 42) (n + 4 + e) B) d
      → Remainder 6 six_generator (part 14 (n + 6) B ++ (part (n + 22) (n + 8) B ++ (part (2 * n + 32) (n + 8) B ++ part (3 * n + 42) (n + 4 + e) B))) d
  due-is =
      four (part 14 (n + 6) B) (part (n + 22) (n + 8) B) (part (2 * n + 32) (n + 8) B) (part (3 * n + 42) (n + 4 + e) B) (bits-part s 14 (n + 6))
      (bits-part s (n + 22) (n + 8)) (bits-part s (2 * n + 32) (n + 8)) (bits-part s (3 * n + 42) (n + 4 + e)) a b c d

-- ---- the six that stand in a frame

six-value : (p q r : List ℕ) → length p ≡ 2 → length q ≡ 2 → length r ≡ 2 → Bits p → Bits q → Bits r
    → value_of (reverse (digits_of 6 (value_of p + 4 * (value_of q + 4 * value_of r)))) ≡ polynomial (p ++ (q ++ r))
six-value p q r lp lq lr bp bq br =
    let b = append_bits p (q ++ r) bp (append_bits q r bq br) in
    let n : length (p ++ (q ++ r)) ≡ 6 = omega (arith, length-append p (q ++ r), length-append q r) in
    let v : value_of p + 4 * (value_of q + 4 * value_of r) ≡ value_of (p ++ (q ++ r)) =
    sym (value-append p (q ++ r) ∙ ap₂ (λ (x y : ℕ). x * 2 ^ y + value_of p) (value-append q r ∙ ap (λ (y : ℕ). value_of r * 2 ^ y + value_of q) lq) lp ∙ omega arith) in
    ap (λ (l : List ℕ). value_of (reverse l)) (ap₂ digits_of (sym n) v ∙ digits_value (p ++ (q ++ r)) b)

pub carried-is : (s : List ℕ) (m a b c r : ℕ) → 3 * m + 42 ≤ 8 * length s → a ≡ value_of (part (m + 20) 2 (bits_of s)) → b ≡ value_of (part (2 * m + 30) 2 (bits_of s))
    → c ≡ value_of (part (3 * m + 40) 2 (bits_of s)) → r ≡ value_of (reverse (digits_of 6 (a + 4 * (b + 4 * c))))
    → r ≡ polynomial (part (m + 20) 2 (bits_of s) ++ (part (2 * m + 30) 2 (bits_of s) ++ part (3 * m + 40) 2 (bits_of s)))
carried-is s m a b c r h ea eb ec e =
    let B = bits_of s in
    let n : length B ≡ 8 * length s = bits-length s in
    let long : (at : ℕ) → at + 2 ≤ 8 * length s → length (part at 2 B) ≡ 2 = λ at k. length-take-le 2 (drop at B) (omega (arith, length-drop at B, n, k)) in
    e ∙ ap (λ (x : ℕ). value_of (reverse (digits_of 6 x))) (ap₂ (λ (x y : ℕ). x + 4 * y) ea (ap₂ (λ (x y : ℕ). x + 4 * y) eb ec))
    ∙ six-value (part (m + 20) 2 B) (part (2 * m + 30) 2 B) (part (3 * m + 40) 2 B) (long (m + 20) (omega (arith, h))) (long (2 * m + 30) (omega (arith, h)))
    (long (3 * m + 40) (omega (arith, h))) (bits-part s (m + 20) 2) (bits-part s (2 * m + 30) 2) (bits-part s (3 * m + 40) 2)

-- ---- both, of a frame

module _ (form k : ℕ) (frame : List ℕ) (h : form ≤ 1) where
  abbrev F : List ℕ
  F = bits_of frame

  pub carried-given : (r : ℕ) → r ≡ polynomial (part (12 * k + 20) 2 F ++ (part (2 * (12 * k) + 30) 2 F ++ part (3 * (12 * k) + 40) 2 F))
      → r ≡ polynomial (carried crc form k F)
  carried-given r e =
      let p : 2 * (12 * k) + 30 ≡ 24 * k + 30 = omega arith in
      let q : 3 * (12 * k) + 40 ≡ 36 * k + 40 = omega arith in
      e ∙ ap₂ (λ (x y : ℕ). polynomial (part (12 * k + 20) 2 F ++ (part x 2 F ++ part y 2 F))) p q ∙ ap polynomial (sym (crc-is k F form h))

  pub due-given : (r e : ℕ) → e ≡ end_width form 0
      → Remainder 6 six_generator (part 14 (12 * k + 6) F ++ (part (12 * k + 22) (12 * k + 8) F
      ++ (part (2 * (12 * k) + 32) (12 * k + 8) F ++ part (3 * (12 * k) + 42) (12 * k + 4 + e) F))) r
      → Due form k F r
  due-given r e t d =
      let p : 2 * (12 * k) + 32 ≡ 24 * k + 32 = omega arith in
      let q : 3 * (12 * k) + 42 ≡ 36 * k + 42 = omega arith in
      let S : ℕ → ℕ → ℕ → List ℕ =
      λ x y w. part 14 (12 * k + 6) F ++ (part (12 * k + 22) (12 * k + 8) F ++ (part x (12 * k + 8) F ++ part y (12 * k + 4 + w) F)) in
      subst (λ (l : List ℕ). Remainder 6 six_generator l r)
      (ap (S (2 * (12 * k) + 32) (3 * (12 * k) + 42)) t ∙ ap₂ (λ (x y : ℕ). S x y (end_width form 0)) p q ∙ sym (covered-is form k F h)) d

  pub covered-bits : Bits (covered form k F)
  covered-bits =
      subst Bits (sym (covered-is form k F h))
      (append_bits (part 14 (12 * k + 6) F)
      (part (12 * k + 22) (12 * k + 8) F ++ (part (24 * k + 32) (12 * k + 8) F ++ part (36 * k + 42) (12 * k + 4 + end_width form 0) F))
      (bits-part frame 14 (12 * k + 6))
      (append_bits (part (12 * k + 22) (12 * k + 8) F) (part (24 * k + 32) (12 * k + 8) F ++ part (36 * k + 42) (12 * k + 4 + end_width form 0) F)
      (bits-part frame (12 * k + 22) (12 * k + 8))
      (append_bits (part (24 * k + 32) (12 * k + 8) F) (part (36 * k + 42) (12 * k + 4 + end_width form 0) F) (bits-part frame (24 * k + 32) (12 * k + 8))
      (bits-part frame (36 * k + 42) (12 * k + 4 + end_width form 0)))))

  pub due-computed : (r : ℕ) → Due form k F r → r ≡ due_of form k F
  due-computed r d = computed 6 six_generator (lit≤ tt) six-degree (covered form k F) r covered-bits d
    where
      six-degree : Degree six_generator 6
      six-degree = record { reached = lit≤ tt; within = lit≤ tt }

-- ---- both, in a room whose blocks have m or n bits

module _ (r : Room) where
  abbrev K : ℕ
  K = r.size

  abbrev S : List ℕ
  S = r.octets.now

  pub carried-in : (m a b c v : ℕ) → m ≡ 12 * K → a ≡ value_of (part (m + 20) 2 (bits_of S)) → b ≡ value_of (part (2 * m + 30) 2 (bits_of S))
      → c ≡ value_of (part (3 * m + 40) 2 (bits_of S)) → v ≡ value_of (reverse (digits_of 6 (a + 4 * (b + 4 * c)))) → v ≡ (carried_by r).crc
  carried-in m a b c v e ea eb ec ev =
      carried-given (form_in r) K S (form-known r.form) v
      (subst (λ (x : ℕ). v ≡ polynomial (part (x + 20) 2 (bits_of S) ++ (part (2 * x + 30) 2 (bits_of S) ++ part (3 * x + 40) 2 (bits_of S)))) e
      (carried-is S m a b c v (omega (arith, e, room-holds r)) ea eb ec ev))

  pub due-in : (n e a b c d : ℕ) → n ≡ 12 * K → e ≡ end_width (form_in r) 0 → RemainderFrom 6 six_generator 0 (part 14 (n + 6) (bits_of S)) a
      → RemainderFrom 6 six_generator a (part (n + 22) (n + 8) (bits_of S)) b → RemainderFrom 6 six_generator b (part (2 * n + 32) (n + 8) (bits_of S)) c
      → RemainderFrom 6 six_generator c (part (3 * n + 42) (n + 4 + e) (bits_of S)) d → DueIn r d
  due-in n e a b c d l t f g h i =
      due-given (form_in r) K S (form-known r.form) d e t
      (subst (λ (x : ℕ). Remainder 6 six_generator (part 14 (x + 6) (bits_of S) ++ (part (x + 22) (x + 8) (bits_of S)
      ++ (part (2 * x + 32) (x + 8) (bits_of S) ++ part (3 * x + 42) (x + 4 + e) (bits_of S)))) d) l
      (due-is S n e a b c d f g h i))

  pub sixes-are : (c d : ℕ) → c ≡ (carried_by r).crc → DueIn r d → SixesGiven r (record { carried = c; due = d })
  sixes-are c d e f =
      record {
        given = ap₂ (λ (x y : ℕ). record { carried = x; due = y }) e (due-computed (form_in r) K S (form-known r.form) d f);
        due_right = f;
      }
