-- One result per call: two results or exit memories that a function's promise allows for the same call are equal. Assumes nothing.
use mathlib.Core.Path.{◌≡◌, sym, ◌∙◌}
use mathlib.Core.Bool.{Bool}
use mathlib.Core.List.{List}
use Prim.Native.Nat.{ℕ}
use lib.IntN.{ℤ}
use Rattle.octets.specs.Promises.{BitRead, HasBit, WordRead, WordPut, BitsRead, BitsPut, FrontPut, Copied, Cleared, IsClear, Signed, Twos}

-- two that are equal to a third
pub both : {A : Type 0} {x y z : A} → x ≡ z → y ≡ z → x ≡ y
both p q = p ∙ sym q

pub bit-one : (s : List ℕ) (at k r r' : ℕ) → BitRead s at k r → BitRead s at k r' → r ≡ r'
bit-one s at k r r' p q = both p q

pub has_one : (s : List ℕ) (at k : ℕ) (r r' : Bool) → HasBit s at k r → HasBit s at k r' → r ≡ r'
has_one s at k r r' p q = both p q

pub word-one : (s : List ℕ) (i r r' : ℕ) → WordRead s i r → WordRead s i r' → r ≡ r'
word-one s i r r' p q = both p q

pub put-word-one : (s : List ℕ) (i v : ℕ) (t t' : List ℕ) → WordPut s i v t → WordPut s i v t' → t ≡ t'
put-word-one s i v t t' p q = both p q

pub bits-one : (s : List ℕ) (at k n r r' : ℕ) → BitsRead s at k n r → BitsRead s at k n r' → r ≡ r'
bits-one s at k n r r' p q = both p q

pub put-bits-one : (s : List ℕ) (at k n v : ℕ) (t t' : List ℕ) → BitsPut s at k n v t → BitsPut s at k n v t' → t ≡ t'
put-bits-one s at k n v t t' p q = both p q

pub put-front-one : (s : List ℕ) (i n v : ℕ) (t t' : List ℕ) → FrontPut s i n v t → FrontPut s i n v t' → t ≡ t'
put-front-one s i n v t t' p q = both p q

pub copy-one : (s : List ℕ) (at : ℕ) (source : List ℕ) (from n : ℕ) (t t' : List ℕ) → Copied s at source from n t → Copied s at source from n t' → t ≡ t'
copy-one s at source from n t t' p q = both p q

pub clear-one : (s : List ℕ) (at n : ℕ) (t t' : List ℕ) → Cleared s at n t → Cleared s at n t' → t ≡ t'
clear-one s at n t t' p q = both p q

pub is-clear-one : (s : List ℕ) (at n : ℕ) (r r' : Bool) → IsClear s at n r → IsClear s at n r' → r ≡ r'
is-clear-one s at n r r' p q = both p q

pub signed-one : (w n : ℕ) (r r' : ℤ) → Signed w n r → Signed w n r' → r ≡ r'
signed-one w n r r' p q = both p q

pub twos-one : (z : ℤ) (r r' : ℕ) → Twos z r → Twos z r' → r ≡ r'
twos-one z r r' p q = both p q
