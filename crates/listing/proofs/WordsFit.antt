-- What the lister says in words fits a room of 256 octets, so that nothing is cut there. Assumes nothing.
use mathlib.Core.Path.{◌≡◌, refl}
use mathlib.Core.Bool.{Bool, true, false, cond}
use mathlib.Core.List.{List, [], ◌++◌}
use Prim.Native.Nat.{ℕ, zero, suc, ◌≤◌}
use native.Mathlib.Omega.{arith}
use borrow.Author.Tests.{ltb-false}
use lib.Dec.{eqb, ltb, lit≤}
use lib.ListN.{length, take, length-append}
use lib.Seq.{length-take-le}
use Rattle.answer.specs.Answer.{answer}
use Rattle.octets.specs.Bits.{bits_of}
use Rattle.octets.proofs.Laws.{octets-length}
use Rattle.layout.specs.Refusals.{check_refusals}
use Rattle.reader.specs.Promises.{vendor_octets}
use Rattle.ascii.specs.Text.{text, decimal}
use Rattle.ascii.specs.Plain.{text_length}
use Rattle.ascii.proofs.Numbers.{decimal-length}
use Rattle.ascii.proofs.Plainly.{text-within}
use Rattle.ascii.proofs.Room.{told-whole}
use Rattle.layout.specs.Places.{frame_length}
use Rattle.listing.specs.Words.{length_words, reason_words, refusal_words, vendor_words, worded, words_of, Worded}

either-length : (b : Bool) (x y : List ℕ) (n : ℕ) → length x ≤ n → length y ≤ n → length (cond b x y) ≤ n
either-length true x y n h l = h
either-length false x y n h l = l

length-words : (n : ℕ) → length (length_words n) ≤ 200
unfolding length_words
length-words n = go (ltb frame_length n) refl
  where
    go : (b : Bool) → ltb frame_length n ≡ b
        → length (cond b (text "the file has more than 529 octets, a frame has 529: a file holds one frame; capture it again")
        (cond (eqb n 1) (text "the file has 1 octet, a frame has 529: it is cut short; capture it again")
        (text "the file has " ++ decimal n ++ text " octets, a frame has 529: it is cut short; capture it again")))
        ≤ 200
    go true q = lit≤ tt
    go false q =
        either-length (eqb n 1) _ _ 200 (lit≤ tt)
        (simp length-append (omega (arith, decimal-length 2 n (omega (arith, ltb-false frame_length n q)))))

reason-words : (n : ℕ) → length (reason_words n) ≤ 200
unfolding reason_words
reason-words n =
    either-length (eqb n 5) _ _ 200 (lit≤ tt)
    (either-length (eqb n 6) _ _ 200 (lit≤ tt)
    (either-length (eqb n 7) _ [] 200 (lit≤ tt) (lit≤ tt)))

refusal-words : (n octets : ℕ) → length (refusal_words n octets) ≤ 256
unfolding refusal_words
refusal-words n octets =
    simp length-append
    (omega (arith, either-length (eqb n 1) (length_words octets) (reason_words n) 200 (length-words octets) (reason-words n)))

vendor-words : (v : List ℕ) → length v ≤ 16 → length (vendor_words v) ≤ 256
unfolding vendor_words
vendor-words v h =
    either-length (eqb (text_length v) 0) [] _ 256 (lit≤ tt)
    (simp length-append (omega (arith, text-within v, length-take-le (text_length v) v (text-within v))))

pub words-fit : (octets : List ℕ) → length (words_of octets) ≤ 256
unfolding words_of worded
words-fit octets = go (answer (check_refusals octets))
  where
    go : (n : ℕ) → length (worded n octets) ≤ 256
    go zero =
        let e : length (vendor_octets (bits_of octets)) ≡ 16 = octets-length 16 _ in
        vendor-words (vendor_octets (bits_of octets)) (omega arith)
    go (suc n) = refusal-words (suc n) (length octets)

-- with a room of 256 octets all of it stands at its start
pub words-whole : (octets room : List ℕ) (r : ℕ) (exit : List ℕ) → Worded octets room r exit → length room ≡ 256 → take r exit ≡ words_of octets
words-whole octets room r exit p h = told-whole (words_of octets) room r exit p (omega (arith, words-fit octets))
