-- Whether a frame lies at a place, and which, depends on 4,250 bits only: the 23 before the place and the frame's own. Assumes nothing.
use mathlib.Core.Path.{◌≡◌, refl, sym, ap, ap₂, ◌∙◌}
use mathlib.Core.Bool.{Bool, true, false, ◌&&◌, ◌||◌}
use mathlib.Core.List.{List, ◌++◌, reverse}
use Prim.Native.Nat.{ℕ, ◌+◌, ◌-◌, ◌≤◌, ◌<◌}
use native.Mathlib.Decide.{dec_le}
use native.Mathlib.Omega.{arith}
use borrow.Author.Tests.{leb-true, le-leb, lt-leb}
use lib.Dec.{eqb, leb}
use lib.ListN.{length, take, drop, replicate, length-append}
use lib.Seq.{take-take}
use Rattle.answer.specs.Answer.{answer}
use Rattle.answer.proofs.Order.{both}
use Rattle.octets.specs.Bits.{value_of, octets_of, part}
use Rattle.octets.proofs.Fields.{part-part, part-before}
use Rattle.layout.specs.Frame.{training_sync, final_sync}
use Rattle.layout.specs.Refusals.{check_refusals}
use Rattle.recurrence.specs.declared.Way.TheVariants.{Descramble as descramble}
use Rattle.scrambler.specs.Promises.{frame_out}
use Rattle.receiver.specs.Stream.{frame_at, synced, reads, lies_at}

-- those bits
abbrev pub around : List ℕ → ℕ → List ℕ
around bits p = part (p - 23) 4250 bits

-- a frame that lies there, part by part
pub lies-sound : (end : ℕ) (bits : List ℕ) (p : ℕ) → lies_at end bits p ≡ true
    → (23 ≤ p) × (p + 4227 ≤ length bits) × (synced bits p ≡ true) × (reads end bits p ≡ true)
unfolding lies_at
lies-sound end bits p e =
    let a = both (leb 23 p) _ e in
    let b = both (leb (p + 4227) (length bits)) _ a.1 in
    let c = both (synced bits p) (reads end bits p) b.1 in
    (leb-true 23 p a.0, leb-true (p + 4227) (length bits) b.0, c.0, c.1)

-- where all its bits are there
pub lies-here : (end : ℕ) (bits : List ℕ) (p : ℕ) → 23 ≤ p → p + 4227 ≤ length bits → lies_at end bits p ≡ synced bits p && reads end bits p
unfolding lies_at
lies-here end bits p h l =
    ap₂ (λ (s t : Bool). s && (t && (synced bits p && reads end bits p))) (le-leb 23 p h) (le-leb (p + 4227) (length bits) l)

-- and where they are not
pub lies-early : (end : ℕ) (bits : List ℕ) (p : ℕ) → p < 23 → lies_at end bits p ≡ false
unfolding lies_at
lies-early end bits p h =
    ap (λ (s : Bool). s && (leb (p + 4227) (length bits) && (synced bits p && reads end bits p))) (lt-leb 23 p h)

pub lies-late : (end : ℕ) (bits : List ℕ) (p : ℕ) → length bits < p + 4227 → lies_at end bits p ≡ false
unfolding lies_at
lies-late end bits p h =
    ap (λ (t : Bool). leb 23 p && (t && (synced bits p && reads end bits p))) (lt-leb (p + 4227) (length bits) h) ∙ neither (leb 23 p)
  where
    neither : (s : Bool) → s && false ≡ false
    neither true = refl
    neither false = refl

module _ (L M : List ℕ) (p q : ℕ) (h : 23 ≤ p) (k : 23 ≤ q) (same : around L p ≡ around M q) where
  same-part : (n : ℕ) → n ≤ 4227 → part p n L ≡ part q n M
  same-part n l =
      sym (part-part L 23 n (p - 23) 4250 p (omega arith) (omega arith)) ∙ ap (part 23 n) same ∙ part-part M 23 n (q - 23) 4250 q (omega arith) (omega arith)

  same-before : part (p - 23) 23 L ≡ part (q - 23) 23 M
  same-before =
      sym (take-take 23 4250 (drop (p - 23) L) (omega arith)) ∙ ap (take 23) same ∙ take-take 23 4250 (drop (q - 23) M) (omega arith)

  pub same-frame : (end : ℕ) → frame_at end L p ≡ frame_at end M q
  unfolding frame_at
  same-frame end =
      ap₂ (λ (b f : List ℕ). frame_out descramble (record { end = end; state = value_of (reverse b) }) (octets_of 529 (f ++ replicate 5 0))) same-before
      (same-part 4227 (omega arith))

  pub same-sync : synced L p ≡ synced M q
  same-sync =
      ap (λ (s : List ℕ). eqb (value_of s) (value_of training_sync) || eqb (value_of s) (value_of final_sync)) (same-part 14 (omega arith))

  pub same-lies : (end : ℕ) → p + 4227 ≤ length L → q + 4227 ≤ length M → lies_at end L p ≡ lies_at end M q
  same-lies end l m =
      lies-here end L p h l
      ∙ ap₂ ◌&&◌ same-sync (ap (λ (f : List ℕ). eqb (answer (check_refusals f)) 0) (same-frame end))
      ∙ sym (lies-here end M q k m)

-- bits behind a frame change nothing
module _ (end : ℕ) (L X : List ℕ) (p : ℕ) (l : p + 4227 ≤ length L) where
  behind : 23 ≤ p → around (L ++ X) p ≡ around L p
  behind h = part-before L X (p - 23) 4250 (omega arith)

  pub frame-more : 23 ≤ p → frame_at end (L ++ X) p ≡ frame_at end L p
  frame-more h = same-frame (L ++ X) L p p h h (behind h) end

  pub lies_more : lies_at end (L ++ X) p ≡ lies_at end L p
  lies_more = pick (dec_le 23 p)
    where
      pick : Dec (23 ≤ p) → lies_at end (L ++ X) p ≡ lies_at end L p
      pick (yes h) = same-lies (L ++ X) L p p h h (behind h) end (omega (arith, length-append L X)) l
      pick (no h) = lies-early end (L ++ X) p (omega arith) ∙ sym (lies-early end L p (omega arith))
