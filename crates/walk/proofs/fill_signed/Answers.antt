-- `walk::fill_signed` meets its contract: the fields before place k are there, and the reader stands behind them.
use mathlib.Core.Path.{◌≡◌, sym, ap, ap₂, ◌∙◌}
use mathlib.Core.List.{List, [], ◌∷◌, ◌++◌, append-nil}
use Prim.Native.Nat.{ℕ, suc, ◌+◌, ◌-◌, ◌<◌, ◌≤◌, min}
use native.Mathlib.Numerals.{add-one}
use native.Mathlib.Omega.{arith}
use lib.IntN.{ℤ}
use lib.ListN.{length, take, set}
use Rattle.std.proofs.Common.{append_assoc}
use lib.Seq.{take-suc-set, take_all}
use mir.Syntax.{w32}
use mir.Facts.{to_z-of_z}
use Rattle.octets.specs.Bits.{value_of, bits_of, part}
use Rattle.octets.specs.Signed.{signed_of}
use Rattle.bitfields.specs.Promises.{behind_of}
use Rattle.fields.specs.declared.FieldReader.{FieldReader}
use denote.Ref.{Bor}
use Rattle.walk.specs.Promises.{signed_from, behind_all}
use Rattle.walk.proofs.fill_signed.Goals as goal

-- one field more is there, and one less remains
one_more : (s : List ℕ) (at w n j k : ℕ) (all into : List ℤ) (v : ℤ) → k < length into → n ≡ suc j
    → v ≡ signed_of (min w 32) (value_of (part at (min w 32) (bits_of s))) → all ≡ take k into ++ signed_from s at w n
    → all ≡ take (k + 1) (set into k v) ++ signed_from s (behind_of at w) w j
unfolding signed_from
one_more s at w n j k all into v h e f g =
    let rest = signed_from s (behind_of at w) w j in
    let t : take (k + 1) (set into k v) ≡ take k into ++ v ∷ [] = rw add-one (take-suc-set into k v h) in
    g ∙ ap (λ (m : ℕ). take k into ++ signed_from s at w m) e ∙ ap (λ (x : ℤ). take k into ++ x ∷ rest) (sym f)
    ∙ sym (append_assoc (take k into) (v ∷ []) rest) ∙ ap (λ (x : List ℤ). x ++ rest) (sym t)

-- and the reader stands one field further
further : (at w n j p : ℕ) → n ≡ suc j → p ≡ behind_all at w n → p ≡ behind_all (behind_of at w) w j
unfolding behind_all
further at w n j p e f = f ∙ ap (behind_all at w) e

pub loop-k-preserved : goal.loop-k-preserved
loop-k-preserved c =
    let t = c.take_signed.ensures in
    let i = c.loop-k.invariant in
    let l = c.loop-k in
    let n = length c.args.into.now in
    let e : n - l.k ≡ suc (n - (l.k + 1)) = omega arith in
    rw (t.1, to_z-of_z {w = w32} (record { sfits = c.take_signed.type_inv })) (
      omega arith,
      i.1,
      one_more l.r.frame.now l.r.at c.args.w (n - l.k) (n - (l.k + 1)) l.k _ l.into _ (omega arith) e t.0 i.2,
      further l.r.at c.args.w (n - l.k) (n - (l.k + 1)) _ e i.3,
    )

-- where nothing remains, all that was there to be done is done
done : (s : List ℕ) (at w n k : ℕ) (all into : List ℤ) → length into ≤ k → n ≡ 0 → all ≡ take k into ++ signed_from s at w n → into ≡ all
unfolding signed_from
done s at w n k all into h e f =
    sym (f ∙ ap (λ (m : ℕ). take k into ++ signed_from s at w m) e ∙ append-nil (take k into) ∙ take_all k into h)

stands : (at w n p : ℕ) → n ≡ 0 → p ≡ behind_all at w n → at ≡ p
unfolding behind_all
stands at w n p e f = sym (f ∙ ap (behind_all at w) e)

pub returns : goal.returns
returns c =
    let a = c.args in
    let i = c.loop-k.invariant in
    let l = c.loop-k in
    let n = length a.into.now in
    let z : n - l.k ≡ 0 = omega arith in
    let e = c.reader-r.ensures in
    let f = i.1 ∙ ap (λ (r : FieldReader). r.frame) e in
    let at = ap (λ (r : FieldReader). r.at) e in (
      done l.r.frame.now l.r.at a.w (n - l.k) l.k _ l.into (omega arith) z i.2 ∙ ap₂ (λ (x : Bor (List ℕ)) (p : ℕ). signed_from x.now p a.w n) f at,
      stands l.r.at a.w (n - l.k) _ z i.3 ∙ ap (λ (p : ℕ). behind_all p a.w n) at,
    )
