-- Runs of bits with gaps of one width between them: where each of their bits stands. Of any bits. Assumes nothing.
use mathlib.Core.Path.{◌≡◌, ap, ◌∙◌}
use mathlib.Core.List.{List, [], ◌++◌}
use Prim.Native.Nat.{ℕ, zero, suc, ◌+◌, ◌-◌, ◌*◌, ◌/◌, ◌≤◌, ◌<◌}
use native.Mathlib.Decide.{dec_lt}
use native.Mathlib.Nat.{div-eq_of_lt, div-eq-sub-div}
use native.Mathlib.Omega.{arith}
use lib.ListN.{length, get_or, drop, length-append, length-drop, get_or-append}
use lib.Seq.{length-take-le, get_or-append-add, get_or-take, get_or-drop}
use Rattle.octets.specs.Bits.{part}

module _ (bits : List ℕ) where
  -- bit i of a part
  pub part_at : (at w i : ℕ) → i < w → get_or (part at w bits) i 0 ≡ get_or bits (at + i) 0
  part_at at w i h = get_or-take w (drop at bits) i 0 h ∙ get_or-drop at bits i 0

  module _ (at w : ℕ) (rest : List ℕ) (i : ℕ) (room : at + w ≤ length bits) where
    pub long : length (part at w bits) ≡ w
    long = length-take-le w (drop at bits) (omega (arith, length-drop at bits))

    -- bit i of a part and what follows it: of the part, or of what follows
    pub head_at : i < w → get_or (part at w bits ++ rest) i 0 ≡ get_or bits (at + i) 0
    head_at h = get_or-append (part at w bits) rest 0 i (omega (arith, long)) ∙ part_at at w i h

    pub tail_at : w ≤ i → get_or (part at w bits ++ rest) i 0 ≡ get_or rest (i - w) 0
    tail_at h = ap (λ (j : ℕ). get_or (part at w bits ++ rest) j 0) step ∙ get_or-append-add (part at w bits) rest (i - w) 0
      where
        step : i ≡ length (part at w bits) + (i - w)
        step = omega (arith, long)

  -- n runs of w bits with a gap behind each, and e bits more
  module _ (w gap e : ℕ) where
    abbrev pub runs : ℕ → ℕ → List ℕ
    runs zero at = part at e bits
    runs (suc n) at = part at w bits ++ runs n (at + w + gap)

    -- bit i of them: a gap more for each run before it
    pub runs-at : 0 < w → e ≤ w → (n at i : ℕ) → i < n * w + e → at + n * (w + gap) + e ≤ length bits
        → get_or (runs n at) i 0 ≡ get_or bits (at + i + gap * (i / w)) 0
    runs-at some short zero at i h l = part_at at e i (omega arith) ∙ ap (λ (j : ℕ). get_or bits j 0) none
      where
        none : at + i ≡ at + i + gap * (i / w)
        none =
            let first : i < w = omega arith in
            omega (arith, ap (λ (m : ℕ). gap * m) (div-eq_of_lt first))
    runs-at some short (suc n) at i h l = pick (dec_lt i w) (λ g. runs-at some short n (at + w + gap) (i - w) (omega arith) (omega arith))
      where
        room : at + w ≤ length bits
        room = omega arith

        rest : List ℕ
        rest = runs n (at + w + gap)

        pick : Dec (i < w) → (w ≤ i → get_or rest (i - w) 0 ≡ get_or bits (at + w + gap + (i - w) + gap * ((i - w) / w)) 0)
            → get_or (part at w bits ++ rest) i 0 ≡ get_or bits (at + i + gap * (i / w)) 0
        pick (yes first) later = head_at at w rest i room first ∙ ap (λ (j : ℕ). get_or bits j 0) none
          where
            none : at + i ≡ at + i + gap * (i / w)
            none = omega (arith, ap (λ (m : ℕ). gap * m) (div-eq_of_lt first))
        pick (no n) later = tail_at at w rest i room behind ∙ later behind ∙ ap (λ (j : ℕ). get_or bits j 0) step
          where
            behind : w ≤ i
            behind = omega arith

            step : at + w + gap + (i - w) + gap * ((i - w) / w) ≡ at + i + gap * (i / w)
            step = omega (arith, ap (λ (m : ℕ). gap * m) (div-eq-sub-div some behind))

    -- how many bits they are
    pub runs-length : (n at : ℕ) → at + n * (w + gap) + e ≤ length bits → length (runs n at) ≡ n * w + e
    runs-length zero at l = long at e [] 0 (omega arith) ∙ omega arith
    runs-length (suc n) at l =
        let room : at + w ≤ length bits = omega arith in
        length-append (part at w bits) (runs n (at + w + gap)) ∙ omega (arith, long at w [] 0 room, runs-length n (at + w + gap) (omega arith))
