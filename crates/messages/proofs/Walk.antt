-- The walk over a channel from flag to flag counts its pieces. Assumes nothing.
use mathlib.Core.Path.{◌≡◌, refl, sym, ap, ap₂, ◌∙◌}
use mathlib.Core.Bool.{Bool, true, false, cond, ◌&&◌, true≢false}
use mathlib.Core.List.{List, [], ◌∷◌, ◌++◌}
use Prim.Native.Nat.{ℕ, suc, ◌+◌, ◌-◌, ◌≤◌, ◌<◌}
use native.Mathlib.Decide.{dec_lt}
use native.Mathlib.Numerals.{add-one}
use native.Mathlib.Omega.{arith}
use borrow.Author.Tests.{ltb-true, lt-ltb}
use lib.Dec.{ltb}
use lib.ListN.{length, get_or, take, drop, length-take, length-drop, drop_of_length-le}
use lib.Seq.{drop-cons, drop-drop, take-suc, get_or-drop}
use Rattle.answer.proofs.Order.{both}
use Rattle.eoc.specs.Message.{flag, framed}
use Rattle.eoc.specs.Channel.{before, pieces_from, pieces}
use Rattle.messages.specs.Messages.{up_to_flag, flag_from, is_good, is_taken, count_good, count_taken}
use Rattle.messages.proofs.Laws.{flag-within, flag-stands, behind-drop, piece-next, piece-none}

-- the pieces behind the flag at a place
abbrev pub rest_from : List ℕ → ℕ → List (List ℕ)
rest_from s at = pieces_from [] (drop (at + 1) s)

-- what stands between two places
abbrev pub piece_of : List ℕ → ℕ → ℕ → List ℕ
piece_of s at end = take (end - (at + 1)) (drop (at + 1) s)

-- so far: m messages, g good ones and t that a unit takes are told, and the others stand behind place `at`
pub record Walk (s : List ℕ) (own at m g t : ℕ) : Type 0 where
  pub within : at ≤ length s
  pub at_flag : at < length s → get_or s at 0 ≡ flag
  pub all : m + length (rest_from s at) ≡ length (pieces s)
  pub goods : g + count_good (rest_from s at) ≡ count_good (pieces s)
  pub takes : t + count_taken own (rest_from s at) ≡ count_taken own (pieces s)
  pub few : m ≤ at
  pub few-good : g ≤ at
  pub few-taken : t ≤ at

pub walk_first : (s : List ℕ) (own first : ℕ) → first ≡ flag_from s 0 → Walk s own first 0 0 0
walk_first s own first e =
    let n : first + 1 ≡ suc (up_to_flag s) = omega (arith, e) in
    let rest : rest_from s first ≡ pieces s = ap (λ (k : ℕ). pieces_from [] (drop k s)) n ∙ ap (pieces_from []) (sym (behind-drop s)) in
    record {
      within = omega (arith, e, flag-within s 0 (omega arith));
      at_flag = λ h. ap (λ (k : ℕ). get_or s k 0) e ∙ flag-stands s 0 (omega (arith, e));
      all = omega (arith, ap length rest);
      goods = omega (arith, ap count_good rest);
      takes = omega (arith, ap (count_taken own) rest);
      few = omega arith;
      few-good = omega arith;
      few-taken = omega arith;
    }

-- the next flag
module _ (s : List ℕ) (own at m g t : ℕ) (w : Walk s own at m g t) (h : at < length s) (end : ℕ) (e : end ≡ flag_from s (at + 1)) where
  pub end-within : end ≤ length s
  end-within = omega (arith, e, flag-within s (at + 1) (omega arith))

  pub end-behind : at < end
  end-behind = omega (arith, e)

  end-flag : end < length s → get_or s end 0 ≡ flag
  end-flag l = ap (λ (k : ℕ). get_or s k 0) e ∙ flag-stands s (at + 1) (omega (arith, e))

  ends-piece : end < length s → rest_from s at ≡ before (piece_of s at end) (rest_from s end)
  ends-piece l =
      let r = drop (at + 1) s in
      let u : up_to_flag r ≡ end - (at + 1) = omega (arith, e) in
      let v : at + 1 + suc (up_to_flag r) ≡ end + 1 = omega (arith, e) in
      piece-next [] r (omega (arith, e, length-drop (at + 1) s))
      ∙ ap₂ (λ (n : ℕ) (x : List ℕ). before (take n r) (pieces_from [] x)) u (drop-drop (suc (up_to_flag r)) (at + 1) s ∙ ap (λ (n : ℕ). drop n s) v)

  ends-none : length s ≤ end → rest_from s at ≡ rest_from s end
  unfolding pieces_from
  ends-none l =
      piece-none [] (drop (at + 1) s) (omega (arith, e, length-drop (at + 1) s))
      ∙ ap (pieces_from []) (sym (drop_of_length-le s {i = end + 1} (omega arith)))

  -- no piece: another flag, or the channel's end
  pub walk-over : (ltb (at + 1) end && ltb end (length s)) ≡ false → Walk s own end m g t
  walk-over q =
      let rest = same (dec_lt end (length s)) in
      record {
        within = end-within;
        at_flag = end-flag;
        all = omega (arith, w.all, ap length rest);
        goods = omega (arith, w.goods, ap count_good rest);
        takes = omega (arith, w.takes, ap (count_taken own) rest);
        few = omega (arith, w.few, end-behind);
        few-good = omega (arith, w.few-good, end-behind);
        few-taken = omega (arith, w.few-taken, end-behind);
      }
    where
      empty : (l : List ℕ) (ps : List (List ℕ)) → length l ≡ 0 → before l ps ≡ ps
      empty [] ps z = refl
      empty (o ∷ os) ps z = absurd (omega arith)

      near : end < length s → Dec (at + 1 < end) → end ≤ at + 1
      near l (yes k) = absurd (true≢false (sym (ap₂ ◌&&◌ (lt-ltb (at + 1) end k) (lt-ltb end (length s) l)) ∙ q))
      near l (no k) = omega arith

      same : Dec (end < length s) → rest_from s at ≡ rest_from s end
      same (yes l) =
          ends-piece l
          ∙ empty (piece_of s at end) (rest_from s end) (omega (arith, near l (dec_lt (at + 1) end), length-take (end - (at + 1)) (drop (at + 1) s)))
      same (no l) = ends-none (omega arith)

  -- a piece, with its two flags
  module _ (q : (ltb (at + 1) end && ltb end (length s)) ≡ true) where
    pub between-flags : (at + 1 < end) × (end < length s)
    between-flags =
        let b = both (ltb (at + 1) end) (ltb end (length s)) q in
        (ltb-true (at + 1) end b.0, ltb-true end (length s) b.1)

    with-flags : take (end + 1 - at) (drop at s) ≡ framed (piece_of s at end)
    with-flags =
        let r = drop (at + 1) s in
        let j = end - (at + 1) in
        let b = between-flags in
        let n : end + 1 - at ≡ suc (suc j) = omega (arith, b.0) in
        let k : at + 1 + j ≡ end = omega (arith, b.0) in
        let o : get_or r j 0 ≡ flag = get_or-drop (at + 1) s j 0 ∙ ap (λ (i : ℕ). get_or s i 0) k ∙ end-flag b.1 in
        let d : drop at s ≡ flag ∷ r = drop-cons s at 0 h ∙ ap₂ (λ (x i : ℕ). x ∷ drop i s) (w.at_flag h) (sym (add-one at)) in
        ap₂ (λ (i : ℕ) (l : List ℕ). take i l) n d
        ∙ ap (λ (l : List ℕ). flag ∷ l) (take-suc r j 0 (omega (arith, b.0, b.1, length-drop (at + 1) s)) ∙ ap (λ (x : ℕ). take j r ++ (x ∷ [])) o)

    pub walk-on : (m' g' t' : ℕ) → m' ≡ m + 1 → g' ≡ g + cond (is_good (take (end + 1 - at) (drop at s))) 1 0
        → t' ≡ t + cond (is_taken own (take (end + 1 - at) (drop at s))) 1 0 → Walk s own end m' g' t'
    unfolding count_good count_taken
    walk-on m' g' t' x y z =
        let b = between-flags in
        let p = piece_of s at end in
        let rest : rest_from s at ≡ p ∷ rest_from s end = ends-piece b.1
        ∙ some p (rest_from s end) (omega (arith, b.0, b.1, length-take (end - (at + 1)) (drop (at + 1) s), length-drop (at + 1) s)) in
        let gi : g' ≡ g + cond (is_good (framed p)) 1 0 = y ∙ ap (λ (l : List ℕ). g + cond (is_good l) 1 0) with-flags in
        let ti : t' ≡ t + cond (is_taken own (framed p)) 1 0 = z ∙ ap (λ (l : List ℕ). t + cond (is_taken own l) 1 0) with-flags in
        record {
          within = end-within;
          at_flag = end-flag;
          all = omega (arith, w.all, x, ap length rest);
          goods = added g' g _ _ (count_good (pieces s)) gi w.goods (ap count_good rest);
          takes = added t' t _ _ (count_taken own (pieces s)) ti w.takes (ap (count_taken own) rest);
          few = omega (arith, w.few, x, end-behind);
          few-good = at_most g' g (is_good (framed p)) gi w.few-good;
          few-taken = at_most t' t (is_taken own (framed p)) ti w.few-taken;
        }
      where
        some : (l : List ℕ) (ps : List (List ℕ)) → 0 < length l → before l ps ≡ l ∷ ps
        some [] ps z = absurd (omega arith)
        some (o ∷ os) ps z = refl

        added : (n' n k r c : ℕ) {q : ℕ} → n' ≡ n + k → n + q ≡ c → q ≡ k + r → n' + r ≡ c
        added n' n k r c a b d = omega arith

        at_most : (n' n : ℕ) (b : Bool) → n' ≡ n + cond b 1 0 → n ≤ at → n' ≤ end
        at_most n' n true a b = omega (arith, end-behind)
        at_most n' n false a b = omega (arith, end-behind)

-- behind the last flag nothing is left
pub walk-last : (s : List ℕ) (own at m g t : ℕ) → Walk s own at m g t → length s ≤ at
    → (m ≡ length (pieces s)) × (g ≡ count_good (pieces s)) × (t ≡ count_taken own (pieces s))
unfolding pieces_from count_good count_taken
walk-last s own at m g t w h =
    let rest : rest_from s at ≡ [] = ap (pieces_from []) (drop_of_length-le s {i = at + 1} (omega arith)) in
    (omega (arith, w.all, ap length rest), omega (arith, w.goods, ap count_good rest), omega (arith, w.takes, ap (count_taken own) rest))
