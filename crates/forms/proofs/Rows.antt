-- Rows of a table, as `split` at newlines gives them one by one. Assumes nothing.
use mathlib.Core.Path.{◌≡◌, refl, sym, ap, subst, ◌∙◌}
use mathlib.Core.Bool.{Bool, true, false, true≢false}
use mathlib.Core.List.{List, [], ◌∷◌, ◌++◌, append-nil}
use Prim.Native.Nat.{ℕ, zero, suc, ◌≤◌}
use native.Mathlib.Omega.{arith}
use lib.Dec.{eqb}
use lib.ListN.{length}
use denote.Param.Members.{Mut}
use denote.Bor.{Bor}
use Rattle.std.specs.Prelude.{Option, Some, None}
use Rattle.std.specs.Bool.{MatchBool}
use Rattle.std.specs.Option.{MatchOption, unwrap_or}
use Rattle.std.specs.List.{IsFirstMatchOrLen}
use Rattle.std.specs.Fn.{ComputesKey}
use Rattle.std.specs.Iterator.{Yields}
use Rattle.std.specs.Slice.Iter.{split_rest, split_done, split_callee, split_steps}
use Rattle.std.specs.declared.slice.Split.{Split}
use Rattle.forms.specs.Forms.{row_by, row_of}

-- a newline ends a row
abbrev pub is_end : ℕ → Bool
is_end o = eqb o 10

-- ---- a row that ends at the first newline, or with the table

abbrev Ends : List ℕ → List ℕ → Type 0
Ends part tail = IsFirstMatchOrLen is_end (part ++ tail) (length part)

shorter : (o : ℕ) (part tail : List ℕ) → Ends (o ∷ part) tail → Ends part tail
shorter o part tail e = ((λ k d l h. e.0 (suc k) d (omega arith) (omega arith)), λ h d. e.1 (omega arith) d)

row-first : (part tail : List ℕ) → Ends part tail → row_of (part ++ tail) 0 ≡ part
unfolding row_of row_by
row-first [] [] e = refl
row-first [] (o ∷ tail) e = ap (λ (b : Bool). row_by b o (row_of tail) 0) (e.1 (omega arith) 0)
row-first (o ∷ part) tail e =
    ap (λ (b : Bool). row_by b o (row_of (part ++ tail)) 0) (e.0 0 0 (omega arith) (omega arith))
    ∙ ap (λ (l : List ℕ). o ∷ l) (row-first part tail (shorter o part tail e))

row-next : (part : List ℕ) (o : ℕ) (tail : List ℕ) (n : ℕ) → Ends part (o ∷ tail) → row_of (part ++ (o ∷ tail)) (suc n) ≡ row_of tail n
unfolding row_of row_by
row-next [] o tail n e = ap (λ (b : Bool). row_by b o (row_of tail) (suc n)) (e.1 (omega arith) 0)
row-next (p ∷ part) o tail n e =
    ap (λ (b : Bool). row_by b p (row_of (part ++ (o ∷ tail))) (suc n)) (e.0 0 0 (omega arith) (omega arith))
    ∙ row-next part o tail n (shorter p part (o ∷ tail) e)

row-none : (part : List ℕ) (n : ℕ) → Ends part [] → row_of (part ++ []) (suc n) ≡ []
unfolding row_of row_by
row-none [] n e = refl
row-none (p ∷ part) n e =
    ap (λ (b : Bool). row_by b p (row_of (part ++ [])) (suc n)) (e.0 0 0 (omega arith) (omega arith)) ∙ row-none part n (shorter p part [] e)

-- ---- the parts that `split` gives

module _ {F : Type 0} (g : Mut F (Bor ℕ × Unit {0}) Bool) (none : Bor (List ℕ)) (empty : none.now ≡ []) where
  -- behind the last part there is none
  behind : (xs : List (Bor (List ℕ))) (r : Option (Bor (List ℕ))) (s t u : Split ℕ F) → split_done s ≡ true → Yields (split_steps g) s xs t → split_steps g t r u
      → (unwrap_or r none).now ≡ []
  behind [] None s t u e y p = empty
  behind [] (Some x) s t u e y p = absurd (true≢false (sym e ∙ ap split_done y ∙ p.0))
  behind (x ∷ xs) r s t u e y p = absurd (true≢false (sym e ∙ y.1.0))

  module _ (s : Split ℕ F) (x : Bor (List ℕ)) (j : Split ℕ F) (key : ComputesKey g is_end (split_callee s)) (p : split_steps g s (Some x) j) where
    ends : (tail : List ℕ) → split_rest s ≡ x.now ++ tail → Ends x.now tail
    ends tail e = subst (λ (l : List ℕ). IsFirstMatchOrLen is_end l (length x.now)) e (p.2 is_end key).1

    abbrev Cut : Bool → Type 0
    Cut b = MatchBool b (split_rest s ≡ x.now) ((o : ℕ) × (split_rest s ≡ x.now ++ (o ∷ split_rest j)))

    here : (b : Bool) → Cut b → row_of (split_rest s) 0 ≡ x.now
    here true m =
        let e : split_rest s ≡ x.now ++ [] = m ∙ sym (append-nil x.now) in
        ap (λ (l : List ℕ). row_of l 0) e ∙ row-first x.now [] (ends [] e)
    here false m = ap (λ (l : List ℕ). row_of l 0) m.1 ∙ row-first x.now (m.0 ∷ split_rest j) (ends (m.0 ∷ split_rest j) m.1)

    over : Cut true → (n : ℕ) → row_of (split_rest s) (suc n) ≡ []
    over m n =
        let e : split_rest s ≡ x.now ++ [] = m ∙ sym (append-nil x.now) in
        ap (λ (l : List ℕ). row_of l (suc n)) e ∙ row-none x.now n (ends [] e)

    next : Cut false → (n : ℕ) → row_of (split_rest s) (suc n) ≡ row_of (split_rest j) n
    next m n =
        ap (λ (l : List ℕ). row_of l (suc n)) m.1 ∙ row-next x.now m.0 (split_rest j) n (ends (m.0 ∷ split_rest j) m.1)

  fewer : (r : Option (Bor (List ℕ))) (a b : ℕ) → MatchOption r (suc a ≤ suc b) (λ _. suc a ≡ suc b) → MatchOption r (a ≤ b) (λ _. a ≡ b)
  fewer None a b c = let k : suc a ≤ suc b = c in omega arith
  fewer (Some x) a b c = let k : suc a ≡ suc b = c in omega arith

  too-many : (r : Option (Bor (List ℕ))) (a : ℕ) → MatchOption r (suc a ≤ 0) (λ _. suc a ≡ 0) → ⊥
  too-many None a c = let k : suc a ≤ 0 = c in omega arith
  too-many (Some x) a c = let k : suc a ≡ 0 = c in omega arith

  -- part n is row n
  pub nth-is-row : (xs : List (Bor (List ℕ))) (r : Option (Bor (List ℕ))) (s t u : Split ℕ F) (n : ℕ) → ComputesKey g is_end (split_callee s) → split_done s ≡ false
      → Yields (split_steps g) s xs t → split_steps g t r u → MatchOption r (length xs ≤ n) (λ _. length xs ≡ n) → (unwrap_or r none).now ≡ row_of (split_rest s) n
  nth-is-row [] None s t u n key d y p c = absurd (true≢false (sym p.0 ∙ ap split_done (sym y) ∙ d))
  nth-is-row [] (Some x) s t u n key d y p c =
      let q : split_steps g s (Some x) u = subst (λ (z : Split ℕ F). split_steps g z (Some x) u) (sym y) p in
      sym (here s x u key q (split_done u) q.1) ∙ ap (row_of (split_rest s)) c
  nth-is-row (x ∷ xs) r s t u zero key d y p c = absurd (too-many r (length xs) c)
  nth-is-row (x ∷ xs) r s t u (suc n) key d y p c =
      pick (split_done y.0) refl y.1.1 (λ e. nth-is-row xs r y.0 t u n (y.1.2 is_end key).0 e y.2 p (fewer r (length xs) n c))
    where
      pick : (b : Bool) → split_done y.0 ≡ b → Cut s x y.0 key y.1 b → (split_done y.0 ≡ false → (unwrap_or r none).now ≡ row_of (split_rest y.0) n)
          → (unwrap_or r none).now ≡ row_of (split_rest s) (suc n)
      pick true e m rest = behind xs r y.0 t u e y.2 p ∙ sym (over s x y.0 key y.1 m n)
      pick false e m rest = rest e ∙ sym (next s x y.0 key y.1 m n)
