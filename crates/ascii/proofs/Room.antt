-- Laws of text put into a room. Assumes nothing.
use mathlib.Core.Path.{◌≡◌, refl, sym, ap, ap₂, subst, ◌∙◌}
use mathlib.Core.List.{List, [], ◌∷◌, ◌++◌}
use Prim.Native.Nat.{ℕ, suc, ◌+◌, ◌≤◌, ◌<◌, min}
use native.Mathlib.Decide.{dec_le}
use native.Mathlib.Omega.{arith}
use lib.ListN.{length, take, drop, set, length-append}
use lib.Seq.{sets, length-sets, set_out, take_all, take_at}
use Rattle.octets.proofs.Laws.{sets-append}
use Rattle.ascii.specs.declared.Text.{Text}
use Rattle.ascii.specs.Promises.{Put, Puts, Told}

-- past the end nothing is set
sets-out : (l : List ℕ) (i : ℕ) (vs : List ℕ) → length l ≤ i → sets l i vs ≡ l
sets-out l i [] h = refl
sets-out l i (v ∷ vs) h =
    ap (λ (x : List ℕ). sets x (suc i) vs) (set_out l i v h) ∙ sets-out l (suc i) vs (omega arith)

-- behind the first element
sets_behind : (x : ℕ) (l : List ℕ) (i : ℕ) (vs : List ℕ) → sets (x ∷ l) (suc i) vs ≡ x ∷ sets l i vs
sets_behind x l i [] = refl
sets_behind x l i (v ∷ vs) = sets_behind x (set l i v) (suc i) vs

-- from the first element on: the text, cut where the room ends, and the rest of the room
sets_first : (l vs : List ℕ) → sets l 0 vs ≡ take (min (length vs) (length l)) vs ++ drop (min (length vs) (length l)) l
sets_first [] vs = sets-out [] 0 vs (omega arith) ∙ ap₂ ◌++◌ (sym (ap (λ (n : ℕ). take n vs) none)) (sym (ap (λ (n : ℕ). drop n []) none))
  where
    none : min (length vs) 0 ≡ 0
    none = omega arith
sets_first (x ∷ l) [] = ap₂ ◌++◌ (sym (ap (λ (n : ℕ). take n []) none)) (sym (ap (λ (n : ℕ). drop n (x ∷ l)) none))
  where
    none : min 0 (suc (length l)) ≡ 0
    none = omega arith
sets_first (x ∷ l) (v ∷ vs) =
    sets_behind v l 0 vs
    ∙ ap (λ (t : List ℕ). v ∷ t) (sets_first l vs)
    ∙ ap (λ (n : ℕ). take n (v ∷ vs) ++ drop n (x ∷ l)) (sym more)
  where
    more : min (suc (length vs)) (suc (length l)) ≡ suc (min (length vs) (length l))
    more = omega arith

-- no text
pub put-none : (s : List ℕ) (at : ℕ) → Put s at [] at s
put-none s at = record { behind = omega arith; laid = refl }

-- one octet, where there is room and where there is none
pub put-here : (s : List ℕ) (at b : ℕ) → at < length s → Put s at (b ∷ []) (at + 1) (set s at b)
put-here s at b h = record { behind = omega arith; laid = refl }

pub put-past : (s : List ℕ) (at b : ℕ) → length s ≤ at → Put s at (b ∷ []) at s
put-past s at b h = record { behind = omega arith; laid = sym (set_out s at b h) }

-- text behind text
pub put-more : {s t u : List ℕ} {at n r : ℕ} (xs ys : List ℕ) → Put s at xs n t → Put t n ys r u → Put s at (xs ++ ys) r u
put-more {s} {t} {u} {at} {n} {r} xs ys p q =
    record {
      behind = omega (arith, p.behind, q.behind, same, length-append xs ys);
      laid = q.laid ∙ ap (λ (l : List ℕ). sets l n ys) p.laid ∙ moved (dec_le (at + length xs) (length s)) ∙ sym (sets-append s at xs ys);
    }
  where
    same : length t ≡ length s
    same = ap length p.laid ∙ length-sets s at xs

    moved : Dec (at + length xs ≤ length s) → sets (sets s at xs) n ys ≡ sets (sets s at xs) (at + length xs) ys
    moved (yes h) = ap (λ (i : ℕ). sets (sets s at xs) i ys) (omega (arith, p.behind))
    moved (no h) =
        sets-out (sets s at xs) n ys (omega (arith, p.behind, length-sets s at xs))
        ∙ sym (sets-out (sets s at xs) (at + length xs) ys (omega (arith, length-sets s at xs)))

-- text that is another
pub put_as : {s t : List ℕ} {at n : ℕ} {xs ys : List ℕ} → Put s at xs n t → xs ≡ ys → Put s at ys n t
put_as {s} {t} {at} {n} p e = rw e at p

-- the same by methods of `Text`
pub puts-none : (s : Text) → Puts s [] s
puts-none s = record { lent = refl; put = put-none s.room.now s.at }

pub puts-more : {s t u : Text} {xs ys : List ℕ} → Puts s xs t → Puts t ys u → Puts s (xs ++ ys) u
puts-more {xs = xs} {ys = ys} p q = record { lent = q.lent ∙ p.lent; put = put-more xs ys p.put q.put }

pub puts_as : {s t : Text} {xs ys : List ℕ} → Puts s xs t → xs ≡ ys → Puts s ys t
puts_as p e = record { lent = p.lent; put = put_as p.put e }

-- the room keeps its length
pub put-length : {s t : List ℕ} {at n : ℕ} (xs : List ℕ) → Put s at xs n t → length t ≡ length s
put-length {s} {t} {at} {n} xs p = ap length p.laid ∙ length-sets s at xs

-- a text put from the first place on is told
pub told : (text s t : List ℕ) (r : ℕ) → Put s 0 text r t → Told text s r t
told text s t r p = record { count = e; room_left = p.laid ∙ sets_first s text ∙ ap (λ (n : ℕ). take n text ++ drop n s) (sym e) }
  where
    e : r ≡ min (length text) (length s)
    e = omega (arith, p.behind)

-- the same by methods of `Text`, from place n on: exit is what the room holds when the loan ends
pub puts-put : {text exit : List ℕ} {n : ℕ} {s e : Text} → Puts s text e → s.at ≡ n → exit ≡ e.room.now → Put s.room.now n text e.at exit
puts-put {text} {exit} {n} {s} {e} p start end =
    subst (λ (t : List ℕ). Put s.room.now n text e.at t) (sym end) (subst (λ (k : ℕ). Put s.room.now k text e.at e.room.now) start p.put)

pub puts-told : {text exit : List ℕ} {s e : Text} → Puts s text e → s.at ≡ 0 → exit ≡ e.room.now → Told text s.room.now e.at exit
puts-told {text} {exit} {s} {e} p start end = told text s.room.now exit e.at (puts-put p start end)

-- where the text fits the room it stands whole at its start
pub told-whole : (text room : List ℕ) (r : ℕ) (exit : List ℕ) → Told text room r exit → length text ≤ length room → take r exit ≡ text
told-whole text room r exit p h =
    let e : r ≡ length text = omega (arith, p.count) in
    let t : take r text ≡ text = take_all r text (omega arith) in
    ap (take r) (p.room_left ∙ ap (λ (l : List ℕ). l ++ drop r room) t) ∙ take_at text (drop r room) r (sym e)
