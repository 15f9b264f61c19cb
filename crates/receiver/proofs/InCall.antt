-- In its call: a frame is handed out by the call that brings its last bit, and by no other; no call hands out two. Assumes nothing.
use mathlib.Core.Path.{◌≡◌, refl, sym, ap, ap₂, subst, ◌∙◌}
use mathlib.Core.Bool.{Bool, true, false, cond, ◌&&◌}
use mathlib.Core.List.{List, [], ◌∷◌, ◌++◌, append-nil, append_assoc}
use Prim.Native.Nat.{ℕ, ◌+◌, ◌-◌, ◌≤◌, ◌<◌}
use native.Mathlib.Omega.{arith}
use borrow.Author.Tests.{ltb-true, le-leb, lt-leb, lt-ltb, le-ltb}
use lib.Dec.{eqb, leb, ltb}
use lib.ListN.{length}
use Rattle.answer.specs.Answer.{answer}
use Rattle.receiver.specs.Given.{Given, GivenOf}
use Rattle.receiver.specs.Promises.{StartPromise, receive_refusals, joined, takes, found, gives, place_on, received_of}
use Rattle.receiver.specs.Calls.{Lump, joined_bits, handed, Calls, none as no_call, call, all_handed, ending_in, shares}
use Rattle.receiver.specs.declared.Receiver.{Receiver}
use Rattle.receiver.specs.Promises.{Got}
use Rattle.receiver.proofs.Earliest.{First, first_is}
use Rattle.receiver.proofs.Given.{given-one}
use Rattle.receiver.proofs.Cut.{answer-is, takes-sound, any-cut}

-- no call hands out two
pub not-two : (r : Got) (room : List ℕ) → length (handed r room) ≤ 1
not-two r room = pick (eqb r.given 1)
  where
    pick : (t : Bool) → length {A = Given} (cond t (record { place = r.place; frame = room } ∷ []) []) ≤ 1
    pick true = omega arith
    pick false = omega arith

-- ---- where frames end

-- all of them end at place lo or behind it, and before place hi
pub data Within (lo hi : ℕ) : List Given → Type 0 where
  none : Within lo hi []
  more : (g : Given) (gs : List Given) → lo ≤ g.place + 4226 → g.place + 4226 < hi → Within lo hi gs → Within lo hi (g ∷ gs)

-- all of them end at place lo or behind it
pub data Behind (lo : ℕ) : List Given → Type 0 where
  none : Behind lo []
  more : (g : Given) (gs : List Given) → lo ≤ g.place + 4226 → Behind lo gs → Behind lo (g ∷ gs)

-- each call hands out frames that end in its lump; the first bit of the first has place m
pub data Brings : ℕ → List Lump → List (List Given) → Type 0 where
  none : (m : ℕ) → Brings m [] []
  more : (m : ℕ) (l : Lump) (ls : List Lump) (o : List Given) (outs : List (List Given)) → Within m (m + l.count) o → Brings (m + l.count) ls outs
      → Brings m (l ∷ ls) (o ∷ outs)

behind-less : (lo hi : ℕ) (gs : List Given) → lo ≤ hi → Behind hi gs → Behind lo gs
behind-less lo hi [] h none = none
behind-less lo hi _ h (more g gs l b) = more g gs (omega arith) (behind-less lo hi gs h b)

behind-both : (lo hi : ℕ) (o gs : List Given) → Within lo hi o → Behind lo gs → Behind lo (o ++ gs)
behind-both lo hi [] gs none b = b
behind-both lo hi _ gs (more g o h l w) b = more g (o ++ gs) h (behind-both lo hi o gs w b)

brings-behind : (m : ℕ) (ls : List Lump) (outs : List (List Given)) → Brings m ls outs → Behind m (all_handed outs)
unfolding all_handed
brings-behind m [] [] (none _) = none
brings-behind m _ _ (more _ l ls o outs w b) =
    behind-both m (m + l.count) o (all_handed outs) w (behind-less m (m + l.count) (all_handed outs) (omega arith) (brings-behind (m + l.count) ls outs b))

-- ---- what ends in n bits from place m on

ending-append : (m n : ℕ) (gs hs : List Given) → ending_in m n (gs ++ hs) ≡ ending_in m n gs ++ ending_in m n hs
unfolding ending_in
ending-append m n [] hs = refl
ending-append m n (g ∷ gs) hs = pick (leb m (g.place + 4227 - 1) && ltb (g.place + 4227 - 1) (m + n)) (ending-append m n gs hs)
  where
    pick : (t : Bool) → ending_in m n (gs ++ hs) ≡ ending_in m n gs ++ ending_in m n hs
        → cond t (g ∷ ending_in m n (gs ++ hs)) (ending_in m n (gs ++ hs)) ≡ cond t (g ∷ ending_in m n gs) (ending_in m n gs) ++ ending_in m n hs
    pick true e = ap (λ (l : List Given). g ∷ l) e
    pick false e = e

ending-all : (m n : ℕ) (gs : List Given) → Within m (m + n) gs → ending_in m n gs ≡ gs
unfolding ending_in
ending-all m n [] none = refl
ending-all m n _ (more g gs h l w) =
    let p : m ≤ g.place + 4227 - 1 = omega arith in
    let q : g.place + 4227 - 1 < m + n = omega arith in
    ap₂ (λ (s t : Bool). cond (s && t) (g ∷ ending_in m n gs) (ending_in m n gs)) (le-leb _ _ p) (lt-ltb _ _ q) ∙ ap (λ (l : List Given). g ∷ l) (ending-all m n gs w)

ending-before : (m n lo hi : ℕ) (gs : List Given) → hi ≤ m → Within lo hi gs → ending_in m n gs ≡ []
unfolding ending_in
ending-before m n lo hi [] k none = refl
ending-before m n lo hi _ k (more g gs h l w) =
    let p : g.place + 4227 - 1 < m = omega arith in
    ap (λ (s : Bool). cond (s && ltb (g.place + 4227 - 1) (m + n)) (g ∷ ending_in m n gs) (ending_in m n gs)) (lt-leb _ _ p) ∙ ending-before m n lo hi gs k w

ending-behind : (m n : ℕ) (gs : List Given) → Behind (m + n) gs → ending_in m n gs ≡ []
unfolding ending_in
ending-behind m n [] none = refl
ending-behind m n _ (more g gs h b) = pick (leb m (g.place + 4227 - 1)) ∙ ending-behind m n gs b
  where
    q : m + n ≤ g.place + 4227 - 1
    q = omega arith

    pick : (s : Bool) → cond (s && ltb (g.place + 4227 - 1) (m + n)) (g ∷ ending_in m n gs) (ending_in m n gs) ≡ ending_in m n gs
    pick true = ap (λ (t : Bool). cond t (g ∷ ending_in m n gs) (ending_in m n gs)) (le-ltb _ _ q)
    pick false = refl

within-append : (lo mid hi : ℕ) (o p : List Given) → lo ≤ mid → mid ≤ hi → Within lo mid o → Within mid hi p → Within lo hi (o ++ p)
within-append lo mid hi [] p h k none v = wider p v
  where
    wider : (p : List Given) → Within mid hi p → Within lo hi p
    wider [] none = none
    wider _ (more g gs a b w) = more g gs (omega arith) b (wider gs w)
within-append lo mid hi _ p h k (more g o a b w) v = more g (o ++ p) a (omega arith) (within-append lo mid hi o p h k w v)

-- what each call hands out is its share of all that is handed out
brings-shares : (lo m : ℕ) (ls : List Lump) (outs : List (List Given)) (past : List Given) → lo ≤ m → Within lo m past → Brings m ls outs
    → outs ≡ shares m ls (past ++ all_handed outs)
unfolding all_handed shares
brings-shares lo m [] [] past h w (none _) = refl
brings-shares lo m _ _ past h w (more _ l ls o outs v b) =
    let n = l.count in
    let A = all_handed outs in
    ap₂ (λ (x : List Given) (y : List (List Given)). x ∷ y)
    (sym (ending-append m n past (o ++ A)
    ∙ ap₂ ◌++◌ (ending-before m n lo m past (omega arith) w)
    (ending-append m n o A ∙ ap₂ ◌++◌ (ending-all m n o v) (ending-behind m n A (brings-behind (m + n) ls outs b)) ∙ append-nil o)))
    (brings-shares lo (m + n) ls outs (past ++ o) (omega arith) (within-append lo m (m + n) past o h (omega arith) w v) b
    ∙ ap (shares (m + n) ls) (append_assoc past o A))

-- ---- calls

-- what a call hands out ends in its lump
handed-within : (x : Receiver) (line lump : List ℕ) (count : ℕ) (room : List ℕ)
    → Within x.heard (x.heard + count) (handed (received_of 0 x (found x line lump count) count) room)
handed-within x line lump count room = pick (gives b count) refl
  where
    b : ℕ
    b = found x line lump count

    f : First (takes x (joined line lump count)) 30 count b
    f = first_is (takes x (joined line lump count)) 30 count

    pick : (t : Bool) → gives b count ≡ t
        → Within x.heard (x.heard + count) (cond (eqb (cond t 1 0) 1) (record { place = cond t (place_on x b) 0; frame = room } ∷ []) [])
    pick false e = none
    pick true e =
        let l = ltb-true b (30 + count) e in
        let t = takes-sound x (joined line lump count) b (f.holds l) in
        more (record { place = place_on x b; frame = room }) [] (omega (arith, t.0, f.from)) (omega (arith, t.0)) none

calls-bring : (x : Receiver) (line : List ℕ) (ls : List Lump) (outs : List (List Given)) → Calls x line ls outs → Brings x.heard ls outs
calls-bring x line [] [] (no_call _ _) = none x.heard
calls-bring x line _ _ (call _ _ l ls room r line' room' outs p z k) =
    let b = found x line l.octets l.count in
    let a : answer (receive_refusals x line l.octets l.count room) ≡ 0 = sym (answer-is _ x b l.count) ∙ sym (ap (λ (t : Got). t.answer) p.returned) ∙ z in
    let e : r ≡ received_of 0 x b l.count = p.returned ∙ ap (λ (n : ℕ). received_of n x b l.count) a in
    more x.heard l ls (handed r room') outs
    (subst (λ (t : Got). Within x.heard (x.heard + l.count) (handed t room')) (sym e) (handed-within x line l.octets l.count room'))
    (subst (λ (n : ℕ). Brings n ls outs) (ap (λ (t : Got). t.next.heard) e) (calls-bring r.next line' ls outs k))

-- IN ITS CALL: of the frames given of the joined bits, each call hands out those whose last bit it brings
pub in_its_call : (end : ℕ) (r : Got) (line : List ℕ) (ls : List Lump) (outs : List (List Given)) (gs : List Given) → StartPromise end r
    → length line ≡ 532 → Calls r.next line ls outs → GivenOf end (joined_bits ls) gs → outs ≡ shares 0 ls gs
in_its_call end r line ls outs gs p l k g =
    brings-shares 0 0 ls outs [] (omega arith) none
    (subst (λ (n : ℕ). Brings n ls outs) (ap (λ (t : Got). t.next.heard) p) (calls-bring r.next line ls outs k))
    ∙ ap (shares 0 ls) (given-one end (joined_bits ls) 0 (all_handed outs) gs (any-cut end r line ls outs p l k) g)
