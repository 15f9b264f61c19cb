-- The libraries with wrong receivers, built: ours with one other function, which meet demand 1. Assumes nothing.
use mathlib.Core.Path.{◌≡◌, refl, sym, ap, ap₂, ◌∙◌}
use mathlib.Core.Bool.{Bool, true, false, cond}
use mathlib.Core.List.{List, [], ◌∷◌, ◌++◌}
use Prim.Native.Nat.{ℕ, zero, suc, ◌+◌, ◌≤◌}
use native.Mathlib.Omega.{arith}
use borrow.Author.Tests.{eqb-true, ne_eqb}
use lib.Dec.{eqb}
use lib.ListN.{length}
use Rattle.answer.specs.Answer.{answer, held}
use Rattle.answer.proofs.Laws.{kept}
use Rattle.receiver.specs.Given.{Given}
use Rattle.receiver.specs.Promises.{found, gives, place_on, received_of, line_after}
use Rattle.receiver.specs.Calls.{all_handed}
use Rattle.receiver.specs.declared.Receiver.{Receiver as State}
use Rattle.host.specs.declared.receiving.Receiver.{Receiver}
use Rattle.host.specs.Receiving.{receiver_in}
use Rattle.demands.specs.Handed.{Outcome}
use Rattle.demands.specs.HandedLine.{ReceiveCall, GivenPlace, LineRooms}
use Rattle.demands.specs.Library.{Library}
use Rattle.demands.specs.One.{Answers, One}
use Rattle.demands.specs.Checks.{receive_checks}
use Rattle.demands.specs.Receiving.{LumpCall, call_of, outs_of}
use Rattle.demands.specs.WrongReceivers.{NeverGives, FirstOnly, RoomUnwritten}
use Rattle.demands.specs.NoStrawMan.{Built}
use Rattle.demands.proofs.One.{answers, ordered}
use Rattle.demands.proofs.LineOurs.{receives-lump}
use Rattle.demands.proofs.Ours.{ours}
use Rattle.demands.proofs.Rebuilt.{ours-one, Parts, rebuilt, rebuilt-one, usual, usual-answer}

-- what is handed in
abbrev held_in : ReceiveCall → LineRooms
held_in c = record { state = c.state; line = c.line; frame = c.frame }

abbrev nothing : GivenPlace
nothing = record { given = 0; place = 0 }

abbrev ReceiveAnswers : (ReceiveCall → Outcome GivenPlace LineRooms) → Type 0
ReceiveAnswers f = Answers f receive_checks held_in nothing

abbrev with_receive : (ReceiveCall → Outcome GivenPlace LineRooms) → Parts
with_receive f = record {
  send = usual.send;
  read = usual.read;
  data_write = usual.data_write;
  data_read = usual.data_read;
  eoc = usual.eoc;
  receive = f;
  run = usual.run;
  descramble_frame = usual.descramble_frame;
  encode_run = usual.encode_run;
  history_start = usual.history_start;
  precode = usual.precode;
  decode = usual.decode;
  step = usual.step;
}

receive-one : (f : ReceiveCall → Outcome GivenPlace LineRooms) → ReceiveAnswers f → One (rebuilt (with_receive f))
receive-one f a = rebuilt-one (with_receive f) (record {
  send = usual-answer.send;
  read = usual-answer.read;
  data_write = usual-answer.data_write;
  data_read = usual-answer.data_read;
  eoc = usual-answer.eoc;
  receive = a;
  run = usual-answer.run;
  descramble_frame = usual-answer.descramble_frame;
  encode_run = usual-answer.encode_run;
  history_start = usual-answer.history_start;
  precode = usual-answer.precode;
  decode = usual-answer.decode;
  step = usual-answer.step;
})

-- ---- it never gives: bits are counted and kept, and that is all

abbrev counted : ReceiveCall → LineRooms
counted c =
    record {
      state = record { end = c.state.end; heard = c.state.heard + c.bits; from = c.state.from };
      line = line_after c.line c.lump c.bits;
      frame = c.frame;
    }

abbrev only-counts : ReceiveCall → Outcome GivenPlace LineRooms
only-counts c = let n = answer (receive_checks c) in record { answer = n; numbers = nothing; memory = held n (held_in c) (counted c) }

counts-answer : ReceiveAnswers only-counts
counts-answer = answers ordered.receive (λ c. refl) (λ c h. refl) (λ c h. kept (answer (receive_checks c)) (held_in c) (counted c) h)

abbrev N : Library
N = rebuilt (with_receive only-counts)

never-handed : (state : Receiver) (line : List ℕ) (ls : List LumpCall) → all_handed (outs_of N state line ls) ≡ []
unfolding outs_of all_handed
never-handed state line [] = refl
never-handed state line (l ∷ ls) =
    let r = only-counts (call_of state line l) in
    never-handed r.memory.state r.memory.line ls

pub never-gives-built : Built NeverGives
never-gives-built = (N, receive-one only-counts counts-answer, λ end line ls n. never-handed (N.receive_start end).memory line ls)

-- ---- it does not write the frame room

abbrev idle : ReceiveCall → Outcome GivenPlace LineRooms
idle c =
    let r = ours.receive c in
    record { answer = r.answer; numbers = r.numbers; memory = record { state = r.memory.state; line = r.memory.line; frame = c.frame } }

pub room-built : Built RoomUnwritten
room-built = (
  rebuilt (with_receive idle),
  receive-one idle (answers ordered.receive ours-one.receive.first ours-one.receive.no_numbers
      (λ c h. let e = ours-one.receive.unchanged c h in λ i. record { state = (e i).state; line = (e i).line; frame = c.frame })),
  λ c h. refl,
)

-- ---- it gives the first only: where the place to go on from is not 0, it has given one, and only counts

by : Bool → ReceiveCall → Outcome GivenPlace LineRooms
by true c = ours.receive c
by false c = only-counts c

abbrev once : ReceiveCall → Outcome GivenPlace LineRooms
once c = by (eqb c.state.from 0) c

once-answer : ReceiveAnswers once
unfolding by
once-answer =
    answers ordered.receive (λ c. first (eqb c.state.from 0) c) (λ c. numbers (eqb c.state.from 0) c) (λ c. memory (eqb c.state.from 0) c)
  where
    first : (t : Bool) (c : ReceiveCall) → (by t c).answer ≡ answer (receive_checks c)
    first true c = ours-one.receive.first c
    first false c = refl

    numbers : (t : Bool) (c : ReceiveCall) → ((by t c).answer ≡ 0 → ⊥) → (by t c).numbers ≡ nothing
    numbers true c h = ours-one.receive.no_numbers c h
    numbers false c h = refl

    memory : (t : Bool) (c : ReceiveCall) → ((by t c).answer ≡ 0 → ⊥) → (by t c).memory ≡ held_in c
    memory true c h = ours-one.receive.unchanged c h
    memory false c h = kept (answer (receive_checks c)) (held_in c) (counted c) h

abbrev O : Library
O = rebuilt (with_receive once)

-- what a call hands out
abbrev out : Outcome GivenPlace LineRooms → List Given
out r = cond (eqb r.numbers.given 1) (record { place = r.numbers.place; frame = r.memory.frame } ∷ []) []

-- counting keeps the place to go on from
same_from : (c : ReceiveCall) → (only-counts c).memory.state.from ≡ c.state.from
same_from c = pick (answer (receive_checks c))
  where
    pick : (n : ℕ) → (held n (held_in c) (counted c)).state.from ≡ c.state.from
    pick zero = refl
    pick (suc n) = refl

-- one that has given gives no more
no_more : (state : Receiver) (line : List ℕ) (ls : List LumpCall) → (state.from ≡ 0 → ⊥) → all_handed (outs_of O state line ls) ≡ []
unfolding outs_of all_handed by
no_more state line [] h = refl
no_more state line (l ∷ ls) h =
    let c = call_of state line l in
    let e : once c ≡ only-counts c = ap (λ (t : Bool). by t c) (ne_eqb state.from 0 h) in
    ap₂ ◌++◌ (ap out e)
    (ap (λ (r : Outcome GivenPlace LineRooms). all_handed (outs_of O r.memory.state r.memory.line ls)) e
    ∙ no_more (only-counts c).memory.state (only-counts c).memory.line ls (λ z. h (sym (same_from c) ∙ z)))

-- a call that gives goes on behind the frame, so not from 0
gave : (c : ReceiveCall) → (receives-lump c).numbers.given ≡ 1 → (receives-lump c).memory.state.from ≡ 0 → ⊥
gave c = pick (answer (receive_checks c))
  where
    x : State
    x = receiver_in c.state

    b : ℕ
    b = found x c.line c.lump c.bits

    pick : (n : ℕ) → (received_of n x b c.bits).given ≡ 1 → (received_of n x b c.bits).next.from ≡ 0 → ⊥
    pick (suc n) e z = absurd (omega (arith, e))
    pick zero e z = at (gives b c.bits) e z
      where
        at : (t : Bool) → cond {A = ℕ} t 1 0 ≡ 1 → cond t (place_on x b + 4227) x.from ≡ 0 → ⊥
        at true f w = absurd (omega (arith, w))
        at false f w = absurd (omega (arith, f))

-- what it gave stands behind 0
goes_on : (t : Bool) (c : ReceiveCall) → (by t c).numbers.given ≡ 1 → (by t c).memory.state.from ≡ 0 → ⊥
unfolding by ours
goes_on true c e z = gave c e z
goes_on false c e z = absurd (omega (arith, e))

at_most_one : (state : Receiver) (line : List ℕ) (ls : List LumpCall) → length (all_handed (outs_of O state line ls)) ≤ 1
unfolding outs_of all_handed
at_most_one state line [] = omega arith
at_most_one state line (l ∷ ls) = pick (eqb r.numbers.given 1) refl (at_most_one r.memory.state r.memory.line ls)
  where
    c : ReceiveCall
    c = call_of state line l

    r : Outcome GivenPlace LineRooms
    r = once c

    rest : List Given
    rest = all_handed (outs_of O r.memory.state r.memory.line ls)

    G : Given
    G = record { place = r.numbers.place; frame = r.memory.frame }

    pick : (t : Bool) → eqb r.numbers.given 1 ≡ t → length rest ≤ 1 → length (cond t (G ∷ []) [] ++ rest) ≤ 1
    pick false e h = h
    pick true e h = omega (arith, ap length (no_more r.memory.state r.memory.line ls (goes_on (eqb state.from 0) c (eqb-true _ _ e))))

pub first-only-built : Built FirstOnly
first-only-built = (O, receive-one once once-answer, λ end line ls n. at_most_one (O.receive_start end).memory line ls)
