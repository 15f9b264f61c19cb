-- Demand 2 of bits off the line: the first sentence holds of every library that keeps our contracts, and the second follows from the first, for libraries
-- of any two makes. Assumes nothing.
use mathlib.Core.Path.{◌≡◌, refl, sym, ap, subst, ◌∙◌}
use mathlib.Core.Bool.{Bool, true, false, cond, not}
use mathlib.Core.Logic.{◌⊎◌, inl, inr}
use mathlib.Core.List.{List, [], ◌∷◌, ◌++◌, reverse, reverse-reverse}
use Prim.Native.Nat.{ℕ, zero, suc, ◌+◌, ◌*◌, ◌≤◌, ◌<◌, ◌^◌}
use native.Mathlib.Nat.{mod-eq_of_lt}
use native.Mathlib.Omega.{arith}
use borrow.Author.Tests.{eq-eqb, le-ltb, ltb-false}
use lib.Dec.{ltb}
use lib.ListN.{length, drop, length-reverse}
use lib.Seq.{take_all}
use Rattle.answer.specs.Answer.{Refusal, answer, held}
use Rattle.answer.proofs.Laws.{none as none-applies, given as held-given, passed}
use Rattle.octets.specs.Bits.{digits_of, value_of}
use Rattle.octets.proofs.Digits.{digits-length, value-digits}
use Rattle.octets.proofs.Laws.{octets-length}
use Rattle.layout.specs.Refusals.{check_refusals}
use Rattle.receiver.specs.Stream.{state_at, frame_at}
use Rattle.receiver.specs.Sent.{sent_bits}
use Rattle.receiver.specs.Given.{Given, GivenOf}
use Rattle.receiver.specs.Promises.{Got, joined, found, gives, place_on, received_of, line_after, room_after}
use Rattle.receiver.specs.Calls.{joined_bits, Calls, none as no_call, call, all_handed, shares}
use Rattle.receiver.specs.declared.Receiver.{Receiver as State}
use Rattle.receiver.proofs.Given.{given-one}
use Rattle.receiver.proofs.Cut.{any-cut}
use Rattle.receiver.proofs.InCall.{in_its_call}
use Rattle.receiver.proofs.Sent.{alone}
use Rattle.host.specs.declared.receiving.Receiver.{Receiver}
use Rattle.host.specs.Receiving.{receiver_in, got_in}
use Rattle.demands.specs.Handed.{Outcome}
use Rattle.demands.specs.HandedLine.{ReceiveCall, GivenPlace, LineRooms}
use Rattle.demands.specs.Library.{Library}
use Rattle.demands.specs.Contracts.{Keeps}
use Rattle.demands.specs.Checks.{receive_checks}
use Rattle.demands.specs.Frames.{Octets}
use Rattle.demands.specs.Receiving.{LumpCall, lumps_of, call_of, outs_of, heard_by, NoneRefused, none, one, AllFit, no_lump, lump_fits, Receives}
use Rattle.demands.proofs.One.{same, receive-answer}

module _ (x : Library) (k : Keeps x) where
  -- what a start gives
  abbrev got : ℕ → Got
  got end =
      got_in (record {
        answer = (x.receive_start end).answer;
        given = (x.receive_start end).numbers.given;
        place = (x.receive_start end).numbers.place;
        state = (x.receive_start end).memory;
      })

  -- calls of the library are calls that keep the promise
  calls : (state : Receiver) (line : List ℕ) (ls : List LumpCall) → NoneRefused x state line ls → Calls (receiver_in state) line (lumps_of ls) (outs_of x state line ls)
  unfolding outs_of
  calls state line [] (none _ _) = no_call (receiver_in state) line
  calls state line _ (one _ _ l ls z n) =
      let c = call_of state line l in
      let r = x.receive c in
      call (receiver_in state) line l.lump (lumps_of ls) l.room
      (got_in (record { answer = r.answer; given = r.numbers.given; place = r.numbers.place; state = r.memory.state })) r.memory.line r.memory.frame
      (outs_of x r.memory.state r.memory.line ls) (k.receive c refl) z (calls r.memory.state r.memory.line ls n)

  given_is : (end : ℕ) (line : List ℕ) (ls : List LumpCall) (gs : List Given) → length line ≡ 532 → NoneRefused x (x.receive_start end).memory line ls
      → GivenOf end (joined_bits (lumps_of ls)) gs → all_handed (heard_by x end line ls) ≡ gs
  given_is end line ls gs l n g =
      given-one end (joined_bits (lumps_of ls)) 0 (all_handed (heard_by x end line ls)) gs
      (any-cut end (got end) line (lumps_of ls) (heard_by x end line ls) (k.receive_start end refl) l (calls (x.receive_start end).memory line ls n)) g

  in-call-is : (end : ℕ) (line : List ℕ) (ls : List LumpCall) (gs : List Given) → length line ≡ 532 → NoneRefused x (x.receive_start end).memory line ls
      → GivenOf end (joined_bits (lumps_of ls)) gs → heard_by x end line ls ≡ shares 0 (lumps_of ls) gs
  in-call-is end line ls gs l n g =
      in_its_call end (got end) line (lumps_of ls) (heard_by x end line ls) gs (k.receive_start end refl) l (calls (x.receive_start end).memory line ls n) g

  -- lumps that fit are taken
  takes_all : (state : Receiver) (line : List ℕ) (ls : List LumpCall) → state.end ≤ 1 → length line ≡ 532 → AllFit state.heard ls → NoneRefused x state line ls
  takes_all state line [] e l (no_lump _) = none state line
  takes_all state line (p ∷ ls) e l (lump_fits _ _ _ a b c d f) =
      one state line p ls (receive-answer x k (call_of state line p) ∙ zero)
      (takes_all r.memory.state r.memory.line ls
      (subst (λ (n : ℕ). n ≤ 1) (sym (ap (λ (g : Got). g.next.end) is)) e)
      (ap length ((k.receive (call_of state line p) refl).line_left ∙ held-given (answer R) line (line_after line lump bits) zero) ∙ octets-length 532 _)
      (subst (λ (n : ℕ). AllFit n ls) (sym (ap (λ (g : Got). g.next.heard) is)) f))
    where
      lump : List ℕ
      lump = p.lump.octets

      bits : ℕ
      bits = p.lump.count

      R : List Refusal
      R = receive_checks (call_of state line p)

      r : Outcome GivenPlace LineRooms
      r = x.receive (call_of state line p)

      zero : answer R ≡ 0
      zero =
          passed 1 (drop 1 R) (le-ltb (8 * length lump) bits a) ∙ passed 1 (drop 2 R) (ap not (eq-eqb _ _ l)) ∙ passed 1 (drop 3 R) (ap not (eq-eqb _ _ c))
          ∙ passed 2 (drop 4 R) (le-ltb 1 state.end e) ∙ passed 4 (drop 5 R) (le-ltb 4096 bits b)
          ∙ passed 4 [] (le-ltb 4294967295 (state.heard + bits) d)

      is : got_in (record { answer = r.answer; given = r.numbers.given; place = r.numbers.place; state = r.memory.state })
          ≡ received_of 0 (receiver_in state) (found (receiver_in state) line lump bits) bits
      is = (k.receive (call_of state line p) refl).returned ∙ ap (λ (n : ℕ). received_of n (receiver_in state) (found (receiver_in state) line lump bits) bits) zero

  -- a call gives one, or nothing and leaves the frame room
  quiet : (c : ReceiveCall) → ((x.receive c).numbers.given ≡ 1)
      ⊎ (((x.receive c).numbers ≡ record { given = 0; place = 0 }) × ((x.receive c).memory.frame ≡ c.frame))
  quiet c = pick (answer (receive_checks c)) (ap numbers_of (k.receive c refl).returned) (k.receive c refl).room_left
    where
      s : State
      s = receiver_in c.state

      b : ℕ
      b = found s c.line c.lump c.bits

      J : List ℕ
      J = joined c.line c.lump c.bits

      numbers_of : Got → GivenPlace
      numbers_of g = record { given = g.given; place = g.place }

      Either : Type 0
      Either = ((x.receive c).numbers.given ≡ 1) ⊎ (((x.receive c).numbers ≡ record { given = 0; place = 0 }) × ((x.receive c).memory.frame ≡ c.frame))

      pick : (n : ℕ) → (x.receive c).numbers ≡ record { given = (received_of n s b c.bits).given; place = (received_of n s b c.bits).place }
          → (x.receive c).memory.frame ≡ held n c.frame (room_after s.end J b c.bits c.frame) → Either
      pick (suc n) e f = inr (e, f)
      pick zero e f = by (gives b c.bits) e f
        where
          by : (t : Bool) → (x.receive c).numbers ≡ record { given = cond t 1 0; place = cond t (place_on s b) 0 }
              → (x.receive c).memory.frame ≡ cond t (frame_at s.end J b) c.frame → Either
          by true u v = inl (ap (λ (p : GivenPlace). p.given) u)
          by false u v = inr (u, v)

  pub receives : Receives x
  receives =
      record {
        started = λ end h.
            same (ap (λ (g : Got). g.answer) (k.receive_start end refl) ∙ h)
            (ap (λ (g : Got). record { given = g.given; place = g.place }) (k.receive_start end refl))
            (ap (λ (g : Got). record { end = g.next.end; heard = g.next.heard; from = g.next.from }) (k.receive_start end refl));
        taken = λ end line ls h l f.
            takes_all (x.receive_start end).memory line ls
            (subst (λ (n : ℕ). n ≤ 1) (sym (ap (λ (g : Got). g.next.end) (k.receive_start end refl))) (ltb-false 1 end (none-applies 1 (ltb 1 end) [] h).0)) l
            (subst (λ (n : ℕ). AllFit n ls) (sym (ap (λ (g : Got). g.next.heard) (k.receive_start end refl))) f);
        given = λ end line ls gs h l n g. given_is end line ls gs l n g;
        in_its_call = λ end line ls gs h l n g. in-call-is end line ls gs l n g;
        quiet = quiet;
      }

-- ---- the second

-- the state that the sender's last 23 bits hold
last-state : (state : ℕ) → state < 2 ^ 23 → state_at (reverse (digits_of 23 state)) (length (reverse (digits_of 23 state))) ≡ state
last-state state h =
    let D = digits_of 23 state in
    let l : length (reverse D) ≡ 23 = length-reverse D ∙ digits-length 23 state in
    ap (λ (n : ℕ). state_at (reverse D) n) l ∙ ap (λ (t : List ℕ). value_of (reverse t)) (take_all 23 (reverse D) (omega (arith, l)))
    ∙ ap value_of (reverse-reverse D) ∙ value-digits 23 state ∙ mod-eq_of_lt h

-- what y gives of a frame that was sent by the definitions
pub one-frame-given : (y : Library) → Receives y → (end state : ℕ) (frame line : List ℕ) (ls : List LumpCall) → end ≤ 1 → state < 2 ^ 23
    → Octets frame → answer (check_refusals frame) ≡ 0 → length line ≡ 532
    → joined_bits (lumps_of ls) ≡ reverse (digits_of 23 state) ++ sent_bits (record { end = end; state = state }) frame
    → NoneRefused y (y.receive_start end).memory line ls
    → all_handed (heard_by y end line ls) ≡ record { place = 23; frame = frame } ∷ []
one-frame-given y ry end state frame line ls e h o c l j n =
    let D = reverse (digits_of 23 state) in
    ry.given end line ls (record { place = 23; frame = frame } ∷ []) (passed 2 [] (le-ltb 1 end e)) l n
    (subst (λ (b : List ℕ). GivenOf end b (record { place = 23; frame = frame } ∷ [])) (sym j)
    (alone (record { end = end; state = state }) frame o c D (length-reverse (digits_of 23 state) ∙ digits-length 23 state) (last-state state h)))
