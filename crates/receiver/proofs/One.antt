-- One result per call, and the order of the checks. Assumes nothing.
use mathlib.Core.Path.{◌≡◌, refl, sym, ap, ◌∙◌}
use mathlib.Core.Bool.{true}
use mathlib.Core.List.{List}
use Prim.Native.Nat.{ℕ}
use native.Mathlib.Omega.{arith}
use Rattle.std.specs.Prelude.{Option, None, Some, Result, Ok, Err}
use Rattle.answer.specs.Answer.{in_order}
use Rattle.answer.specs.declared.Refused.{Refused}
use Rattle.answer.proofs.Given.{number-one, refused-number}
use Rattle.receiver.specs.Promises.{Got, started, got, given_of, place_of_given, StartPromise, receive_refusals, ReceivePromise}
use Rattle.receiver.specs.declared.Receiver.{Receiver}
use Rattle.receiver.specs.declared.Received.{Received}

-- what a start gives is one where what it comes to is one
started-one : (end : ℕ) (r r' : Result Receiver Refused) → started end r ≡ started end r' → r ≡ r'
started-one end (Ok x) (Ok y) e = ap (λ (g : Got). Ok g.next) e
started-one end (Ok x) (Err b) e = let n = refused-number b in absurd (omega (arith, ap (λ (g : Got). g.answer) e))
started-one end (Err a) (Ok y) e = let n = refused-number a in absurd (omega (arith, ap (λ (g : Got). g.answer) e))
started-one end (Err a) (Err b) e = ap Err (number-one a b (ap (λ (g : Got). g.answer) e))

-- a place that may be given is one by its flag and its place
place-one : (p q : Option ℕ) → given_of p ≡ given_of q → place_of_given p ≡ place_of_given q → p ≡ q
place-one None None e f = refl
place-one None (Some q) e f = absurd (omega (arith, e))
place-one (Some p) None e f = absurd (omega (arith, e))
place-one (Some p) (Some q) e f = ap Some f

-- and so is what a call gives
got-one : (x : Receiver) (r r' : Result Received Refused) → got x r ≡ got x r' → r ≡ r'
got-one x (Ok r) (Ok s) e =
    let p = place-one r.place s.place (ap (λ (g : Got). g.given) e) (ap (λ (g : Got). g.place) e) in
    λ i. Ok (record { place = p i; next = (e i).next })
got-one x (Ok r) (Err b) e = let n = refused-number b in absurd (omega (arith, ap (λ (g : Got). g.answer) e))
got-one x (Err a) (Ok s) e = let n = refused-number a in absurd (omega (arith, ap (λ (g : Got). g.answer) e))
got-one x (Err a) (Err b) e = ap Err (number-one a b (ap (λ (g : Got). g.answer) e))

pub start-one : (end : ℕ) (r r' : Result Receiver Refused) → StartPromise end (started end r) → StartPromise end (started end r') → r ≡ r'
start-one end r r' p q = started-one end r r' (p ∙ sym q)

module _ (x : Receiver) (line lump : List ℕ) (count : ℕ) (frame : List ℕ) where
  -- as C has it
  pub received-one : (r r' : Got) (t t' u u' : List ℕ) → ReceivePromise x line lump count frame r t u → ReceivePromise x line lump count frame r' t' u'
      → (r ≡ r') × (t ≡ t') × (u ≡ u')
  received-one r r' t t' u u' p q = (p.returned ∙ sym q.returned, p.line_left ∙ sym q.line_left, p.room_left ∙ sym q.room_left)

  pub receive-one : (r r' : Result Received Refused) (t t' u u' : List ℕ) → ReceivePromise x line lump count frame (got x r) t u
      → ReceivePromise x line lump count frame (got x r') t' u' → (r ≡ r') × (t ≡ t') × (u ≡ u')
  receive-one r r' t t' u u' p q = let e = received-one (got x r) (got x r') t t' u u' p q in (got-one x r r' e.0, e.1, e.2)

  pub receive-order : in_order 1 (receive_refusals x line lump count frame) ≡ true
  unfolding in_order
  receive-order = refl
