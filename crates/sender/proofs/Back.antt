-- What is sent, descrambled with the sender's end and state, is the frame of the fields, with the sender's next state. Assumes nothing.
use mathlib.Core.Path.{◌≡◌}
use mathlib.Core.List.{List}
use Prim.Native.Nat.{ℕ}
use lib.IntN.{ℤ}
use Rattle.answer.specs.Answer.{answer}
use Rattle.octets.proofs.Laws.{octets-length}
use Rattle.recurrence.specs.Run.{after_of}
use Rattle.recurrence.specs.declared.Way.TheVariants.{Scramble as scramble, Descramble as descramble}
use Rattle.scrambler.specs.Ends.{tap_of}
use Rattle.scrambler.specs.Promises.{clocked, frame_out}
use Rattle.scrambler.specs.declared.Scrambler.{Scrambler}
use Rattle.scrambler.proofs.Frames.{frame_back, frame-state-back}
use Rattle.sender.specs.Promises.{frame_octets, send_refusals}
use Rattle.sender.proofs.Promise.{frame_small, pad-clear}
use Rattle.sender.proofs.Sent.{neither}

module _ (x : Scrambler) (kind count : ℕ) (cs : List ℤ) (a b : ℕ) (vendor frame : List ℕ) (z : answer (send_refusals x kind count cs a b vendor frame) ≡ 0) where
  abbrev F : List ℕ
  F = frame_octets kind count cs a b vendor

  pub sent_back : (frame_out descramble x (frame_out scramble x F) ≡ F)
      × (after_of descramble (tap_of x.end) x.state (clocked (frame_out scramble x F)) ≡ after_of scramble (tap_of x.end) x.state (clocked F))
  sent_back =
      let w = (neither x kind count cs a b vendor frame z).0 in
      let o = frame_small kind count cs a b vendor frame w in
      let p = pad-clear kind count cs a b vendor frame w in
      (frame_back x F (octets-length 529 _) o p, frame-state-back x F (octets-length 529 _) o p)
