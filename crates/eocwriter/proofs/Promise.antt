-- What an answer of 0 says of what was handed in. Assumes nothing.
use mathlib.Core.Path.{◌≡◌}
use mathlib.Core.List.{List}
use Prim.Native.Nat.{ℕ, ◌≤◌, ◌<◌}
use borrow.Author.Tests.{eqb-true, leb-false, ltb-false, not-false}
use lib.Dec.{leb, ltb}
use lib.ListN.{length, drop}
use Rattle.answer.specs.Answer.{answer}
use Rattle.answer.proofs.Laws.{none}
use Rattle.eoc.specs.Message.{addresses, message_numbers, contents_most, form_most}
use Rattle.eoc.specs.Refusals.{write_refusals}

module _ (source destination number : ℕ) (contents room : List ℕ) where
  abbrev told : ℕ
  told = answer (write_refusals source destination number contents room)

  pub write-sound : told ≡ 0
      → (length room ≡ form_most) × (source < addresses) × (destination < addresses) × (number < message_numbers) × (length contents ≤ contents_most)
  write-sound e =
      let l = write_refusals source destination number contents room in
      let a = none 0 _ (drop 1 l) e in
      let b = none 3 (leb addresses source) (drop 2 l) a.1 in
      let c = none 3 (leb addresses destination) (drop 3 l) b.1 in
      let d = none 3 (leb message_numbers number) (drop 4 l) c.1 in
      let f = none 11 (ltb contents_most (length contents)) (drop 5 l) d.1 in
      (eqb-true _ _ (not-false _ a.0), leb-false _ _ b.0, leb-false _ _ c.0, leb-false _ _ d.0, ltb-false _ _ f.0)
