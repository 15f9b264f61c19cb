-- `remainder::after_word` meets its contract: turned twice is as before.
use mathlib.Core.Path.{ap, ◌∙◌}
use lib.Dec.{lit≤}
use Rattle.octets.specs.Bits.{digits_of}
use Rattle.octets.proofs.Digits.{digits-bits}
use Rattle.octets.proofs.Turn.{turn_of, turn-turn}
use Rattle.remainder.specs.Division.{generator}
use Rattle.remainder.specs.Register.{register_of}
use Rattle.remainder.proofs.Division.{exists, unique}
use Rattle.remainder.proofs.Errors.{generator-degree}
use Rattle.remainder.proofs.after_word.Goals as goal

pub returns : goal.returns
returns c =
    let w = c.word_left.ensures in
    let x = c.args.x in
    let D = digits_of 64 x in
    c.turned.ensures ∙ ap (turn_of 16) w.turned ∙ turn-turn 16 w.left w.divided.below
    ∙ unique 16 generator generator-degree D w.left (register_of 16 generator 0 D) w.divided
    (exists 16 generator (lit≤ tt) generator-degree D (digits-bits 64 x))
