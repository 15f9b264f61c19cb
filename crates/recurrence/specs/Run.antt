-- The same, computed bit by bit (theorems `run-scrambles` and `scrambles-run`: it is the recurrence of Line.antt, and nothing else is).
use Rattle.std.specs.Prelude.{List, [], ◌∷◌, ℕ, ◌+◌, ◌-◌, ◌*◌, ◌/◌, ◌%◌, ◌^◌}
use Rattle.recurrence.specs.Line.{sum3}
use Rattle.recurrence.specs.declared.Way.{Way}
use Rattle.recurrence.specs.declared.Way.TheVariants.{Scramble as scramble, Descramble as descramble}

-- the bit that comes out for a bit b: b and the two bits of the line that lie tap and 23 back
abbrev pub out_of : ℕ → ℕ → ℕ → ℕ
out_of tap state b = sum3 b (state / 2 ^ (tap - 1) % 2) (state / 2 ^ 22 % 2)

-- which of the two is on the line: the scrambled one, so what comes out when scrambling and what comes in when descrambling
abbrev pub on_line : Way → ℕ → ℕ → ℕ
on_line scramble b out = out
on_line descramble b out = b

-- the state with one more bit of the line, the newest at weight 1
abbrev pub pushed : ℕ → ℕ → ℕ
pushed state s = (state * 2 + s) % 2 ^ 23

-- the state after one bit
abbrev pub next_of : Way → ℕ → ℕ → ℕ → ℕ
next_of way tap state b = pushed state (on_line way b (out_of tap state b))

-- what comes out for bits
unfoldable pub run_of : Way → ℕ → ℕ → List ℕ → List ℕ
run_of way tap state [] = []
run_of way tap state (b ∷ bs) = out_of tap state b ∷ run_of way tap (next_of way tap state b) bs

-- the state after them
unfoldable pub after_of : Way → ℕ → ℕ → List ℕ → ℕ
after_of way tap state [] = state
after_of way tap state (b ∷ bs) = after_of way tap (next_of way tap state b) bs
