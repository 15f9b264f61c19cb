-- For the loops of a run only, which take many bits at once; no promise of a public function names this. A window is a state turned, the oldest of its
-- 23 bits at weight 1, so that the bits of the line run on from it.
use Rattle.std.specs.Prelude.{◌≡◌, List, reverse, ℕ, ◌+◌, ◌*◌, ◌/◌, ◌^◌, ◌<◌}
use Rattle.octets.specs.Bits.{digits_of, value_of, laid}
use Rattle.recurrence.specs.Run.{on_line, run_of, after_of}
use Rattle.recurrence.specs.declared.Way.{Way}

-- the state that a window stands for
abbrev pub state_of : ℕ → ℕ
state_of window = value_of (reverse (digits_of 23 window))

-- r is what comes out for the n low digits of f, and the window after them is read off what is on the line
abbrev pub Out : Way → ℕ → ℕ → ℕ → ℕ → ℕ → Type 0
Out way tap window n f r =
    (digits_of n r ≡ run_of way tap (state_of window) (digits_of n f))
    × (state_of ((on_line way f r * 2 ^ 23 + window) / 2 ^ n) ≡ after_of way tap (state_of window) (digits_of n f))

-- bits are run into the places from `at` on, and r is the window after them
abbrev pub Gone : Way → ℕ → ℕ → List ℕ → List ℕ → ℕ → ℕ → List ℕ → Type 0
Gone way tap window bits output at r exit =
    (r < 2 ^ 23) × (state_of r ≡ after_of way tap (state_of window) bits) × (exit ≡ laid output at (run_of way tap (state_of window) bits))
