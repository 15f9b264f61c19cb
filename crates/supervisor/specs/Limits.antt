-- The numbers of the start-up supervisor (SCOPE; 000, clauses 4.1.2 and 4.1.8), in ticks of one millisecond. Each stands here alone; src/lib.rt has the same.
use Rattle.std.specs.Prelude.{ℕ}

-- NTU: how long Gap lasts
abbrev pub gap_ticks : ℕ
gap_ticks = 300

-- NTU: C_r
abbrev pub cr_ticks : ℕ
cr_ticks = 1000

-- NTU: Quiet
abbrev pub ntu_quiet_ticks : ℕ
ntu_quiet_ticks = 1500

-- LTU: Quiet
abbrev pub ltu_quiet_ticks : ℕ
ltu_quiet_ticks = 500

-- LTU: S_c, at least
abbrev pub sc_ticks : ℕ
sc_ticks = 5000

-- either end: Settling
abbrev pub settling_ticks : ℕ
settling_ticks = 1000

-- the tick since its opening that ends an attempt
abbrev pub attempt_ticks : ℕ
attempt_ticks = 15000

-- the most that an attempt's ticks are in a legal state
abbrev pub most_attempt : ℕ
most_attempt = 14999

-- phase ticks stay here once there
abbrev pub most_ticks : ℕ
most_ticks = 59999

-- the silence that 0 stands for
abbrev pub default_silence : ℕ
default_silence = 5000

-- the shortest silence that is taken
abbrev pub shortest_silence : ℕ
shortest_silence = 2000

-- and the longest
abbrev pub longest_silence : ℕ
longest_silence = 60000
