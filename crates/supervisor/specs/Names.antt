-- The phases of both ends by number, in the order of a start-up. src/phase.rt has the same names.
use Rattle.std.specs.Prelude.{ℕ}

-- either end: waits for a 1
abbrev pub Ready : ℕ
Ready = 0

-- NTU: before the attempt
abbrev pub Gap : ℕ
Gap = 1

-- LTU: before the attempt
abbrev pub Await : ℕ
Await = 2

-- NTU: C_r, which opens the attempt
abbrev pub Cr : ℕ
Cr = 3

-- LTU: opens the attempt
abbrev pub Hearing : ℕ
Hearing = 4

-- either end, with a limit of its own
abbrev pub Quiet : ℕ
Quiet = 5

-- LTU: S_c
abbrev pub Sc : ℕ
Sc = 6

-- NTU: S_r
abbrev pub Sr : ℕ
Sr = 7

-- LTU: T_c
abbrev pub Tc : ℕ
Tc = 8

-- NTU: T_r, the attempt's last
abbrev pub Tr : ℕ
Tr = 9

-- LTU: F_c, the attempt's last
abbrev pub Fc : ℕ
Fc = 10

-- either end: data mode
abbrev pub Settling : ℕ
Settling = 11

-- either end
abbrev pub Valid : ℕ
Valid = 12

-- either end: silent
abbrev pub Exception : ℕ
Exception = 13
