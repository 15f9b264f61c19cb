-- The bits on the line (SCOPE, "Scrambler"; 002, clause 7.1.6): s(n) = f(n) xor s(n-tap) xor s(n-23). A state holds the last 23 scrambled bits, the
-- newest at weight 1. Stated by place over the whole stream, for every n.
use Rattle.std.specs.Prelude.{◌≡◌, List, ◌++◌, reverse, ℕ, ◌+◌, ◌-◌, ◌%◌, ◌<◌, length, get_or, take}
use Rattle.octets.specs.Bits.{digits_of, value_of}

-- the exclusive or of three bits
abbrev pub sum3 : ℕ → ℕ → ℕ → ℕ
sum3 a b c = (a + b + c) % 2

-- the scrambled bits on the line, the oldest first: the 23 that the state holds, then s. So s(n) stands at place 23 + n
abbrev pub line : ℕ → List ℕ → List ℕ
line state s = reverse (digits_of 23 state) ++ s

-- s is f scrambled, from a state on: s(n) = f(n) xor s(n-tap) xor s(n-23), for every n
pub record Scrambles (tap state : ℕ) (f s : List ℕ) : Type 0 where
  pub size : length s ≡ length f
  pub rule : (n : ℕ) → n < length f → get_or s n 0 ≡ sum3 (get_or f n 0) (get_or (line state s) (23 + n - tap) 0) (get_or (line state s) n 0)

-- f is s descrambled: f(n) = s(n) xor s(n-tap) xor s(n-23), over the received bits s
pub record Descrambles (tap state : ℕ) (s f : List ℕ) : Type 0 where
  pub size : length f ≡ length s
  pub rule : (n : ℕ) → n < length s → get_or f n 0 ≡ sum3 (get_or s n 0) (get_or (line state s) (23 + n - tap) 0) (get_or (line state s) n 0)

-- the state after the scrambled bits s: the last 23 on the line, the newest at weight 1
abbrev pub newest : ℕ → List ℕ → ℕ
newest state s = value_of (take 23 (reverse (line state s)))
