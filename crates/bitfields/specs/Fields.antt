-- For the loop that puts fields one behind the other only; no promise of a public function names this. A window holds bits that are not in memory yet.
use Rattle.std.specs.Prelude.{◌≡◌, ◌⊎◌, List, ℕ, ◌+◌, ◌-◌, ◌*◌, ◌/◌, ◌%◌, ◌^◌, ◌≤◌, ◌<◌}
use Rattle.octets.specs.Bits.{digits_of, laid}
use Rattle.bitfields.specs.declared.Window.{Window}

-- the bits held, and a field of w bits above them
abbrev pub above : Window → ℕ → ℕ → ℕ
above a w v = v % 2 ^ w * 2 ^ a.count + a.held

-- they stay in the window, or the first 64 go to memory
abbrev pub Pushed : List ℕ → Window → ℕ → ℕ → List ℕ → Window → Type 0
Pushed s a w v exit r =
    ((a.count + w < 64) × (exit ≡ s) × (r ≡ record { octet = a.octet; held = above a w v; count = a.count + w }))
    ⊎ ((64 ≤ a.count + w) × (exit ≡ laid s (8 * a.octet) (digits_of 64 (above a w v)))
    × (r ≡ record { octet = a.octet + 8; held = above a w v / 2 ^ 64; count = a.count + w - 64 }))
