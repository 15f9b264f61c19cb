-- LIBRARIES WITH WRONG RECEIVERS, which have to be rejected by demand 2 as those of WrongLibraries.antt: what such a one does, over lumps from a start of
-- which none is refused, or over calls that are answered.
use Rattle.std.specs.Prelude.{◌≡◌, List, [], ℕ, ◌≤◌, length}
use Rattle.receiver.specs.Calls.{all_handed}
use Rattle.demands.specs.Library.{Library}
use Rattle.demands.specs.WrongLibraries.{Refuses, Unwritten}
use Rattle.demands.specs.Receiving.{LumpCall, heard_by, NoneRefused}

-- a receiver that never gives
abbrev pub NeverGives : Library → Type 0
NeverGives x = (end : ℕ) (line : List ℕ) (ls : List LumpCall) → NoneRefused x (x.receive_start end).memory line ls
    → all_handed (heard_by x end line ls) ≡ []

-- one that gives nothing behind the first
abbrev pub FirstOnly : Library → Type 0
FirstOnly x = (end : ℕ) (line : List ℕ) (ls : List LumpCall) → NoneRefused x (x.receive_start end).memory line ls
    → length (all_handed (heard_by x end line ls)) ≤ 1

-- one that leaves the frame room unwritten
abbrev pub RoomUnwritten : Library → Type 0
RoomUnwritten x = Unwritten x.receive (λ m. m.frame) (λ c. c.frame)

-- a library is none of these (theorem `receivers-rejected`: none that receives as `Receives` says is)
pub record RejectedReceivers (x : Library) : Type 0 where
  -- by its sentence `started`
  pub refuses_starts : Refuses x.receive_start → ⊥
  -- `taken`
  pub refuses_lumps : Refuses x.receive → ⊥
  -- `given`
  pub never_gives : NeverGives x → ⊥
  pub first_only : FirstOnly x → ⊥
  pub room_unwritten : RoomUnwritten x → ⊥
