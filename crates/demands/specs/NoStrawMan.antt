-- NO STRAW MAN: each version that has to be rejected can be built so that it meets demand 1 (theorem `no-straw-man`: ours with one function changed);
-- refusing everything, or a frame for its reserved bits, cannot meet "None is given otherwise", and is built to meet the rest.
use Rattle.std.specs.Prelude.{◌≡◌, true}
use Rattle.answer.specs.Table.{in_table}
use Rattle.recurrence.specs.declared.Way.{Way}
use Rattle.demands.specs.Handed.{Outcome, ReadCall, Fields, Rooms}
use Rattle.demands.specs.Library.{Library}
use Rattle.demands.specs.One.{One}
use Rattle.demands.specs.Three.{supervisor}
use Rattle.demands.specs.WrongLibraries.{Refuses, OneFrame, SendsPlain, PlainOnce, StateKept, FrameUnwritten, CoefficientsUnwritten}
use Rattle.demands.specs.WrongLibraries.{VendorUnwritten, RunUnwritten, WholeUnwritten}
use Rattle.demands.specs.WrongLibraries.{HistoryUnwritten, CodesUnwritten, PrecodedUnwritten, DecodedUnwritten, CopiesTheRest, TurnsA, TurnsB}
use Rattle.demands.specs.WrongData.{OneDataFrame, DataFrameUnwritten, PayloadUnwritten, OwnSix}
use Rattle.demands.specs.WrongMessages.{OneForm, FormUnwritten, ContentsUnwritten, HandsAll, HandsNothing}
use Rattle.demands.specs.WrongReceivers.{NeverGives, FirstOnly, RoomUnwritten}
use Rattle.demands.specs.WrongReserved.{TurnsAway, ElseAsDue, HandsZeros, ReservedUnwritten}
use Rattle.demands.specs.WrongSupervisors.{MovesOnce, NeverOpens, CallsException, SameTicks, CountsCodes, GivesUp, EndsTooLate}

-- such a version that meets demand 1
abbrev pub Built : (Library → Type 0) → Type 0
Built P = (x : Library) × One x × P x

-- demand 1 but for "None is given otherwise", which already rules out refusing everything
pub record OtherwiseAnswers {C N M : Type 0} (f : C → Outcome N M) (before : C → M) (nothing : N) : Type 0 where
  pub in_the_table : (c : C) → in_table (f c).answer ≡ true
  pub no_numbers : (c : C) → ((f c).answer ≡ 0 → ⊥) → (f c).numbers ≡ nothing
  pub unchanged : (c : C) → ((f c).answer ≡ 0 → ⊥) → (f c).memory ≡ before c

-- each version has been built
pub record NoStrawMan : Type 1 where
  pub refuses : {C N M : Type 0} (before : C → M) (nothing : N) → (f : C → Outcome N M) × Refuses f × OtherwiseAnswers f before nothing
  pub one_frame : Built OneFrame
  pub sends_plain : Built SendsPlain
  pub plain_once : Built PlainOnce
  pub state_kept : Built StateKept
  pub frame_unwritten : Built FrameUnwritten
  pub coefficients_unwritten : Built CoefficientsUnwritten
  pub vendor_unwritten : Built VendorUnwritten
  pub run_unwritten : (way : Way) → Built (RunUnwritten way)
  pub whole_unwritten : Built WholeUnwritten
  pub history_unwritten : Built HistoryUnwritten
  pub codes_unwritten : Built CodesUnwritten
  pub precoded_unwritten : Built PrecodedUnwritten
  pub decoded_unwritten : Built DecodedUnwritten
  pub copies_the_rest : Built CopiesTheRest
  pub turns_a : Built TurnsA
  pub turns_b : Built TurnsB
  -- this one too cannot meet "None is given otherwise", but only where a reserved bit is set
  pub turns_away : (f : ReadCall → Outcome Fields Rooms) × TurnsAway f × ElseAsDue f
      × OtherwiseAnswers f (λ c. record { coefficients = c.coefficients; vendor = c.vendor; reserved = c.reserved }) (record { kind = 0; a = 0; b = 0 })
  pub hands_zeros : Built HandsZeros
  pub reserved_unwritten : Built ReservedUnwritten
  pub one_data_frame : Built OneDataFrame
  pub data_frame_unwritten : Built DataFrameUnwritten
  pub payload_unwritten : Built PayloadUnwritten
  pub own_six : Built OwnSix
  pub one_form : Built OneForm
  pub form_unwritten : Built FormUnwritten
  pub contents_unwritten : Built ContentsUnwritten
  pub hands_all : Built HandsAll
  pub hands_nothing : Built HandsNothing
  pub never_gives : Built NeverGives
  pub first_only : Built FirstOnly
  pub room_unwritten : Built RoomUnwritten
  pub moves_once : Built (λ x. MovesOnce (supervisor x))
  pub never_opens : Built (λ x. NeverOpens (supervisor x))
  pub calls_exception : Built (λ x. CallsException (supervisor x))
  pub same_ticks : Built (λ x. SameTicks (supervisor x))
  pub counts_codes : Built (λ x. CountsCodes (supervisor x))
  pub gives_up : Built (λ x. GivesUp (supervisor x))
  pub ends_too_late : Built (λ x. EndsTooLate (supervisor x))
