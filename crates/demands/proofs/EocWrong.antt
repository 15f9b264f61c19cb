-- The libraries with wrong operations channel messages, built: ours with one other function, which meet demand 1. Assumes nothing.
use mathlib.Core.Path.{refl}
use mathlib.Core.List.{List, ◌∷◌, map}
use Prim.Native.Nat.{ℕ}
use lib.ListN.{length, replicate}
use Rattle.answer.specs.Answer.{answer, held}
use Rattle.answer.proofs.Laws.{kept, given as held-given}
use Rattle.eoc.specs.Message.{written, form_most}
use Rattle.eoc.specs.Reading.{message_in}
use Rattle.eocunits.specs.Units.{held_for, own_of, records_in, joined}
use Rattle.demands.specs.Handed.{Outcome}
use Rattle.demands.specs.HandedEoc.{EocWriteCall, EocReadCall, EocFields, EocUnitsCall}
use Rattle.demands.specs.One.{One}
use Rattle.demands.specs.Checks.{eoc_write_checks, eoc_hand_up_checks}
use Rattle.demands.specs.Messages.{message_of}
use Rattle.demands.specs.WrongMessages.{OneForm, FormUnwritten, ContentsUnwritten, HandsAll, HandsNothing}
use Rattle.demands.specs.NoStrawMan.{Built}
use Rattle.demands.proofs.One.{eoc-answers, ordered}
use Rattle.demands.proofs.Ours.{ours}
use Rattle.demands.proofs.Rebuilt.{ours-one, EocParts, EocPartsAnswer, Parts, rebuilt, rebuilt-one, usual, usual-answer}

abbrev with_eoc : EocParts → Parts
with_eoc e = record {
  send = usual.send;
  read = usual.read;
  data_write = usual.data_write;
  data_read = usual.data_read;
  eoc = e;
  receive = usual.receive;
  run = usual.run;
  descramble_frame = usual.descramble_frame;
  encode_run = usual.encode_run;
  history_start = usual.history_start;
  precode = usual.precode;
  decode = usual.decode;
  step = usual.step;
}

eoc-one : (e : EocParts) → EocPartsAnswer e → One (rebuilt (with_eoc e))
eoc-one e a = rebuilt-one (with_eoc e) (record {
  send = usual-answer.send;
  read = usual-answer.read;
  data_write = usual-answer.data_write;
  data_read = usual-answer.data_read;
  eoc = a;
  receive = usual-answer.receive;
  run = usual-answer.run;
  descramble_frame = usual-answer.descramble_frame;
  encode_run = usual-answer.encode_run;
  history_start = usual-answer.history_start;
  precode = usual-answer.precode;
  decode = usual-answer.decode;
  step = usual-answer.step;
})

-- ---- the writer

-- a writer by other rules: the length of the form, and this in the room
abbrev writing : (EocWriteCall → List ℕ) → EocWriteCall → Outcome ℕ (List ℕ)
writing form c =
    let n = answer (eoc_write_checks c) in
    record { answer = n; numbers = held n 0 (length (written (message_of c))); memory = held n c.room (form c) }

abbrev with_writing : (EocWriteCall → List ℕ) → EocParts
with_writing form = record { write = writing form; read = ours.eoc_read; hand-up = ours.eoc_hand_up }

writing-one : (form : EocWriteCall → List ℕ) → One (rebuilt (with_eoc (with_writing form)))
writing-one form = eoc-one (with_writing form) (record {
  write = eoc-answers ordered.eoc_write (λ c. refl) (λ c h. kept (answer (eoc_write_checks c)) 0 (length (written (message_of c))) h)
      (λ c h. kept (answer (eoc_write_checks c)) c.room (form c) h);
  read = ours-one.eoc_read;
  hand-up = ours-one.eoc_hand_up;
})

-- it writes zeros
abbrev zeros : EocWriteCall → List ℕ
zeros c = replicate form_most 0

pub one-form-built : Built OneForm
one-form-built = (
  rebuilt (with_eoc (with_writing zeros)),
  writing-one zeros,
  (replicate form_most 0, λ c h. held-given (answer (eoc_write_checks c)) c.room (replicate form_most 0) h),
)

pub form-built : Built FormUnwritten
form-built = (
  rebuilt (with_eoc (with_writing (λ c. c.room))),
  writing-one (λ c. c.room),
  λ c h. held-given (answer (eoc_write_checks c)) c.room c.room h,
)

-- ---- the reader

abbrev reads-idle : EocReadCall → Outcome EocFields (List ℕ)
reads-idle c = record { answer = (ours.eoc_read c).answer; numbers = (ours.eoc_read c).numbers; memory = c.contents }

abbrev idle : EocParts
idle = record { write = ours.eoc_write; read = reads-idle; hand-up = ours.eoc_hand_up }

pub contents-built : Built ContentsUnwritten
contents-built = (
  rebuilt (with_eoc idle),
  eoc-one idle (record {
    write = ours-one.eoc_write;
    read = eoc-answers ordered.eoc_read ours-one.eoc_read.first ours-one.eoc_read.no_numbers (λ c h. refl);
    hand-up = ours-one.eoc_hand_up;
  }),
  λ c h. refl,
)

-- ---- handing up

-- by other rules: so many units, and these records
abbrev handing : (EocUnitsCall → ℕ) → (EocUnitsCall → List ℕ) → EocUnitsCall → Outcome ℕ (List ℕ)
handing count after c =
    let n = answer (eoc_hand_up_checks c) in
    record { answer = n; numbers = held n 0 (count c); memory = held n c.units (after c) }

abbrev with_handing : (EocUnitsCall → ℕ) → (EocUnitsCall → List ℕ) → EocParts
with_handing count after = record { write = ours.eoc_write; read = ours.eoc_read; hand-up = handing count after }

handing-one : (count : EocUnitsCall → ℕ) (after : EocUnitsCall → List ℕ) → One (rebuilt (with_eoc (with_handing count after)))
handing-one count after = eoc-one (with_handing count after) (record {
  write = ours-one.eoc_write;
  read = ours-one.eoc_read;
  hand-up = eoc-answers ordered.eoc_hand_up (λ c. refl) (λ c h. kept (answer (eoc_hand_up_checks c)) 0 (count c) h)
      (λ c h. kept (answer (eoc_hand_up_checks c)) c.units (after c) h);
})

-- to every unit
abbrev every : EocUnitsCall → ℕ
every c = length (records_in c.units)

abbrev everywhere : EocUnitsCall → List ℕ
everywhere c = joined (map (λ (r : List ℕ). own_of r ∷ held_for (message_in c.octets)) (records_in c.units))

pub hands-all-built : Built HandsAll
hands-all-built = (
  rebuilt (with_eoc (with_handing every everywhere)),
  handing-one every everywhere,
  λ c h. (
    held-given (answer (eoc_hand_up_checks c)) 0 (every c) h,
    held-given (answer (eoc_hand_up_checks c)) c.units (everywhere c) h,
  ),
)

-- to none
pub hands-nothing-built : Built HandsNothing
hands-nothing-built = (
  rebuilt (with_eoc (with_handing (λ c. 0) (λ c. c.units))),
  handing-one (λ c. 0) (λ c. c.units),
  λ c h. held-given (answer (eoc_hand_up_checks c)) c.units c.units h,
)
