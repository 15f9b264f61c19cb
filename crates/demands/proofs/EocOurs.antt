-- What our functions of operations channel messages compute, by the definitions that their contracts cite; it keeps these. Assumes nothing.
use mathlib.Core.Path.{refl}
use mathlib.Core.List.{List}
use Prim.Native.Nat.{ℕ}
use Rattle.answer.specs.Answer.{answer, held}
use Rattle.eoc.specs.Message.{written, padded, contents_most, form_most}
use Rattle.eoc.specs.Reading.{message_in}
use Rattle.eocunits.specs.Units.{units_after}
use Rattle.host.specs.Channel.{written_of, found_of, handed_of, EocWritten, EocRead, EocHanded}
use Rattle.demands.specs.Handed.{Outcome}
use Rattle.demands.specs.HandedEoc.{EocWriteCall, EocReadCall, EocFields, EocUnitsCall}
use Rattle.demands.specs.Checks.{eoc_write_checks, eoc_read_checks, eoc_hand_up_checks}
use Rattle.demands.specs.Messages.{message_of}

abbrev pub eoc-writes : EocWriteCall → Outcome ℕ (List ℕ)
eoc-writes c =
    let n = answer (eoc_write_checks c) in
    let w = written_of n (message_of c) in
    record { answer = w.answer; numbers = w.length; memory = held n c.room (padded form_most (written (message_of c))) }

abbrev pub eoc-reads : EocReadCall → Outcome EocFields (List ℕ)
eoc-reads c =
    let n = answer (eoc_read_checks c) in
    let f = found_of n (message_in c.octets) in
    record {
      answer = f.answer;
      numbers = record { source = f.source; destination = f.destination; number = f.number; length = f.length };
      memory = held n c.contents (padded contents_most (message_in c.octets).contents);
    }

abbrev pub eoc-hands-up : EocUnitsCall → Outcome ℕ (List ℕ)
eoc-hands-up c =
    let n = answer (eoc_hand_up_checks c) in
    let h = handed_of n (message_in c.octets) c.units in
    record { answer = h.answer; numbers = h.units; memory = held n c.units (units_after (message_in c.octets) c.units) }

-- ---- they keep the contracts

pub eoc-writes-keep : (c : EocWriteCall) → EocWritten c.source c.destination c.number c.contents c.room
    (record { answer = (eoc-writes c).answer; length = (eoc-writes c).numbers }) (eoc-writes c).memory
eoc-writes-keep c = record { returned = refl; room_left = refl }

pub eoc-reads-keep : (c : EocReadCall) → let r = eoc-reads c in EocRead c.octets c.contents
    (record { answer = r.answer; source = r.numbers.source; destination = r.numbers.destination; number = r.numbers.number; length = r.numbers.length })
    r.memory
eoc-reads-keep c = record { returned = refl; room_left = refl }

pub eoc-hands-up-keep : (c : EocUnitsCall) → EocHanded c.octets c.units
    (record { answer = (eoc-hands-up c).answer; units = (eoc-hands-up c).numbers }) (eoc-hands-up c).memory
eoc-hands-up-keep c = record { returned = refl; units_left = refl }
