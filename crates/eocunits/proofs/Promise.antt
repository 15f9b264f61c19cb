-- What handing a message up promises, where the message was read. Assumes nothing.
use mathlib.Core.Path.{◌≡◌, refl, sym, ap, ap₂, ◌∙◌}
use mathlib.Core.Bool.{false, cond, not}
use mathlib.Core.List.{List, [], ◌∷◌, map}
use Prim.Native.Nat.{ℕ, ◌+◌, ◌%◌}
use borrow.Author.Tests.{eq-eqb}
use lib.ListN.{length, drop, replicate}
use Rattle.std.specs.Prelude.{Ok}
use Rattle.answer.specs.Answer.{answer}
use Rattle.answer.proofs.Laws.{passed, given}
use Rattle.eoc.specs.Message.{Message, contents_most, padded}
use Rattle.eoc.specs.Reading.{message_in}
use Rattle.eoc.specs.Refusals.{form_refusals}
use Rattle.eocreader.specs.declared.Found.{Found}
use Rattle.eocreader.specs.Promises.{MessageRead}
use Rattle.eocunits.specs.Units.{takes, records_in, joined, count_taking, units_after, some_wide, hand_up_refusals}
use Rattle.eocunits.specs.Handing.{tail_of, put_in, count_meant}
use Rattle.eocunits.specs.Promises.{MessageHandedUp}

-- the same count
count_same : (m : Message) (rs : List (List ℕ)) → count_meant m.destination rs ≡ count_taking m rs
unfolding count_meant count_taking
count_same m [] = refl
count_same m (x ∷ rs) = ap (λ (n : ℕ). cond (takes m x) 1 0 + n) (count_same m rs)

-- nothing but the message itself may be refused, and it was not
pub done-hand : (s units : List ℕ) (f : Found) (contents exit : List ℕ) (taken : ℕ) → length units % 79 ≡ 0 → some_wide (records_in units) ≡ false
    → MessageRead s (replicate 73 0) (Ok f) contents → taken ≡ count_meant f.destination (records_in units)
    → exit ≡ joined (map (put_in f.destination (tail_of f contents)) (records_in units)) → MessageHandedUp s units (Ok taken) exit
done-hand s units f contents exit taken w t p c e =
    let m = message_in s in
    let told = answer (hand_up_refusals s units) in
    let all : 0 ≡ told = p.answered ∙ sym (passed 1 (drop 1 (hand_up_refusals s units)) (ap not (eq-eqb _ _ w)) ∙ passed 4 (form_refusals s) t) in
    let held-in : contents ≡ padded contents_most m.contents = p.room_left ∙ given _ (replicate 73 0) (padded contents_most m.contents) (sym p.answered) in
    record {
      answered = all;
      taken = c ∙ ap (λ (x : Found). count_meant x.destination (records_in units)) p.numbers ∙ count_same m (records_in units);
      units_left =
          e ∙ ap₂ (λ (x : Found) (y : List ℕ). joined (map (put_in x.destination (tail_of x y)) (records_in units))) p.numbers held-in
          ∙ sym (given told units (units_after m units) (sym all));
    }
