-- `eoclisting::line` meets its contract.
use mathlib.Core.Path.{◌≡◌, refl, sym, ap, ◌∙◌, subst}
use mathlib.Core.List.{List}
use Prim.Native.Nat.{ℕ}
use lib.ListN.{take, replicate}
use Rattle.std.proofs.Common.{rules}
use Rattle.std.specs.Prelude.{Result, IfOk}
use Rattle.answer.specs.declared.Refused.{Refused}
use Rattle.answer.specs.Given.{answer_of}
use Rattle.answer.proofs.Given.{refused-number}
use Rattle.ascii.specs.Promises.{Puts}
use Rattle.ascii.proofs.Room.{puts_as, puts-told}
use Rattle.eoc.specs.Reading.{message_in}
use Rattle.eocreader.specs.declared.Found.{Found}
use Rattle.eocreader.specs.Promises.{MessageRead}
use Rattle.eoclisting.specs.Line.{message_line}
use Rattle.eoclisting.proofs.Reading.{refused-line, read-line}
use Rattle.eoclisting.proofs.line.Goals as goal
use Rattle.eoclisting.proofs.line.Goals.{in-Ok, in-Err}

pub returns : goal.returns
returns c =
    let a = c.args in
    let s = a.octets.now in
    let room : List ℕ = replicate 73 0 in
    let m = c.match-read in
    let read = λ (r : Result Found Refused). MessageRead s room r c.read.new.contents in
    elim m.branch [
      | in-Ok w ↦
          let f = w.in-Ok.found in
          let p = subst read w.in-Ok.is c.read.ensures in
          let whole = ap (λ (k : ℕ). message_line a.n (record {
            source = f.source;
            destination = f.destination;
            number = f.number;
            contents = take k c.read.new.contents;
          })) w.from.ensures ∙ read-line s c.read.new.contents f p a.n in
          record {
            answered = ap answer_of w.destination-is ∙ p.answered;
            to = subst (λ (r : Result ℕ Refused). IfOk r (λ d. d ≡ (message_in s).destination)) (sym w.destination-is)
                (w.from-in-Ok.ensures ∙ ap (λ (x : Found). x.destination) p.numbers);
            told = puts-told (subst (Puts _ _) (sym w.text-is) (puts_as w.put_message.ensures whole)) refl (search rules);
          }
      | in-Err w ↦
          let p = subst read w.in-Err.is c.read.ensures in
          record {
            answered = ap answer_of w.destination-is ∙ p.answered;
            to = subst (λ (r : Result ℕ Refused). IfOk r (λ d. d ≡ (message_in s).destination)) (sym w.destination-is) tt;
            told = puts-told (subst (Puts _ _) (sym w.text-is) (puts_as w.put_refused.ensures (refused-line s a.n _ (refused-number w.in-Err.no) p.answered))) refl (search rules);
          }
    ]
