-- `eocreader::unescape` meets its contract.
use mathlib.Core.Path.{refl, sym, ◌∙◌}
use Prim.Native.Nat.{◌<◌}
use native.Mathlib.Omega.{arith}
use lib.ListN.{get_or}
use Rattle.eocreader.proofs.Laws.{escape-next, octet-next, too_many, all-put}
use Rattle.eocreader.proofs.unescape.Goals as goal
use Rattle.eocreader.proofs.unescape.Goals.{then-octet-eq-ESCAPE, else-octet-eq-ESCAPE+else-at-eq-FIELDS, then-behind, else-behind}

pub returns-then-at-eq-FIELDS : goal.returns-then-at-eq-FIELDS
returns-then-at-eq-FIELDS c =
    let l = c.loop-octet in
    let a = c.args in
    (too_many a.octets.now l.fields l.at l.octet-index c.loop-octet-test.true l.behind c.if-at-eq-FIELDS.true c.if-octet-eq-ESCAPE.false l.invariant, λ h. absurd (omega arith))

pub loop-octet-preserved : goal.loop-octet-preserved
loop-octet-preserved c =
    let l = c.loop-octet in
    let s = c.args.octets.now in
    let h = c.loop-octet-test.true in
    let j = c.if-octet-eq-ESCAPE in
    elim j.branch [
      | then-octet-eq-ESCAPE w ↦
          rw (w.fields-is, w.at-is, w.behind-is) (escape-next s l.fields l.at l.octet-index h l.behind w.if-octet-eq-ESCAPE.true l.invariant)
      | else-octet-eq-ESCAPE+else-at-eq-FIELDS w ↦
          let less : l.at < 77 = omega (arith, l.invariant.within, w.if-at-eq-FIELDS.false) in
          elim w.if-behind.branch [
            | then-behind w' ↦
                rw (w.fields-is, w'.fields-is, w.at-is, w.behind-is)
                (octet-next s l.fields l.at l.octet-index h l.behind w'.meant.result less w.if-octet-eq-ESCAPE.false
                (w'.meant.ensures ∙ sym (rw w'.if-behind.true refl)) l.invariant)
            | else-behind w' ↦
                rw (w.fields-is, w'.fields-is, w.at-is, w.behind-is)
                (octet-next s l.fields l.at l.octet-index h l.behind (get_or s l.octet-index 0) less w.if-octet-eq-ESCAPE.false
                (sym (rw w'.if-behind.false refl)) l.invariant)
          ]
    ]

pub returns : goal.returns
returns c =
    let l = c.loop-octet in
    let p = all-put c.args.octets.now l.fields l.at l.behind l.octet-index (omega arith) l.invariant in
    (p.0, λ h. p.1)
