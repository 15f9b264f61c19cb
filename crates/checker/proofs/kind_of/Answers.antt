-- `checker::kind_of` meets its contract.
use mathlib.Core.Path.{◌≡◌, sym, ap, subst, ◌∙◌}
use Rattle.std.specs.Prelude.{Ok}
use Rattle.answer.specs.declared.Refused.TheVariants.{Sync}
use Rattle.checker.proofs.Laws.{training-is, training-not, final-other, final-is, final-not, length-kind, refused-kind, known-kind, handed-on, training-end, final-end}
use Rattle.checker.specs.declared.Kind.{Kind}
use Rattle.checker.specs.declared.Kind.TheVariants.{Training, Final}
use Rattle.checker.specs.Promises.{kind_number, KindChecked}
use Rattle.layout.specs.Refusals.{has_sync, bit_refusals}
use Rattle.layout.specs.Frame.{training_sync}
use Rattle.octets.specs.Bits.{bits_of}
use Rattle.answer.specs.Answer.{answer}
use lib.ListN.{drop}
use mathlib.Core.Bool.{Bool, cond}
use Rattle.checker.proofs.kind_of.Goals as goal
use Rattle.checker.proofs.kind_of.Goals.{in-13727, in-15979}

pub returns-then-frame-ne-FRAME_OCTETS : goal.returns-then-frame-ne-FRAME_OCTETS
returns-then-frame-ne-FRAME_OCTETS c = length-kind c.args.frame.now c.if-frame-ne-FRAME_OCTETS.true

pub returns-in_default : goal.returns-in_default
returns-in_default c =
    let f = c.args.frame.now in
    let s = c.field in
    refused-kind f c.if-frame-ne-FRAME_OCTETS.false Sync
    (simp (training-not f s.result s.ensures c.in_default.in_default-own.rest.0.1, final-not f s.result s.ensures c.in_default.in_default-own.rest.1))

pub returns-in_err-end_right : goal.returns-in_err-end_right
returns-in_err-end_right c =
    let f = c.args.frame.now in
    let s = c.field in
    let known : answer (drop 1 (bit_refusals (bits_of f))) ≡ answer (bit_refusals (bits_of f)) =
    elim c.match-field.branch [
      | in-13727 w ↦ training-end f (training-is f s.result s.ensures w.in-13727.is)
      | in-15979 w ↦ final-end f (final-other f s.result s.ensures w.in-15979.is) (final-is f s.result s.ensures w.in-15979.is)
    ] in
    subst (KindChecked f) (sym (handed-on c.from_residual.result c.in_err-end_right.field-0.0 c.from_residual.ensures))
    (refused-kind f c.if-frame-ne-FRAME_OCTETS.false c.in_err-end_right.field-0.0 (c.in_err-end_right.ensures ∙ known))

pub returns : goal.returns
returns c =
    let f = c.args.frame.now in
    let s = c.field in
    let is : (k : Kind) → answer (drop 1 (bit_refusals (bits_of f))) ≡ answer (bit_refusals (bits_of f)) → kind_number k ≡ cond (has_sync training_sync (bits_of f)) 0 1
    → c.match-field.kind ≡ k → KindChecked f (Ok c.match-field.kind) =
    λ k e h g. subst (λ (x : Kind). KindChecked f (Ok x)) (sym g) (known-kind f c.if-frame-ne-FRAME_OCTETS.false k (c.in_ok-end_right.ensures ∙ e) h) in
    elim c.match-field.branch [
      | in-13727 w ↦
          let t = training-is f s.result s.ensures w.in-13727.is in
          is Training (training-end f t) (ap (λ (b : Bool). cond b 0 1) (sym t)) w.kind-is
      | in-15979 w ↦
          let t = final-other f s.result s.ensures w.in-15979.is in
          is Final (final-end f t (final-is f s.result s.ensures w.in-15979.is)) (ap (λ (b : Bool). cond b 0 1) (sym t)) w.kind-is
    ]
