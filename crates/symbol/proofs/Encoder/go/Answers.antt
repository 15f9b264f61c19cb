-- `symbol::Encoder::go` meets its contract. The invariant: what is done, with the definition on what remains, is the definition on all.
-- Assumes nothing.
use mathlib.Core.Path.{refl, sym, ap, ◌∙◌}
use mathlib.Core.List.{◌∷◌}
use native.Mathlib.Omega.{arith}
use lib.ListN.{get_or, length-set}
use Rattle.symbol.specs.declared.Encoder.{Encoder}
use Rattle.symbol.specs.Encoder.{x1, encoder_in, code_of, register_of, held_in, with_register}
use Rattle.symbol.proofs.Runs.{with_in, symbol-in, next_small, codes-turn, register-turn, codes-end, register-end}
use Rattle.symbol.proofs.Encoder.go.Goals as goal

pub turn-t-requires : goal.turn-t-requires
turn-t-requires c =
    let l = c.loop-i in (
      ap encoder_in l.invariant.1 ∙ with_in c.args.self l.next.register c.requires.0 l.invariant.2,
      rw c.from.ensures (symbol-in c.args.symbols.now l.i c.loop-i-test.true c.requires.1),
    )

pub loop-i-preserved : goal.loop-i-preserved
loop-i-preserved c =
    let l = c.loop-i in
    let t = c.turn-t in
    let h = c.loop-i-test.true in
    let a = c.args.self.a in
    let b = c.args.self.b in
    let symbols = c.args.symbols.now in
    let symbol = get_or symbols l.i 0 in
    let was = c.from.ensures in
    let code = (rw was at t.ensures.0) ∙ ap (λ (e : Encoder). code_of e.a e.b (held_in l.next.register) symbol) l.invariant.1 in
    let next = (rw was at t.ensures.1) ∙ ap (λ (e : Encoder). with_register e (register_of (x1 symbol ∷ held_in l.next.register))) l.invariant.1 in
    rw (code, next)
    ((
      length-set l.codes l.i (code_of a b (held_in l.next.register) symbol) ∙ l.invariant.0,
      refl,
      next_small symbols l.next.register l.i,
      codes-turn a b symbols l.next.register l.i h l.codes (omega arith) ∙ l.invariant.3,
      register-turn a b symbols l.next.register l.i h ∙ l.invariant.4,
    ))

pub returns : goal.returns
returns c =
    let l = c.loop-i in
    let s = c.args.self in
    let symbols = c.args.symbols.now in
    let done = c.loop-i-test.false in
    let register = l.next.register in
    let codes-are = codes-end s.a s.b symbols l.codes register l.i done (omega arith) (l.invariant.0 ∙ c.requires.2) in
    let register-is = register-end symbols register l.i done (omega arith) l.invariant.2 in
    (sym codes-are ∙ l.invariant.3, l.invariant.1 ∙ ap (with_register s) (sym register-is ∙ l.invariant.4))
