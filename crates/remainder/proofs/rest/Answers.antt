-- `remainder::rest` meets its contract.
use mathlib.Core.Path.{sym, ap, ◌∙◌}
use mathlib.Core.List.{List, ◌++◌, append-nil}
use Prim.Native.Nat.{ℕ, ◌*◌}
use native.Mathlib.Omega.{arith}
use Rattle.octets.specs.Bits.{digits_of, bits_of, part}
use Rattle.octets.proofs.Words.{word-front}
use Rattle.remainder.specs.Division.{generator}
use Rattle.remainder.specs.Register.{register_of}
use Rattle.remainder.proofs.rest.Goals as goal

pub returns-then-n-eq0 : goal.returns-then-n-eq0
returns-then-n-eq0 c =
    let a = c.args in
    ap (λ (n : ℕ). register_of 16 generator 0 (digits_of 64 a.x ++ part (8 * a.i) n (bits_of a.s.now))) c.if-n-eq0.true
    ∙ ap (register_of 16 generator 0) (append-nil (digits_of 64 a.x))

pub returns : goal.returns
returns c =
    let a = c.args in
    let w = c.word in
    ap (λ (l : List ℕ). register_of 16 generator 0 (digits_of 64 a.x ++ l))
    (sym (word-front a.s.now a.i a.n w.result (omega arith) c.requires.1 w.ensures))
    ∙ c.joined.ensures
