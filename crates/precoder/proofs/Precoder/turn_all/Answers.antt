-- `precoder::Precoder::turn_all` meets its contract. The invariant: what is done, with the recipe on what remains, is the recipe on all.
-- Assumes nothing.
use mathlib.Core.Path.{◌≡◌, refl, sym, ap, ◌∙◌}
use mathlib.Core.Bool.{true}
use mathlib.Core.List.{List, ◌++◌}
use Prim.Native.Nat.{ℕ, ◌+◌, ◌*◌, ◌≤◌}
use native.Mathlib.Omega.{arith}
use lib.IntN.{ℤ, pos}
use lib.ListN.{length, get_or, take, drop}
use mir.Syntax.{w32}
use mir.Val.{SFits}
use mir.Facts.{to_z-of_z}
use Rattle.numbers.specs.Promises.{numbers_of, number_octets}
use Rattle.ranges.specs.Ranges.{every}
use Rattle.samples.specs.Samples.{is_signal, past_after}
use Rattle.precoder.specs.Precoder.{line_of}
use Rattle.precoder.specs.Directions.{is_back}
use Rattle.ranges.proofs.Laws.{both}
use Rattle.numbers.proofs.Laws.{with-many}
use Rattle.precoder.proofs.Recipe.{turn_of, turned_of}
use Rattle.precoder.proofs.Signals.{turn_is}
use Rattle.precoder.proofs.Turns.{remains, written-turn, written-end, turned_turn, past-turn, turned-end, past_end}
use Rattle.precoder.proofs.Back.{turned-turns}
use Rattle.precoder.proofs.Precoder.turn_all.Goals as goal

pub loop-i-init : goal.loop-i-init
loop-i-init c = (refl, refl, refl, refl, c.requires.0)

-- symbol i and those after it are in range
symbols-in : (symbols : List ℕ) (i : ℕ) → 4 * i + 4 ≤ length symbols → every is_signal (drop i (numbers_of symbols)) ≡ true
    → (is_signal (get_or (numbers_of symbols) i (pos 0)) ≡ true) × (every is_signal (drop (i + 1) (numbers_of symbols)) ≡ true)
symbols-in symbols i h e =
    both (is_signal (get_or (numbers_of symbols) i (pos 0))) (every is_signal (drop (i + 1) (numbers_of symbols)))
    (sym (remains is_signal symbols i h) ∙ e)

pub turn-w-requires : goal.turn-w-requires
turn-w-requires c =
    let l = c.loop-i in
    let fits : SFits w32 c.number.result = record { sfits = c.number.type_inv } in
    rw (to_z-of_z fits, c.number.ensures) (symbols-in c.args.symbols.now l.i (omega (arith, c.loop-i-test.true)) l.invariant.4).0

pub loop-i-preserved : goal.loop-i-preserved
loop-i-preserved c =
    let l = c.loop-i in
    let i = l.i in
    let back = is_back c.args.direction in
    let coefficients = c.args.self.now.taps.now in
    let symbols = c.args.symbols.now in
    let past = l.self.past in
    let out = c.turn-w in
    let z = get_or (numbers_of symbols) i (pos 0) in
    let v = turn_of back coefficients past z in
    let next = past_after past (line_of back z v) in
    let four-more : 4 * i + 4 ≤ length symbols = omega (arith, c.loop-i-test.true) in
    let four-room : 4 * i + 4 ≤ length l.room = omega (arith, four-more, l.invariant.0, c.requires.2) in
    let ins = symbols-in symbols i four-more l.invariant.4 in
    let fits : SFits w32 c.number.result = record { sfits = c.number.type_inv } in
    let fit : SFits w32 out.result = record { sfits = out.type_inv } in
    let e = rw (to_z-of_z fits, c.number.ensures, l.invariant.1) at out.ensures in
    let is = turn_is coefficients past back z out.result e.0 in
    let p = rw (to_z-of_z fit, is) at c.put_number.ensures in
    let q = rw is at e.2 in
    rw (p, q)
    ((
      with-many l.room i v four-room ∙ l.invariant.0,
      e.1,
      written-turn l.room i v (turned_of back coefficients next (drop (i + 1) (numbers_of symbols))) four-room
          ∙ ap (λ (r : List ℤ). take (4 * i) l.room ++ number_octets r) (sym (turned_turn back coefficients past symbols i four-more))
          ∙ l.invariant.2,
      sym (past-turn back coefficients past symbols i four-more) ∙ l.invariant.3,
      ins.1,
    ))

pub returns : goal.returns
returns c =
    let l = c.loop-i in
    let back = is_back c.args.direction in
    let coefficients = c.args.self.now.taps.now in
    let past = c.args.self.now.past in
    let symbols = c.args.symbols.now in
    let over : length symbols ≤ 4 * l.i = omega (arith, c.loop-i-test.false, c.requires.1) in
    let full : length l.room ≤ 4 * l.i = omega (arith, over, l.invariant.0, c.requires.2) in
    record {
      out = turned_of back coefficients past (numbers_of symbols);
      turns = turned-turns coefficients back past (numbers_of symbols) c.requires.0;
      written = sym (written-end l.room l.i _ full (turned-end back coefficients l.self.past symbols l.i over)) ∙ l.invariant.2;
      past_is = sym (past_end back coefficients l.self.past symbols l.i over) ∙ l.invariant.3;
    }
