-- `precoder::run` meets its contract. Assumes nothing.
use mathlib.Core.Path.{refl, sym, ap, ◌∙◌}
use mathlib.Core.List.{[]}
use Prim.Native.Nat.{ℕ, ◌/◌}
use native.Mathlib.Omega.{arith}
use lib.ListN.{length}
use Rattle.numbers.specs.Promises.{numbers_of, number_octets}
use Rattle.numbers.proofs.Laws.{numbers-many, numbers-whole, put_whole}
use Rattle.precoder.proofs.Turns.{lengths-are, ranges-are, past-length}
use Rattle.precoder.proofs.run.Goals as goal

pub returns-then-not-lengths_right : goal.returns-then-not-lengths_right
returns-then-not-lengths_right c =
    record {
      answered = rw (sym c.lengths_right.ensures ∙ c.if-not-lengths_right.true);
      out = [];
      turns = λ z. absurd (omega arith);
      written = refl;
      past = refl;
    }

pub ranges_right-requires : goal.ranges_right-requires
ranges_right-requires c =
    let right = sym c.lengths_right.ensures ∙ c.if-not-lengths_right.false in
    (lengths-are c.args.coefficients.now c.args.history.now c.args.symbols.now c.args.room.now right).2

pub returns-then-not-ranges_right : goal.returns-then-not-ranges_right
returns-then-not-ranges_right c =
    let right = sym c.lengths_right.ensures ∙ c.if-not-lengths_right.false in
    let l = lengths-are c.args.coefficients.now c.args.history.now c.args.symbols.now c.args.room.now right in
    let t = c.numbers-taps.ensures ∙ numbers-whole c.args.coefficients.now l.0 in
    let p = c.numbers-past.ensures ∙ numbers-whole c.args.history.now l.1 in
    let out = rw (t, p) at (sym c.ranges_right.ensures ∙ c.if-not-ranges_right.true) in
    record {
      answered = rw (right, out);
      out = [];
      turns = λ z. absurd (omega arith);
      written = refl;
      past = refl;
    }

pub invariant_of-precoder : goal.invariant_of-precoder
invariant_of-precoder c =
    let r = ranges-are c.numbers-taps.result c.numbers-past.result (numbers_of c.args.symbols.now) (sym c.ranges_right.ensures ∙ c.if-not-ranges_right.false) in
    record { coefficients = r.0; outputs = r.1 }

pub turn_all-requires : goal.turn_all-requires
turn_all-requires c =
    let right = sym c.lengths_right.ensures ∙ c.if-not-lengths_right.false in
    let l = lengths-are c.args.coefficients.now c.args.history.now c.args.symbols.now c.args.room.now right in
    let r = ranges-are c.numbers-taps.result c.numbers-past.result (numbers_of c.args.symbols.now) (sym c.ranges_right.ensures ∙ c.if-not-ranges_right.false) in
    (r.2, l.2, l.3)

pub returns : goal.returns
returns c =
    let right = sym c.lengths_right.ensures ∙ c.if-not-lengths_right.false in
    let l = lengths-are c.args.coefficients.now c.args.history.now c.args.symbols.now c.args.room.now right in
    let t = c.numbers-taps.ensures ∙ numbers-whole c.args.coefficients.now l.0 in
    let p = c.numbers-past.ensures ∙ numbers-whole c.args.history.now l.1 in
    let good = rw (t, p) at (sym c.ranges_right.ensures ∙ c.if-not-ranges_right.false) in
    let run = c.turn_all.ensures in
    let many = ap length run.past_is ∙ past-length _ _ (ap length p ∙ numbers-many c.args.history.now ∙ ap (λ (n : ℕ). n / 4) l.1) in
    record {
      answered = rw (right, good);
      out = run.out;
      turns = λ z. rw (t, p) at run.turns;
      written = run.written;
      past = c.put_numbers.ensures ∙ put_whole c.args.history.now l.1 _ many ∙ ap number_octets (rw p at run.past_is);
    }
