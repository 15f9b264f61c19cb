-- Laws of a symbol: x goes out as one y, y comes back as that x, and both are what the computed definitions give. Assumes nothing.
use mathlib.Core.Path.{◌≡◌, sym, subst}
use mathlib.Core.Bool.{Bool, true, false}
use mathlib.Core.List.{List}
use Prim.Native.Nat.{◌≤◌}
use native.Mathlib.Omega.{arith}
use lib.IntN.{ℤ, pos, neg_ℤ, nat_abs, ◌+ℤ◌, ◌-ℤ◌, ◌*ℤ◌}
use mir.Syntax.{w32, w64}
use mir.Val.{SFits}
use Rattle.ranges.specs.Ranges.{every}
use Rattle.samples.specs.Samples.{is_signal, Rounds, Folds, past_after}
use Rattle.precoder.specs.Precoder.{exact_sum, Sends, Receives, Turns, line_of}
use Rattle.samples.proofs.Linear.{P_pos, N-pos, le-to, lt-to, eq_of, add-bal, sub_is, neg-P, neg-N, mul-P, mul-N, abs_is, abs-of, P-mag, N-mag, mag_of}
use Rattle.ranges.proofs.Laws.{every_take}
use Rattle.samples.proofs.Rounding.{nearest, fold-bal, rounds-unique, folds-unique, rounds-nearest, folds-fold}
use Rattle.precoder.proofs.Recipe.{output_of, input_of, turn_of}

-- ---- there and back

-- what was folded from y + v goes out as y
pub fold-back : (y v x : ℤ) → Folds (y +ℤ v) x → is_signal y ≡ true → Folds (x -ℤ v) y
fold-back y v x f h =
    record {
      d = neg_ℤ f.d;
      is = eq_of _ _
          (omega (
            arith,
            fold-bal (y +ℤ v) x f,
            add-bal y v,
            sub_is x v,
            add-bal (x -ℤ v) (pos 262144 *ℤ neg_ℤ f.d),
            mul-P 262144 (neg_ℤ f.d),
            mul-N
                262144 (neg_ℤ f.d),
            neg-P f.d,
            neg-N f.d,
          ));
      signal = h;
    }

-- and what goes out as y is folded from y + v
pub fold-forth : (y v x : ℤ) → Folds (x -ℤ v) y → is_signal x ≡ true → Folds (y +ℤ v) x
fold-forth y v x f h =
    record {
      d = neg_ℤ f.d;
      is = eq_of _ _
          (omega (
            arith,
            fold-bal (x -ℤ v) y f,
            add-bal y v,
            sub_is x v,
            add-bal (y +ℤ v) (pos 262144 *ℤ neg_ℤ f.d),
            mul-P 262144 (neg_ℤ f.d),
            mul-N
                262144 (neg_ℤ f.d),
            neg-P f.d,
            neg-N f.d,
          ));
      signal = h;
    }

module _ (coefficients past : List ℤ) where
  abbrev s : ℤ
  s = exact_sum 180 coefficients past

  -- x goes out as one y
  pub sends-unique : (x y z : ℤ) → Sends coefficients past x y → Sends coefficients past x z → y ≡ z
  sends-unique x y z p q =
      let e = rounds-unique s p.v q.v p.rounds q.rounds in
      folds-unique (x -ℤ q.v) y z (subst (λ (v : ℤ). Folds (x -ℤ v) y) e p.folds) q.folds

  -- y comes back as one x
  pub receives-unique : (y x z : ℤ) → Receives coefficients past y x → Receives coefficients past y z → x ≡ z
  receives-unique y x z p q =
      let a = p.sends in
      let b = q.sends in
      let e = rounds-unique s a.v b.v a.rounds b.rounds in
      folds-unique (y +ℤ b.v) x z
      (subst (λ (v : ℤ). Folds (y +ℤ v) x) e (fold-forth y a.v x a.folds p.signal)) (fold-forth y b.v z b.folds q.signal)

  pub sends-output : (x : ℤ) → Sends coefficients past x (output_of coefficients past x)
  sends-output x = record { v = nearest s; rounds = rounds-nearest s; folds = folds-fold (x -ℤ nearest s) }

  pub output-is : (x y : ℤ) → Sends coefficients past x y → y ≡ output_of coefficients past x
  output-is x y p = sends-unique x y (output_of coefficients past x) p (sends-output x)

  pub receives-input : (y : ℤ) → is_signal y ≡ true → Receives coefficients past y (input_of coefficients past y)
  receives-input y h =
      let f = folds-fold (y +ℤ nearest s) in
      record {
        signal = f.signal;
        sends = record { v = nearest s; rounds = rounds-nearest s; folds = fold-back y (nearest s) (input_of coefficients past y) f h };
      }

  pub input-is : (y x : ℤ) → Receives coefficients past y x → x ≡ input_of coefficients past y
  input-is y x p = receives-unique y x (input_of coefficients past y) p (receives-input y p.sends.folds.signal)

  -- what went out as y comes back
  pub comes_back : (x : ℤ) → is_signal x ≡ true → input_of coefficients past (output_of coefficients past x) ≡ x
  comes_back x h = sym (input-is (output_of coefficients past x) x (record { signal = h; sends = sends-output x }))

  -- either direction: the computed number, and no other
  pub turns-of : (back : Bool) (z : ℤ) → is_signal z ≡ true → Turns back coefficients past z (turn_of back coefficients past z)
  turns-of false x h = sends-output x
  turns-of true y h = receives-input y h

  pub turn_is : (back : Bool) (z w : ℤ) → Turns back coefficients past z w → w ≡ turn_of back coefficients past z
  turn_is false x y p = output-is x y p
  turn_is true y x p = input-is y x p

  -- what joins the past is in range
  pub line-in : (back : Bool) (z w : ℤ) → is_signal z ≡ true → Turns back coefficients past z w → is_signal (line_of back z w) ≡ true
  line-in false x y h p = p.folds.signal
  line-in true y x h p = h

-- ---- what the code computes on the way fits

module _ (s v : ℤ) (h : nat_abs s ≤ 49478023249920) (r : Rounds s v) where
  pub v-abs : nat_abs v ≤ 377487361
  v-abs =
      abs-of v 377487361
      (omega (
        arith,
        le-to r.low,
        lt-to r.high,
        abs_is s,
        sub_is (pos 131072 *ℤ v) (pos 65536),
        add-bal (pos 131072 *ℤ v) (pos 65536),
        mul-P
            131072 v,
        mul-N 131072 v,
        P_pos 65536,
        N-pos 65536,
      ))
      (omega (
        arith,
        le-to r.low,
        lt-to r.high,
        abs_is s,
        sub_is (pos 131072 *ℤ v) (pos 65536),
        add-bal (pos 131072 *ℤ v) (pos 65536),
        mul-P
            131072 v,
        mul-N 131072 v,
        P_pos 65536,
        N-pos 65536,
      ))

  pub less-v-fits : (x : ℤ) → SFits w32 x → SFits w64 (x -ℤ v)
  less-v-fits x f =
      record {
        sfits = mag_of (x -ℤ v) 9223372036854775808
            (omega (arith, sub_is x v, v-abs, abs_is v, f.sfits, P-mag x, N-mag x))
            (omega (arith, sub_is x v, v-abs, abs_is v, f.sfits, P-mag x, N-mag x));
      }

  pub plus-v-fits : (y : ℤ) → SFits w32 y → SFits w64 (y +ℤ v)
  plus-v-fits y f =
      record {
        sfits = mag_of (y +ℤ v) 9223372036854775808
            (omega (arith, add-bal y v, v-abs, abs_is v, f.sfits, P-mag y, N-mag y))
            (omega (arith, add-bal y v, v-abs, abs_is v, f.sfits, P-mag y, N-mag y));
      }

-- ---- the past

-- a past in range stays so
pub past-in : (past : List ℤ) (y : ℤ) → every is_signal past ≡ true → is_signal y ≡ true → every is_signal (past_after past y) ≡ true
unfolding every
past-in past y h e = rw e (every_take is_signal 179 past h)
