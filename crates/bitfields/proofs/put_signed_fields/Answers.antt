-- `bitfields::put_signed_fields` meets its contract. After k turns the window and memory hold the fields of the first k numbers.
use mathlib.Core.Path.{◌≡◌, refl, sym, ap, subst, ◌∙◌}
use mathlib.Core.Logic.{inl, inr}
use mathlib.Core.List.{List, [], ◌++◌, append_assoc, append-nil}
use Prim.Native.Nat.{ℕ, ◌+◌, ◌*◌, ◌/◌, ◌%◌, ◌≤◌, ◌<◌, min}
use native.Mathlib.Omega.{arith}
use lib.IntN.{ℤ, pos}
use lib.ListN.{length, get_or, take}
use Rattle.std.specs.Prelude.{Option}
use Rattle.std.specs.Option.{unwrap_or}
use Rattle.octets.specs.Bits.{digits_of, value_of, bits_of, part, laid}
use Rattle.octets.specs.Signed.{twos_of, number_bits}
use Rattle.octets.proofs.Complement.{read-i32, twos-digits}
use Rattle.octets.proofs.Digits.{append_bits, digits-bits, digits-length}
use Rattle.octets.proofs.Laws.{part-lt, laid_next, laid-length}
use Rattle.octets.proofs.Numbers.{number-bits, number-none, number_more}
use Rattle.octets.proofs.Words.{laid-own}
use Rattle.bitfields.specs.declared.Window.{Window}
use Rattle.bitfields.specs.Promises.{first_of}
use Rattle.bitfields.specs.Fields.{Pushed}
use Rattle.bitfields.proofs.Holding.{Holds, holds-none, holds_more, holds-all, first-size, first-at, first-all}
use Rattle.bitfields.proofs.put_signed_fields.Invariants.{before}
use Rattle.bitfields.proofs.put_signed_fields.Goals as goal

pub loop-k-init : goal.loop-k-init
loop-k-init c =
    let a = c.args in
    let s = a.s.now in
    let w = c.min-width.result in
    let i = a.at / 8 in
    let r = a.at % 8 in
    let v = value_of (part (8 * i) r (bits_of s)) in
    let e = c.opened-window.ensures in
    let start : Holds s (8 * i) (before s a.at ++ number_bits w []) s (record { octet = i; held = v; count = r }) =
    holds-none s (before s a.at ++ number_bits w []) (record { octet = i; held = v; count = r }) (omega arith) (part-lt s (8 * i) r)
    (ap (λ (l : List ℕ). before s a.at ++ l) (sym (number-none w)) ∙ append-nil (before s a.at)) (λ n. omega (arith, c.slice_known-1.given n)) in (
      omega arith,
      subst (λ (x : Window). x.octet ≤ i + 0) (sym e) (omega arith),
      subst (Holds s (8 * i) (before s a.at ++ number_bits w []) s) (sym e) start,
    )

pub pushed-window-requires : goal.pushed-window-requires
pushed-window-requires c =
    let l = c.loop-k in
    let h = l.invariant.2 in
    (h.few, h.small, omega (arith, l.invariant.1), omega (arith, c.min-width.ensures))

-- the octet goes on by eight at most
octet-le : (s : List ℕ) (b : Window) (w v : ℕ) (t : List ℕ) (r : Window) → Pushed s b w v t r → r.octet ≤ b.octet + 8
octet-le s b w v t r (inl z) = subst (λ (x : Window). x.octet ≤ b.octet + 8) (sym z.2) (omega arith)
octet-le s b w v t r (inr z) = subst (λ (x : Window). x.octet ≤ b.octet + 8) (sym z.2) (omega arith)

pub loop-k-preserved : goal.loop-k-preserved
loop-k-preserved c =
    let push = c.pushed-window in
    let two = c.twos-v in
    let num = c.unwrap_or-number in
    let l = c.loop-k in
    let wide = c.min-width in
    let a = c.args in
    let s = a.s.now in
    let w = wide.result in
    let le : w ≤ 32 = omega (arith, wide.ensures) in
    let Z = first_of a.n a.numbers.now in
    let B = before s a.at in
    let N = number_bits w (take l.k Z) in
    let k : l.k < a.n = c.loop-k-test.true in
    let found : num.result ≡ get_or a.numbers.now l.k (pos 0) =
    num.ensures ∙ ap (λ (o : Option ℤ). unwrap_or o (pos 0)) c.copied.ensures ∙ c.get.ensures.lookup.4 (omega arith) (pos 0) in
    let v : digits_of w two.result ≡ digits_of w (twos_of w (get_or Z l.k (pos 0))) =
    ap (digits_of w) (two.ensures ∙ ap (twos_of 32) (read-i32 num.result num.type_inv ∙ found ∙ sym (first-at a.n l.k a.numbers.now k)))
    ∙ twos-digits w (get_or Z l.k (pos 0)) le in
    let e : (B ++ N) ++ digits_of w two.result ≡ B ++ number_bits w (take (l.k + 1) Z) =
    append_assoc B N (digits_of w two.result) ∙ ap (λ (x : List ℕ). B ++ x) (ap (λ (x : List ℕ). N ++ x) v
    ∙ sym (number_more w Z l.k (first-size a.n l.k a.numbers.now k))) in (
      omega arith,
      omega (arith, l.invariant.1, octet-le l.s l.window w two.result push.new.s push.result push.ensures),
      subst (λ (x : List ℕ). Holds s (8 * (a.at / 8)) x push.new.s push.result) e
          (holds_more s (8 * (a.at / 8)) (B ++ N) l.s l.window w two.result push.new.s push.result
          (append_bits B N (digits-bits (a.at % 8) (value_of (part (8 * (a.at / 8)) (a.at % 8) (bits_of s)))) (number-bits w (take l.k Z))) le l.invariant.2 push.ensures),
    )

pub shape_of-s : goal.shape_of-s
shape_of-s c =
    let l = c.loop-k in
    let a = c.args in
    ap length c.put_front.ensures ∙ laid-length l.s (8 * l.window.octet) _ ∙ ap length l.invariant.2.laid-part
    ∙ laid-length a.s.now (8 * (a.at / 8)) _

pub returns : goal.returns
returns c =
    let l = c.loop-k in
    let wide = c.min-width in
    let a = c.args in
    let s = a.s.now in
    let w = wide.result in
    let i = a.at / 8 in
    let r = a.at % 8 in
    let x₀ = value_of (part (8 * i) r (bits_of s)) in
    let B = before s a.at in
    let Z = first_of a.n a.numbers.now in
    let N = number_bits w (take l.k Z) in
    let k : l.k ≡ a.n = omega (arith, l.invariant.0) in
    let few : min l.window.count 64 ≡ l.window.count = omega (arith, l.invariant.2.few) in
    let place : 8 * i + length B ≡ a.at = ap (λ (x : ℕ). 8 * i + x) (digits-length r x₀) ∙ omega arith in
    let ok = digits-bits r x₀ in
    holds-all s (8 * i) (B ++ N) l.s l.window c.put_front.new.s (append_bits B N ok (number-bits w (take l.k Z))) l.invariant.2
    (c.put_front.ensures ∙ ap (λ (x : ℕ). laid l.s (8 * l.window.octet) (digits_of x l.window.held)) few)
    ∙ sym (laid_next s (8 * i) B N a.at ok place (sym (laid-own s (8 * i) r (λ n. omega (arith, c.slice_known-1.given n)))) refl)
    ∙ ap (laid s a.at) (ap (λ (x : ℕ). number_bits w (take x Z)) k ∙ ap (number_bits w) (first-all a.n a.numbers.now) ∙ ap (λ (x : ℕ). number_bits x Z) wide.ensures)
