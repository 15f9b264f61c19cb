-- `datachecker::stuffing_of` meets its contract.
use mathlib.Core.Path.{◌≡◌, sym, ap, ◌∙◌}
use mathlib.Core.Bool.{false, not}
use mathlib.Core.Logic.{◌⊎◌, inl, inr}
use Prim.Native.Nat.{ℕ, ◌^◌, ◌<◌, ◌≤◌}
use borrow.Author.Tests.{eq-eqb, ne_eqb, le-leb, lt-leb}
use lib.Dec.{eqb, leb}
use Rattle.octets.specs.Bits.{value_of, part}
use Rattle.dataframe.specs.declared.Room.{Room}
use Rattle.dataframe.specs.Table.{sync}
use Rattle.dataframe.specs.Frame.{carried, due_of}
use Rattle.dataframe.specs.Rooms.{form_in, bits_in}
use Rattle.dataframe.proofs.Rows.{sync-is}
use Rattle.dataframe.proofs.Rooms.{form-known}
use Rattle.datachecker.proofs.Promise.{A, one, two, three-is, four_is, five-is, six-is, none_is}
use Rattle.datachecker.proofs.stuffing_of.Goals as goal

-- a number is too wide
wide : (r : Room) (word next : ℕ) → (2 ^ 14 ≤ word) ⊎ ((word < 2 ^ 14) × (2 ^ 6 ≤ next)) → 4 ≡ A (form_in r) r.size word next (bits_in r)
wide r word next (inl h) = one (form_in r) r.size word next (bits_in r) (le-leb _ _ h)
wide r word next (inr p) = two (form_in r) r.size word next (bits_in r) (lt-leb _ _ p.0) (le-leb _ _ p.1)

pub returns-then-sync-ge-SYNCS : goal.returns-then-sync-ge-SYNCS
returns-then-sync-ge-SYNCS c = record { answered = wide c.args.room c.args.sync c.args.next c.then-sync-ge-SYNCS.either; given = tt }

-- the first three checks are passed
module _ (r : Room) (word next : ℕ) (a : word < 2 ^ 14) (b : next < 2 ^ 6) (n : ℕ) (c : n ≡ value_of (part 0 14 (bits_in r))) (d : n ≡ word) where
  sync-right : (leb (2 ^ 14) word ≡ false) × (leb (2 ^ 6) next ≡ false) × (not (eqb (value_of (carried sync (form_in r) r.size (bits_in r))) word) ≡ false)
  sync-right = (
    lt-leb _ _ a,
    lt-leb _ _ b,
    ap not (eq-eqb (value_of (carried sync (form_in r) r.size (bits_in r))) word (ap value_of (sync-is r.size (bits_in r) (form_in r) (form-known r.form)) ∙ sym c ∙ d)),
  )

pub returns-then-piece-sync : goal.returns-then-piece-sync
returns-then-piece-sync c =
    let a = c.args in
    let r = a.room in
    record {
      answered = three-is (form_in r) r.size a.sync a.next (bits_in r) (lt-leb _ _ c.if-sync-ge-SYNCS.false) (lt-leb _ _ c.if-next-ge-CRCS.false)
          (ap not (ne_eqb (value_of (carried sync (form_in r) r.size (bits_in r))) a.sync
          (λ z. c.if-piece-sync.true (c.piece.ensures.0 ∙ ap value_of (sym (sync-is r.size (bits_in r) (form_in r) (form-known r.form))) ∙ z))));
      given = tt;
    }

pub returns-then-not-right : goal.returns-then-not-right
returns-then-not-right c =
    let a = c.args in
    let r = a.room in
    let h = sync-right r a.sync a.next c.if-sync-ge-SYNCS.false c.if-next-ge-CRCS.false c.piece.result c.piece.ensures.0 c.if-piece-sync.false in
    record {
      answered = four_is (form_in r) r.size a.sync a.next (bits_in r) h.0 h.1 h.2 (ap not (sym c.right.ensures ∙ c.if-not-right.true));
      given = tt;
    }

pub returns-then-not-clear : goal.returns-then-not-clear
returns-then-not-clear c =
    let a = c.args in
    let r = a.room in
    let h = sync-right r a.sync a.next c.if-sync-ge-SYNCS.false c.if-next-ge-CRCS.false c.piece.result c.piece.ensures.0 c.if-piece-sync.false in
    record {
      answered = five-is (form_in r) r.size a.sync a.next (bits_in r) h.0 h.1 h.2 (ap not (sym c.right.ensures ∙ c.if-not-right.false))
          (ap not (sym c.clear.ensures ∙ c.if-not-clear.true));
      given = tt;
    }

pub returns-then-next-due : goal.returns-then-next-due
returns-then-next-due c =
    let a = c.args in
    let r = a.room in
    let h = sync-right r a.sync a.next c.if-sync-ge-SYNCS.false c.if-next-ge-CRCS.false c.piece.result c.piece.ensures.0 c.if-piece-sync.false in
    record {
      answered = six-is (form_in r) r.size a.sync a.next (bits_in r) h.0 h.1 h.2 (ap not (sym c.right.ensures ∙ c.if-not-right.false))
          (ap not (sym c.clear.ensures ∙ c.if-not-clear.false))
          (ap not (ne_eqb a.next (due_of (form_in r) r.size (bits_in r)) (λ z. c.if-next-due.true (z ∙ sym c.requires))));
      given = tt;
    }

pub returns : goal.returns
returns c =
    let a = c.args in
    let r = a.room in
    let h = sync-right r a.sync a.next c.if-sync-ge-SYNCS.false c.if-next-ge-CRCS.false c.piece.result c.piece.ensures.0 c.if-piece-sync.false in
    record {
      answered = none_is (form_in r) r.size a.sync a.next (bits_in r) h.0 h.1 h.2 (ap not (sym c.right.ensures ∙ c.if-not-right.false))
          (ap not (sym c.clear.ensures ∙ c.if-not-clear.false))
          (ap not (eq-eqb a.next (due_of (form_in r) r.size (bits_in r)) (c.if-next-due.false ∙ c.requires)));
      given = c.announced-stuffing.ensures.0;
    }
