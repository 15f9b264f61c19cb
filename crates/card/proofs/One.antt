-- One result per call. Assumes nothing.
use mathlib.Core.Path.{◌≡◌}
use Prim.Native.Nat.{ℕ}
use Rattle.ascii.specs.declared.Text.{Text}
use Rattle.ascii.proofs.One.{puts-one}
use Rattle.card.specs.Words.{name_of, todo}
use Rattle.card.specs.Promises.{NamePut, TodoPut}

pub put-name-one : (old : Text) (n : ℕ) (new new' : Text) → NamePut old n new → NamePut old n new'
    → (new.at ≡ new'.at) × (new.room.now ≡ new'.room.now) × (new.room.ghost_name ≡ new'.room.ghost_name)
put-name-one old n = puts-one old (name_of n)

pub put-todo-one : (old : Text) (n : ℕ) (new new' : Text) → TodoPut old n new → TodoPut old n new'
    → (new.at ≡ new'.at) × (new.room.now ≡ new'.room.now) × (new.room.ghost_name ≡ new'.room.ghost_name)
put-todo-one old n = puts-one old (todo n)
