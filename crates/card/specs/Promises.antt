-- What the functions for a verdict's words promise.
use Rattle.std.specs.Prelude.{ℕ}
use Rattle.ascii.specs.declared.Text.{Text}
use Rattle.ascii.specs.Promises.{Puts}
use Rattle.card.specs.Words.{name_of, todo}

-- put_name
abbrev pub NamePut : Text → ℕ → Text → Type 0
NamePut old rank new = Puts old (name_of rank) new

-- put_todo
abbrev pub TodoPut : Text → ℕ → Text → Type 0
TodoPut old rank new = Puts old (todo rank) new
