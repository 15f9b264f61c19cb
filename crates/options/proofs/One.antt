-- One result per call. Assumes nothing.
use mathlib.Core.Path.{◌≡◌, refl, sym, ap, ◌∙◌}
use mathlib.Core.List.{List}
use Prim.Native.Nat.{ℕ}
use mathlib.Core.Bool.{cond}
use lib.Dec.{eqb}
use Rattle.options.specs.declared.Argument.{Argument}
use Rattle.options.specs.declared.Argument.TheVariants.{Word, Help, Version, Status, Like, Csv, End, Unknown}
use Rattle.options.specs.Options.{a_word, help, version, status, like, csv, end_of_options, said_number, Named, Says}

-- what an argument says, by its number
said : ℕ → Argument
said n =
    cond (eqb n a_word) Word (cond (eqb n help) Help (cond (eqb n version) Version (cond (eqb n status) Status (cond (eqb n like) Like (cond (eqb n csv) Csv (cond (eqb n end_of_options) End Unknown))))))

back : (a : Argument) → said (said_number a) ≡ a
unfolding said
back Word = refl
back Help = refl
back Version = refl
back Status = refl
back Like = refl
back Csv = refl
back End = refl
back Unknown = refl

pub read_one : (w : List ℕ) (r r' : Argument) → Says w r → Says w r' → r ≡ r'
read_one w r r' p q = sym (back r) ∙ ap said (p ∙ sym q) ∙ back r'

pub named-one : {A : Type 0} (w name : List ℕ) (own other r r' : A) → Named w name own other r → Named w name own other r' → r ≡ r'
named-one w name own other r r' p q = p ∙ sym q
