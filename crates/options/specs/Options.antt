-- What one argument of a program says, by its octets alone: an option of the programs, or a word such as a file's name. Which of the options
-- a program takes is its own affair.
use Rattle.std.specs.Prelude.{◌≡◌, Bool, true, false, cond, ◌&&◌, List, [], ◌∷◌, ℕ, eqb, ltb, length, get_or}
use Prim.Native.String.{String}
use Rattle.ascii.specs.Text.{text}
use Rattle.options.specs.declared.Argument.{Argument}
use Rattle.options.specs.declared.Argument.TheVariants.{Word, Help, Version, Status, Like, Csv, End, Unknown}

-- WHAT IT MAY SAY, BY NUMBER

-- no option: a word, also a lone "-" and one of no octets
abbrev pub a_word : ℕ
a_word = 0

-- "--help"
abbrev pub help : ℕ
help = 1

-- "--version"
abbrev pub version : ℕ
version = 2

-- "--status"
abbrev pub status : ℕ
status = 3

-- "--like"
abbrev pub like : ℕ
like = 4

-- "--csv"
abbrev pub csv : ℕ
csv = 5

-- "--", behind which every argument is a word
abbrev pub end_of_options : ℕ
end_of_options = 6

-- anything else that begins with "-"
abbrev pub unknown : ℕ
unknown = 7

-- an option's name and its number
pub record Option : Type 0 where
  pub name : List ℕ
  pub number : ℕ

-- such an option
abbrev pub option : String → ℕ → Option
option s n = record { name = text s; number = n }

-- the options of the programs
abbrev pub options : List Option
options =
    option "--help" help
    ∷ option "--version" version
    ∷ option "--status" status
    ∷ option "--like" like
    ∷ option "--csv" csv
    ∷ option "--" end_of_options
    ∷ []

-- whether two texts are the same
unfoldable pub same : List ℕ → List ℕ → Bool
same [] [] = true
same [] (p ∷ ps) = false
same (o ∷ os) [] = false
same (o ∷ os) (p ∷ ps) = eqb o p && same os ps

-- the number of the option with this name, and else another
abbrev pub number_of : List ℕ → List Option → ℕ → ℕ
number_of w [] other = other
number_of w (o ∷ os) other = cond (same w o.name) o.number (number_of w os other)

-- whether a text begins with "-" (45) and goes on
abbrev pub dashed : List ℕ → Bool
dashed w = ltb 1 (length w) && eqb (get_or w 0 0) 45

-- WHAT AN ARGUMENT SAYS
abbrev pub meaning : List ℕ → ℕ
meaning w = number_of w options (cond (dashed w) unknown a_word)

-- named: what a name stands for where the argument is this name, and else another
abbrev pub Named : {A : Type 0} → List ℕ → List ℕ → A → A → A → Type 0
Named w name own other r = r ≡ cond (same w name) own other

-- the numbers of what an argument says
abbrev pub said_number : Argument → ℕ
said_number Word = a_word
said_number Help = help
said_number Version = version
said_number Status = status
said_number Like = like
said_number Csv = csv
said_number End = end_of_options
said_number Unknown = unknown

-- read
abbrev pub Says : List ℕ → Argument → Type 0
Says w r = said_number r ≡ meaning w
