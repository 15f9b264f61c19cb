-- Laws of text by phrases. Assumes nothing.
use mathlib.Core.Path.{◌≡◌, ap}
use mathlib.Core.List.{List, [], ◌∷◌, ◌++◌, append-nil, append_assoc}
use Prim.Native.Nat.{ℕ, ◌+◌, ◌/◌, ◌%◌, ◌≤◌, ◌<◌}
use lib.ListN.{length, get_or, drop, drop_of_length-le}
use Rattle.ascii.specs.Text.{text}
use Rattle.forms.specs.Forms.{first_of, formed_by, formed}
use Rattle.forms.proofs.Laws.{rest_at}
use Rattle.std.proofs.lemmas.List.{at_drop_more, at_drop_all}
use Rattle.phrases.specs.declared.Phrase.{Phrase}
use Rattle.phrases.specs.Phrases.{thousandths, marked, phrase, phrase_of, phrases, said_of}

pub thousandths-form : (n : ℕ) → formed (text "#.###") (n / 1000 ∷ n / 100 % 10 ∷ n / 10 % 10 ∷ n % 10 ∷ []) ≡ thousandths n
unfolding formed formed_by first_of thousandths
thousandths-form n = simp (append_assoc, append-nil)

pub phrase-next : (os : List ℕ) (k n : ℕ) → k < length os → phrase (drop k os) n ≡ marked n (get_or os k 0) ++ phrase (drop (k + 1) os) n
unfolding phrase
phrase-next os k n h = ap (λ (l : List ℕ). phrase l n) (rest_at os k h)

pub phrase-end : (os : List ℕ) (k n : ℕ) → length os ≤ k → phrase (drop k os) n ≡ []
unfolding phrase
phrase-end os k n h = ap (λ (l : List ℕ). phrase l n) (drop_of_length-le os h)

-- a phrase, and those behind it
pub said-next : (table : List ℕ) (ps : List Phrase) (k : ℕ) (none : Phrase) → k < length ps
    → phrases table (said_of (drop k ps)) ≡ phrase_of table (get_or ps k none).row (get_or ps k none).number ++ phrases table (said_of (drop (k + 1) ps))
unfolding phrases
said-next table ps k none h = at_drop_more (λ (l : List Phrase). phrases table (said_of l)) ps k none h

pub said-end : (table : List ℕ) (ps : List Phrase) (k : ℕ) → length ps ≤ k → phrases table (said_of (drop k ps)) ≡ []
unfolding phrases
said-end table ps k h = at_drop_all (λ (l : List Phrase). phrases table (said_of l)) ps k h
