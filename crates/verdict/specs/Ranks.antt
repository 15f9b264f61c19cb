-- The verdict on a card (card: Ranks), by what its frame is.
use Rattle.std.specs.Prelude.{Bool, cond, ◌&&◌, ◌||◌, ℕ, eqb, ltb}
use Rattle.card.specs.Ranks.{no_customer, same_word, turned_word, cannot_be_read, last_refusal, final_frame, turned_words, other_words, matching, good}

-- the verdict on a card with an answer other than 0
abbrev pub refused_rank : ℕ → ℕ
refused_rank n = cond (ltb last_refusal n) cannot_be_read n

-- on a training frame that reads, by how A and B compare
abbrev pub training_rank : ℕ → ℕ → ℕ
training_rank a b =
    cond (eqb a no_customer) good
    (cond (eqb a turned_word || eqb b turned_word) turned_words
    (cond (eqb a same_word && eqb b same_word) matching other_words))

-- on a final frame that reads
abbrev pub final_rank : Bool → ℕ
final_rank given = cond given final_frame good
