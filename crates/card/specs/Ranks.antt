-- The verdict on a card: one number, the worst lowest. Beside a customer it is the file's (cannot be read), the frame's (refused, final frame)
-- or the words' (TURNED, other words, match); with no customer a frame that reads is good.
use Rattle.std.specs.Prelude.{ℕ}

-- how a word compares with the customer's: no customer is given
abbrev pub no_customer : ℕ
no_customer = 0

-- it is the customer's
abbrev pub same_word : ℕ
same_word = 1

-- it is the customer's read last bit first
abbrev pub turned_word : ℕ
turned_word = 2

-- it is neither
abbrev pub other_word : ℕ
other_word = 3

-- the card carries no word
abbrev pub no_word : ℕ
no_word = 4

-- the verdicts: the file cannot be read
abbrev pub cannot_be_read : ℕ
cannot_be_read = 0

-- the frame is refused: the answer's number itself, from 1 to this
abbrev pub last_refusal : ℕ
last_refusal = 15

-- of those, the one for its length
abbrev pub wrong_length : ℕ
wrong_length = 1

-- it reads and is a final frame, which carries no words
abbrev pub final_frame : ℕ
final_frame = 16

-- a word differs from the customer's and is the customer's read last bit first, whatever the other word is
abbrev pub turned_words : ℕ
turned_words = 17

-- neither word is turned, and at least one is not the customer's
abbrev pub other_words : ℕ
other_words = 18

-- both words are the customer's
abbrev pub matching : ℕ
matching = 19

-- it reads, and no customer is given
abbrev pub good : ℕ
good = 20

-- how many verdicts there are
abbrev pub verdicts : ℕ
verdicts = 21

-- the answer that stands for a file that cannot be read: past the last that any refusal may have
abbrev pub unreadable : ℕ
unreadable = 255
