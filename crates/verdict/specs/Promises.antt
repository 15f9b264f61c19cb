-- What the verdict's functions promise.
use Rattle.std.specs.Prelude.{◌≡◌, List, ℕ}
use Rattle.verdict.specs.declared.Customer.{Customer}
use Rattle.card.specs.declared.Verdict.{Verdict}
use Rattle.card.specs.Ranks.{unreadable}
use Rattle.verdict.specs.Verdict.{verdict_of, refused_verdict, nobody, customer_of}

-- judge
abbrev pub Judged : List ℕ → Customer → Verdict → Type 0
Judged frame k r = r ≡ verdict_of frame k

-- unread
abbrev pub Unread : Customer → Verdict → Type 0
Unread k r = r ≡ refused_verdict unreadable 0 k

-- nobody
abbrev pub IsNobody : Customer → Type 0
IsNobody r = r ≡ nobody

-- reference
abbrev pub IsCustomer : Verdict → Customer → Type 0
IsCustomer v r = r ≡ customer_of v
