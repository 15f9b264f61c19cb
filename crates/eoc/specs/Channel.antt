-- The channel (002, clause 10.5.5.2): "One or more sync octets (7E) shall be present between each frame. Inter-frame fill shall be accomplished by
-- inserting sync octets as needed." So a flag may end one message and begin the next, and flags may be repeated.
use Rattle.std.specs.Prelude.{cond, List, [], ◌∷◌, ◌++◌, ℕ, suc, eqb, replicate}
use Rattle.eoc.specs.Message.{Message, flag, escaped, fields_of}

-- a message on the channel, and how many flags stand behind it beside the one that ends it
pub record Filled : Type 0 where
  pub message : Message
  pub fill : ℕ

-- messages on the channel one after the other, behind one flag and so many more
unfoldable pub channel : ℕ → List Filled → List ℕ
channel fill [] = replicate (suc fill) flag
channel fill (f ∷ fs) = replicate (suc fill) flag ++ (escaped (fields_of f.message) ++ channel f.fill fs)

-- ---- taking it apart

-- what stands behind the first flag
unfoldable pub behind_flag : List ℕ → List ℕ
behind_flag [] = []
behind_flag (o ∷ os) = cond (eqb o flag) os (behind_flag os)

-- a piece before others; nothing where it has no octet
abbrev pub before : List ℕ → List (List ℕ) → List (List ℕ)
before [] ps = ps
before (o ∷ os) ps = (o ∷ os) ∷ ps

-- the pieces that a flag ends, where `begun` has come since the last one
unfoldable pub pieces_from : List ℕ → List ℕ → List (List ℕ)
pieces_from begun [] = []
pieces_from begun (o ∷ os) = cond (eqb o flag) (before begun (pieces_from [] os)) (pieces_from (begun ++ (o ∷ [])) os)

-- the pieces between flags, in their order; what stands before the first flag or behind the last is none
abbrev pub pieces : List ℕ → List (List ℕ)
pieces s = pieces_from [] (behind_flag s)
