-- A log that is followed to its end tells what the list of its codes says. Assumes nothing.
use mathlib.Core.Path.{◌≡◌, refl, sym, ap, subst, ◌∙◌}
use mathlib.Core.Bool.{Bool, true, false, cond, ◌&&◌, ◌||◌}
use mathlib.Core.List.{List, [], ◌∷◌, ◌++◌}
use Prim.Native.Nat.{ℕ, zero, suc, ◌-◌, ◌≤◌, ◌<◌}
use native.Mathlib.Omega.{arith}
use borrow.Author.Tests.{eqb-true, eqb-false, leb-true}
use lib.Dec.{leb, eqb, lit≤}
use lib.ListN.{length, get_or, drop, replicate}
use Rattle.ascii.specs.Text.{reading}
use Rattle.startup.specs.Reports.{at}
use Rattle.startup.specs.Make.{Taken}
use Rattle.startup.proofs.Counts.{and_right}
use Rattle.startlog.specs.Lines.{Line}
use Rattle.startlog.specs.Lines.{most_ticks, line, digits, counted, one_code, said, plain, line_of}
use Rattle.story.specs.declared.Story.{Story}
use Rattle.story.specs.Events.{Event}
use Rattle.story.specs.Events.{most, refused_with, event_of, start_of, story_of}
use Rattle.story.specs.Whole.{Tells}
use Rattle.story.proofs.Whole.{tells}
use Rattle.replay.specs.Replay.{repeated, followed, lines_of, ending, ending_from, codes_of}

-- ---- the story of the codes

story-append : (s : Story) (xs ys : List ℕ) → story_of s (xs ++ ys) ≡ story_of (story_of s xs) ys
story-append s [] ys = refl
story-append s (x ∷ xs) ys = story-append (event_of s x).story xs ys

repeated-story : (c n : ℕ) (e : Event) → (repeated c n e).answer ≡ 0 → (repeated c n e).story ≡ story_of e.story (replicate n c)
unfolding repeated
repeated-story c zero e z = refl
repeated-story c (suc n) e z = go (eqb (event_of e.story c).answer 0) refl (repeated-story c n (event_of e.story c)) z
  where
    y : Event
    y = event_of e.story c

    go : (b : Bool) → eqb y.answer 0 ≡ b → ((repeated c n y).answer ≡ 0 → (repeated c n y).story ≡ story_of y.story (replicate n c))
        → (cond b (repeated c n y) y).answer ≡ 0 → (cond b (repeated c n y) y).story ≡ story_of y.story (replicate n c)
    go true q rest z = rest z
    go false q rest z = absurd (eqb-false y.answer 0 q z)

pub ending-story : (n : ℕ) (s : Story) (ls : List (List ℕ)) → (ending_from n s ls).answer ≡ 0 → (ending_from n s ls).story ≡ story_of s (codes_of ls)
unfolding ending_from codes_of
ending-story n s [] z = refl
ending-story n s (l ∷ ls) z = go (eqb (followed s (line_of l)).answer 0) refl (ending-story (suc n) (followed s (line_of l)).story ls) z
  where
    y : Event
    y = followed s (line_of l)

    xs : List ℕ
    xs = replicate (line_of l).times (line_of l).code

    go : (b : Bool) → eqb y.answer 0 ≡ b
        → ((ending_from (suc n) y.story ls).answer ≡ 0 → (ending_from (suc n) y.story ls).story ≡ story_of y.story (codes_of ls))
        → (cond b (ending_from (suc n) y.story ls) (ending y.answer n y.story)).answer ≡ 0
        → (cond b (ending_from (suc n) y.story ls) (ending y.answer n y.story)).story ≡ story_of s (xs ++ codes_of ls)
    go true q rest z =
        rest z
        ∙ ap (λ (x : Story). story_of x (codes_of ls))
        (repeated-story (line_of l).code (line_of l).times (refused_with s (line_of l).answer) (eqb-true y.answer 0 q))
        ∙ sym (story-append s xs (codes_of ls))
    go false q rest z = absurd (eqb-false y.answer 0 q z)

-- ---- the codes of a log are 0 to 8

either-low : (b : Bool) (x y : Line) → x.code ≤ 8 → y.code ≤ 8 → (cond b x y).code ≤ 8
either-low true x y h l = h
either-low false x y h l = l

one-low : (o : ℕ) → (one_code o).code ≤ 8
one-low o = go (leb 48 o && leb o 56) refl
  where
    go : (b : Bool) → (leb 48 o && leb o 56) ≡ b → (cond b (line 0 (o - 48) 1) (line 2 0 0)).code ≤ 8
    go true q = omega (arith, leb-true o 56 (and_right (leb 48 o) (leb o 56) q))
    go false q = lit≤ tt

line_low : (l : List ℕ) → (said l).code ≤ 8
unfolding said counted
line_low l =
    either-low (eqb (length l) 0 || eqb (get_or l 0 0) 35) (line 0 0 0) _ (lit≤ tt)
    (either-low (eqb (length l) 1) (one_code (get_or l 0 0)) _ (one-low (get_or l 0 0))
    (either-low (eqb (get_or l 0 0) 48 && eqb (get_or l 1 0) 42) (counted (drop 2 l)) (line 2 0 0)
    (either-low (digits (drop 2 l)) _ (line 2 0 0)
    (either-low (leb 1 (reading 10 0 (drop 2 l)) && leb (reading 10 0 (drop 2 l)) most_ticks) (line 0 0 (reading 10 0 (drop 2 l))) (line 4 0 0)
    (lit≤ tt) (lit≤ tt)) (lit≤ tt))
    (lit≤ tt)))

-- each of these is a code
abbrev Low : List ℕ → Type 0
Low [] = Unit {0}
Low (c ∷ cs) = (c ≤ 8) × Low cs

low-at : (cs : List ℕ) → Low cs → (p : ℕ) → p < length cs → at cs p ≤ 8
low-at [] h p i = absurd (omega arith)
low-at (c ∷ cs) h zero i = h.0
low-at (c ∷ cs) h (suc p) i = low-at cs h.1 p (omega arith)

low-more : (n c : ℕ) (cs : List ℕ) → c ≤ 8 → Low cs → Low (replicate n c ++ cs)
low-more zero c cs h l = l
low-more (suc n) c cs h l = (h, low-more n c cs h l)

codes-low : (ls : List (List ℕ)) → Low (codes_of ls)
unfolding codes_of
codes-low [] = tt
codes-low (l ∷ ls) = low-more (line_of l).times (line_of l).code (codes_of ls) (line_low (plain l)) (codes-low ls)

-- ---- the whole

-- the story at the end of a log, where no line was refused, tells what the list of the log's codes says
pub log-tells : (end silence : ℕ) → end ≤ 1 → Taken silence → (log : List ℕ) → length (codes_of (lines_of log)) ≤ most
    → (ending_from 1 (start_of end silence).story (lines_of log)).answer ≡ 0
    → Tells end silence (codes_of (lines_of log)) (ending_from 1 (start_of end silence).story (lines_of log)).story
log-tells end silence known t log small z =
    subst (Tells end silence (codes_of (lines_of log))) (sym (ending-story 1 (start_of end silence).story (lines_of log) z))
    (tells end silence known t (codes_of (lines_of log)) (low-at (codes_of (lines_of log)) (codes-low (lines_of log))) small)
