-- The output: the leading whole lines that fit, then the bytes that stood there before.
use Rattle.std.specs.Prelude.{◌≡◌, ℕ, ◌+◌, ◌<◌, ◌≤◌, Bool, true, false, List, [], ◌∷◌, ◌++◌, length, drop}
use Rattle.std.specs.Borrow.{MutBor}
use Rattle.play.specs.Lines.{text_of, texts_of}
use Rattle.play.specs.declared.line.Line.{Line}
use Rattle.play.specs.declared.page.Page.{Page}

-- the first line that is not shown finds no room behind those that are
abbrev pub StopsAt : ℕ → List Line → List Line → Type 0
StopsAt room shown [] = Unit {0}
StopsAt room shown (l ∷ ls) = room < length (texts_of shown) + length (text_of l)

abbrev pub is_cut : List Line → Bool
is_cut [] = false
is_cut (l ∷ ls) = true

-- lines printed over bytes that stood there before: those shown, and those cut off
pub record Shown (was : List ℕ) (lines : List Line) (out : List ℕ) (shown cut : List Line) : Type 0 where
  pub split : lines ≡ shown ++ cut
  pub fits : length (texts_of shown) ≤ length was
  pub stops : StopsAt (length was) shown cut
  pub bytes : out ≡ texts_of shown ++ drop (length (texts_of shown)) was

-- the same on a page, which holds the bytes that were lent, with how far they are written
pub record Printed (lent : MutBor (List ℕ)) (lines : List Line) (p : Page) : Type 0 where
  pub lender : p.out.ghost_name ≡ lent.ghost_name
  pub shown : List Line
  pub cut : List Line
  pub shows : Shown lent.now lines p.out.now shown cut
  pub used : p.used ≡ length (texts_of shown)
  pub full : p.full ≡ is_cut cut

-- lines printed behind others, whatever those are
abbrev pub Wrote : List Line → Page → Page → Type 0
Wrote lines p q = (lent : MutBor (List ℕ)) (earlier : List Line) → Printed lent earlier p → Printed lent (earlier ++ lines) q
