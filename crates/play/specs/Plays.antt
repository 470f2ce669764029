-- What a play of a file prints and answers.
use Rattle.std.specs.Prelude.{◌≡◌, ℕ, ◌≤◌, ◌⊎◌, List, [], ◌∷◌, ◌++◌, length, ℤ, pos, ◌-ℤ◌, Some, None, Option}
use Rattle.market.specs.declared.side.MarketSide.TheVariants.{Buying, Selling}
use Rattle.book.specs.declared.row.Row.{Row}
use Rattle.rules.specs.Machine.{fills_of}
use Rattle.dayfile.specs.Files.{FileReads, OnlyReading}
use Rattle.dayfile.specs.declared.entry.Entry.{Entry}
use Rattle.dayfile.specs.declared.fault.Fault.{Fault}
use Rattle.play.specs.Endings.{end_of, packed}
use Rattle.play.specs.Lines.{texts_of}
use Rattle.play.specs.Pages.{Shown}
use Rattle.play.specs.Runs.{Run, money_in, run_of, shares_in}
use Rattle.play.specs.declared.ending.Ending.{Ending}
use Rattle.play.specs.declared.line.Line.{Line}
use Rattle.play.specs.declared.line.Line.TheVariants.{Row as RowLine, Refused, Total, Fault as FaultLine}

-- the last line: the ledger's totals, or the file's fault
abbrev pub last_line : Run → Option Fault → Line
last_line r None = Total r.ledger.shares r.ledger.money
last_line r (Some f) = FaultLine f

-- the lines of a file with these records and this fault, if any
abbrev pub lines_of : List Entry → Option Fault → List Line
lines_of es fault = (run_of es).lines ++ last_line (run_of es) fault ∷ []

-- the rows among lines
abbrev pub rows_in : List Line → List Row
rows_in [] = []
rows_in (RowLine r ∷ ls) = r ∷ rows_in ls
rows_in (Refused k e ∷ ls) = rows_in ls
rows_in (Total shares money ∷ ls) = rows_in ls
rows_in (FaultLine f ∷ ls) = rows_in ls

abbrev pub fills_in : List Line → List Row
fills_in lines = fills_of (rows_in lines)

-- the lines end with a T line, and the fill lines add up to it: shares sold less bought, money bought less sold
pub record AddsUp (lines : List Line) : Type 0 where
  pub front : List Line
  pub shares : ℤ
  pub money : ℤ
  pub ends : lines ≡ front ++ Total shares money ∷ []
  pub shares_add : shares ≡ pos (shares_in Selling (fills_in lines)) -ℤ pos (shares_in Buying (fills_in lines))
  pub money_adds : money ≡ pos (money_in Buying (fills_in lines)) -ℤ pos (money_in Selling (fills_in lines))

-- a file is played over bytes that stood there before: its records and its fault, the lines shown and those cut off, the
-- bytes after, and how the play ends
pub record Played (file was out : List ℕ) (ending : Ending) : Type 0 where
  pub entries : List Entry
  pub fault : Option Fault
  pub reads : FileReads file entries fault
  -- the file can be read in no other way
  pub only : OnlyReading file entries fault
  pub shown : List Line
  pub cut : List Line
  pub shows : Shown was (lines_of entries fault) out shown cut
  pub written : ending.written ≡ length (texts_of shown)
  pub end : ending.end ≡ end_of cut fault
  -- where no line is cut off, the fill lines add up to the T line
  pub adds_up : cut ≡ [] → fault ≡ None → AddsUp shown

-- a file is played, and its ending answered as one number; or, for want of memory for the book of a file that is not too long, nothing is written
abbrev pub PlayedOrNoMemory : List ℕ → List ℕ → List ℕ → ℕ → Type 0
PlayedOrNoMemory file was out answer = ((e : Ending) × Played file was out e × (answer ≡ packed e)) ⊎ ((length file ≤ 65536) × (answer ≡ 31) × (out ≡ was))
