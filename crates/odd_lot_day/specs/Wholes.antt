-- The whole output of a file.
use Rattle.std.specs.Prelude.{◌≡◌, ℕ, List, Option}
use Rattle.dayfile.specs.Files.{FileReads, OnlyReading}
use Rattle.dayfile.specs.declared.entry.Entry.{Entry}
use Rattle.dayfile.specs.declared.fault.Fault.{Fault}
use Rattle.play.specs.Lines.{texts_of}
use Rattle.play.specs.Plays.{lines_of}

-- bytes that are the text of all lines of a file, none cut off
pub record WholeText (file bytes : List ℕ) : Type 0 where
  pub entries : List Entry
  pub fault : Option Fault
  pub reads : FileReads file entries fault
  pub only : OnlyReading file entries fault
  pub text : bytes ≡ texts_of (lines_of entries fault)
