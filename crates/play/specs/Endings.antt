-- How a play ends, and the number that stands for it in C.
use Rattle.std.specs.Prelude.{ℕ, ◌+◌, ◌*◌, List, [], ◌∷◌, Some, None, Ok, Err, Option, Result}
use Rattle.market.specs.Terms.{refusal_number}
use Rattle.market.specs.declared.refusal.Refusal.{Refusal}
use Rattle.market.specs.declared.refusal.Refusal.TheVariants.{OutputShort}
use Rattle.dayfile.specs.declared.fault.Fault.{Fault}
use Rattle.play.specs.declared.ending.Ending.{Ending}
use Rattle.play.specs.declared.line.Line.{Line}

-- what ends the lines early: 18 where a line is cut off, else the file's fault, else nothing
abbrev pub end_of : List Line → Option Fault → Result (Unit {0}) Refusal
end_of [] None = Ok tt
end_of [] (Some f) = Err f.reason
end_of (l ∷ ls) fault = Err OutputShort

-- the number of what ended the lines early, or 0
abbrev pub end_number : Result (Unit {0}) Refusal → ℕ
end_number (Ok done) = 0
end_number (Err e) = refusal_number e

-- an ending as one number: the bytes written times 32, and the number of what ended the lines early
abbrev pub packed : Ending → ℕ
packed e = e.written * 32 + end_number e.end
