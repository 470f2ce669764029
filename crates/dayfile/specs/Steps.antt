-- The records of a file, one after another.
use Rattle.std.specs.Prelude.{◌≡◌, ◌+◌, ◌<◌, ◌≤◌, length, Some, None, Ok, Err, Option, Result}
use Rattle.dayfile.specs.Files.{RecordAt}
use Rattle.dayfile.specs.Records.{part_of}
use Rattle.dayfile.specs.declared.fault.Fault.{Fault}
use Rattle.dayfile.specs.declared.record.Placed.{Placed}
use Rattle.dayfile.specs.declared.records.Records.{Records}

-- one record on: the record at the place, after which comes the place past it; at a fault, and at the end, nothing more
abbrev pub Passed : Records → Option (Result Placed Fault) → Records → Type 0
Passed s None t = (length s.file.now ≤ s.place) × (t ≡ s)
Passed s (Some (Ok x)) t =
    (s.place < length s.file.now)
    × RecordAt s.file.now s.place (Ok x)
    × (t.file.now ≡ s.file.now)
    × (t.place ≡ s.place + length (part_of x.record))
Passed s (Some (Err f)) t =
    (s.place < length s.file.now)
    × RecordAt s.file.now s.place (Err f)
    × (t.file.now ≡ s.file.now)
    × (t.place ≡ length s.file.now)
