-- Whole files.
use Rattle.std.specs.Prelude.{◌≡◌, ℕ, ◌<◌, ◌≤◌, Bool, true, false, not, ◌&&◌, List, [], ◌∷◌, ◌++◌, length, take, drop, Some, None, Ok, Err, Option, Result, ◌==◌, ◌≢◌}
use Rattle.std.specs.List.{flat_map, list_all}
use Rattle.market.specs.declared.refusal.Refusal.{Refusal}
use Rattle.market.specs.declared.refusal.Refusal.TheVariants.{FileTooLong}
use Rattle.dayfile.specs.Entries.{is_start, is_writable, written}
use Rattle.dayfile.specs.Faults.{fault_of}
use Rattle.dayfile.specs.Records.{Stands}
use Rattle.dayfile.specs.declared.entry.Entry.{Entry}
use Rattle.dayfile.specs.declared.fault.Fault.{Fault}
use Rattle.dayfile.specs.declared.record.Placed.{Placed}

-- no record stands at the front of a list: whatever a record says, the list does not begin with its words
abbrev pub NoRecord : Bool → List ℕ → Type 0
NoRecord first rest = (e : Entry) (tail : List ℕ) → is_writable e ≡ true → is_start e ≡ first → rest ≢ written e ++ tail

-- the record at a place of a file, or its fault, which comes exactly where no record stands
abbrev pub RecordAt : List ℕ → ℕ → Result Placed Fault → Type 0
RecordAt file at (Ok x) = Stands (at == 0) (drop at file) x.record × (x.place ≡ at)
RecordAt file at (Err f) = NoRecord (at == 0) (drop at file) × (fault_of (at == 0) (drop at file) ≡ Some f.reason) × (f.place ≡ at)

-- a start comes first and once
abbrev pub starts_once : List Entry → Bool
starts_once [] = false
starts_once (e ∷ es) = is_start e && list_all (λ x. not (is_start x)) es

-- the words of records joined
abbrev pub joined_words : List Entry → List ℕ
joined_words es = flat_map written es

-- the first records of a file, up to a place after them: exactly their words joined, start first and once
pub record Begins (file : List ℕ) (es : List Entry) (place : ℕ) : Type 0 where
  pub short : length file ≤ 65536
  pub once : starts_once es ≡ true
  pub writable : list_all is_writable es ≡ true
  pub words : take place file ≡ joined_words es
  pub inside : place ≤ length file
  pub past : 0 < place

-- the records of a file and its fault, if it has one
pub data FileReads (file : List ℕ) : List Entry → Option Fault → Type 0 where
  -- a file that is too long has no records
  too_long : 65536 < length file → FileReads file [] (Some (record { reason = FileTooLong; place = 65536 }))
  -- a file without a fault is exactly its records' words joined, start first and once
  whole : (es : List Entry) → length file ≤ 65536 → starts_once es ≡ true → list_all is_writable es ≡ true → file ≡ joined_words es → FileReads file es None
  -- the first record has a fault: no start stands at the front
  first_faulty : (r : Refusal) → length file ≤ 65536 → NoRecord true file → fault_of true file ≡ Some r → FileReads file [] (Some (record { reason = r; place = 0 }))
  -- a later one has: no record stands after the words of those before it
  later_faulty : (es : List Entry) (place : ℕ) (r : Refusal) → Begins file es place → place < length file → NoRecord false (drop place file) → fault_of false (drop place file) ≡ Some r → FileReads file es (Some (record { reason = r; place = place }))

-- these are the only records and the only fault that a file can be read as
abbrev pub OnlyReading : List ℕ → List Entry → Option Fault → Type 0
OnlyReading file es fault = (fs : List Entry) (other : Option Fault) → FileReads file fs other → (fs ≡ es) × (other ≡ fault)

-- how many records a file has, or its fault
abbrev pub Counted : List ℕ → Result ℕ Fault → Type 0
Counted file (Ok n) = (es : List Entry) × FileReads file es None × (n ≡ length es) × OnlyReading file es None
Counted file (Err f) = (es : List Entry) × FileReads file es (Some f) × OnlyReading file es (Some f)
