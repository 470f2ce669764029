-- What the functions that read words and records answer.
use Rattle.std.specs.Prelude.{◌≡◌, ℕ, ◌+◌, ◌*◌, ◌≤◌, Bool, cond, List, [], ◌∷◌, length, take, drop, Some, None, Ok, Err, Option, Result, nat_lt}
use Rattle.std.specs.Borrow.{Bor}
use Rattle.market.specs.declared.refusal.Refusal.{Refusal}
use Rattle.market.specs.declared.refusal.Refusal.TheVariants.{FileCut, BadWord}
use Rattle.dayfile.specs.Faults.{fault_among, fault_of}
use Rattle.dayfile.specs.Kinds.{word_kind_number, word_kind_of}
use Rattle.dayfile.specs.Records.{Stands}
use Rattle.dayfile.specs.Words.{bytes_of, kind_at, value_at, word}
use Rattle.dayfile.specs.declared.fault.Fault.{Fault}
use Rattle.dayfile.specs.declared.kind.WordKind.{WordKind}
use Rattle.dayfile.specs.declared.record.Record.{Record}
use Rattle.dayfile.specs.declared.word.Rest.{Rest}
use Rattle.dayfile.specs.declared.word.Word.{Word}

-- the fault of a word, whatever record it is in
abbrev pub kind_fault : Option WordKind → Option Refusal
kind_fault None = Some BadWord
kind_fault (Some k) = None

abbrev pub word_fault : List ℕ → ℕ → Option Refusal
word_fault rest at = cond (nat_lt (length rest) (at + 4)) (Some FileCut) (kind_fault (word_kind_of (kind_at rest at)))

-- a word is read, or is cut short, or has no kind
abbrev pub WordRead : Rest → ℕ → Result Word Fault → Type 0
WordRead rest at (Ok w) =
    (at + 4 ≤ length rest.bytes.now)
    × (word_kind_of (kind_at rest.bytes.now at) ≡ Some w.kind)
    × (w.value ≡ value_at rest.bytes.now at)
    × (take 4 (drop at rest.bytes.now) ≡ bytes_of (word w.kind w.value))
WordRead rest at (Err f) = (f.place ≡ rest.place) × (word_fault rest.bytes.now at ≡ Some f.reason)

-- a word of a kind stands here, or the fault of a record that needs it here
abbrev pub Expected : Rest → ℕ → WordKind → Result (Unit {0}) Fault → Type 0
Expected rest at k (Ok _) =
    (at + 4 ≤ length rest.bytes.now)
    × (kind_at rest.bytes.now at ≡ word_kind_number k)
    × (take 4 (drop at rest.bytes.now) ≡ bytes_of (word k (value_at rest.bytes.now at)))
Expected rest at k (Err f) = (f.place ≡ rest.place) × (fault_among (k ∷ []) rest.bytes.now at ≡ Some f.reason)

-- a record stands at the front of the rest of a file, or none does, and why
abbrev pub Found : Bool → Rest → Result Record Fault → Type 0
Found first rest (Ok x) = Stands first rest.bytes.now x
Found first rest (Err f) = (f.place ≡ rest.place) × (fault_of first rest.bytes.now ≡ Some f.reason)

-- words of these kinds stand one after another, from a place on
abbrev pub WordsStand : List WordKind → List ℕ → ℕ → Type 0
WordsStand [] rest at = Unit {0}
WordsStand (k ∷ ks) rest at = (take 4 (drop at rest) ≡ bytes_of (word k (value_at rest at))) × WordsStand ks rest (at + 4)

-- the bytes of a first word and of others of these kinds, or the fault of a record that needs them
abbrev pub WordsRead : Rest → List WordKind → Result (Bor (List ℕ)) Fault → Type 0
WordsRead rest kinds (Ok p) =
    (4 + 4 * length kinds ≤ length rest.bytes.now)
    × (p.now ≡ take (4 + 4 * length kinds) rest.bytes.now)
    × WordsStand kinds rest.bytes.now 4
WordsRead rest kinds (Err f) = (f.place ≡ rest.place) × (fault_among kinds rest.bytes.now 4 ≡ Some f.reason)
