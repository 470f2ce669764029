-- What a record, which is a part of a file, says.
use Rattle.std.specs.Prelude.{◌≡◌, ℕ, ◌/◌, ◌%◌, Bool, true, cond, List, length, take}
use Rattle.dayfile.specs.Entries.{has_limit_word, has_stop_word, is_start, is_writable, written}
use Rattle.dayfile.specs.Words.{value_at}
use Rattle.dayfile.specs.declared.entry.Entry.{Entry}
use Rattle.dayfile.specs.declared.entry.Entry.TheVariants as entry
use Rattle.dayfile.specs.declared.record.Record.{Record}
use Rattle.dayfile.specs.declared.record.Record.TheVariants.{Start, Clock, Order, Cancel, Quote, Opening, Trade, Close}

-- the bytes of a record
abbrev pub part_of : Record → List ℕ
part_of (Start p) = p.now
part_of (Clock p) = p.now
part_of (Order p) = p.now
part_of (Cancel p) = p.now
part_of (Quote p) = p.now
part_of (Opening p) = p.now
part_of (Trade p) = p.now
part_of (Close p) = p.now

-- an order's fields, from the values of its words
abbrev pub order_of : ℕ → ℕ → ℕ → Entry
order_of first second third =
    entry.Order (first / 65536) (first / 256 % 256) (first % 256)
    (cond (has_limit_word (first / 256 % 256)) second 0)
    (cond (has_stop_word (first / 256 % 256)) (cond (has_limit_word (first / 256 % 256)) third second) 0)

-- what a record says, by the values of its words
abbrev pub entry_of : Record → Entry
entry_of (Start p) = entry.Start (value_at p.now 0) (value_at p.now 4) (value_at p.now 8)
entry_of (Clock p) = entry.Clock (value_at p.now 0)
entry_of (Order p) = order_of (value_at p.now 0) (value_at p.now 4) (value_at p.now 8)
entry_of (Cancel p) = entry.Cancel (value_at p.now 0)
entry_of (Quote p) = entry.Quote (value_at p.now 0) (value_at p.now 4)
entry_of (Opening p) = entry.Opening (value_at p.now 0) (value_at p.now 4)
entry_of (Trade p) = entry.Trade (value_at p.now 0) (value_at p.now 4)
entry_of (Close p) = entry.Close

-- a record stands at the front of a list: its part is that front, and is exactly the words of what it says
pub record Stands (first : Bool) (rest : List ℕ) (x : Record) : Type 0 where
  pub front : part_of x ≡ take (length (part_of x)) rest
  pub exact : part_of x ≡ written (entry_of x)
  pub writable : is_writable (entry_of x) ≡ true
  pub in_place : is_start (entry_of x) ≡ first
