-- What a journal means: its start, and its written rows added to it.
use Rattle.std.specs.Prelude.{◌≡◌, ℕ, ◌+◌, ◌-◌, ◌*◌, min, cond, List, length, take, ℤ, pos, ◌+ℤ◌, ◌-ℤ◌, Ok, Err, Result, slice_set}
use Rattle.market.specs.Sums.{counted}
use Rattle.market.specs.declared.refusal.Refusal.{Refusal}
use Rattle.ledger.specs.Posting.{Numbers, signed}
use Rattle.ledger.specs.Sums.{sum_z}
use Rattle.ledger.specs.declared.fill.Fill.{Fill}
use Rattle.ledger.specs.declared.row.JournalRow.{JournalRow}
use Rattle.ledger.specs.declared.journal.Journal.{Journal}

-- the shares of a row, as a customer's buy counts them
abbrev pub owed_of : JournalRow → ℤ
owed_of r = signed r.fill.side (pos r.fill.shares)

-- the money of a row, as a customer's buy counts it
abbrev pub paid_of : JournalRow → ℤ
paid_of r = signed r.fill.side (pos (r.fill.shares * r.fill.price))

-- the rows that are written, of the first 65,536
abbrev pub written_of : Journal → List JournalRow
written_of j = counted (take j.used j.rows.now)

abbrev pub shares_of : Journal → ℤ
shares_of j = j.start.now.shares -ℤ sum_z owed_of (written_of j)

abbrev pub money_of : Journal → ℤ
money_of j = j.start.now.money +ℤ sum_z paid_of (written_of j)

-- the unused rows among the first 65,536; none where the start was refused
abbrev pub places_of : Journal → ℕ
places_of j = cond j.start.now.good (min (length j.rows.now) 65536 - j.used) 0

-- what a journal means
abbrev pub numbers_of : Journal → Numbers
numbers_of j = record { shares = shares_of j; money = money_of j; places = places_of j }

-- what a post writes: accepted, the next row and no other; refused, none
abbrev pub Written : Journal → Fill → Result (Unit {0}) Refusal → Journal → Type 0
Written before f (Ok _) after =
    (row : JournalRow)
    × (row.fill ≡ f)
    × (after.rows.now ≡ slice_set before.rows.now before.used row)
    × (after.used ≡ before.used + 1)
Written before f (Err _) after = (after.rows.now ≡ before.rows.now) × (after.used ≡ before.used)
