use Rattle.std.proofs.Common.{◌≡◌, ◌*◌, ◌≤◌, length, take}
use Rattle.ledger.specs.Bounds.{Within}
use Rattle.ledger.specs.Sums.{sum_z}
use Rattle.ledger.specs.Journals.{paid_of}
use Rattle.ledger.proofs.journal_ledger.money_of.Given as goal

abbrev pub invariant-loop-row : goal.invariant-loop-row
invariant-loop-row l =
    (l.row-index ≤ length l.rows)
    × Within (19800000000 * l.row-index) l.sum
    × (l.sum ≡ sum_z paid_of (take l.row-index l.rows))
