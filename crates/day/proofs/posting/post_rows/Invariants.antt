use Rattle.std.proofs.Common.{take}
use Rattle.rules.specs.Machine.{fills_of}
use Rattle.rules.specs.Steps.{PostedOnce}
use Rattle.day.proofs.posting.post_rows.Given as goal

abbrev pub invariant-loop-row : goal.invariant-loop-row
invariant-loop-row g l =
    let at = g.L.Ledger.numbers in
    PostedOnce (at l.initial.ledger) (fills_of (take l.row-index l.rows)) (at l.ledger)
