use Rattle.std.proofs.Common.{◌∙◌}
use Rattle.ledger.proofs.journal_ledger.JournalLedger.post.Goals as goal

pub returns-clause-written : goal.returns-clause-written
returns-clause-written c = let w = c.write_next.ensures.written in (w.0, w.1 ∙ c.in_ok-lot.ensures, w.2, w.3)
