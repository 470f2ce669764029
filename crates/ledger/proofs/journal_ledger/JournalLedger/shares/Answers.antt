use Rattle.std.proofs.Common.{take, arith}
use Rattle.std.proofs.lemmas.Int.{ints}
use Rattle.ledger.proofs.Added.{shares_by}
use Rattle.ledger.proofs.journal_ledger.JournalLedger.shares.Goals as goal

pub returns : goal.returns
returns c =
    let j = c.args.self.now in
    let by =
    shares_by j.start.now.shares _ (take j.used j.rows.now) c.shares_on-bought.result c.shares_on-sold.result
    c.written-rows.ensures.value c.shares_on-bought.ensures.value c.shares_on-sold.ensures.value
    in
    omega (arith, ints, by)
