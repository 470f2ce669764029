use Rattle.std.proofs.Common.{sym, ◌∙◌, arith}
use Rattle.std.proofs.lemmas.Int.{ints}
use Rattle.ledger.specs.Journals.{paid_of}
use Rattle.ledger.proofs.Added.{sum_z_more}
use Rattle.ledger.proofs.journal_ledger.money_of.Goals as goal

pub loop-row-preserved : goal.loop-row-preserved
loop-row-preserved c =
    let next = sum_z_more paid_of c.args.rows.now c.loop-row.row-index c.row-item.result c.loop-row.sum c.paid-sum.result c.loop-row-test.true (sym c.loop-row.sum-is ∙ c.loop-row.invariant.2) c.row-item.is c.paid-sum.ensures.value in
    (omega arith, (omega (arith, ints), omega (arith, ints)), omega (arith, ints, next))
