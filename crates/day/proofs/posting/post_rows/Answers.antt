use Rattle.book.specs.Orders.{no_row}
use Rattle.book.proofs.Ahead.{pass_at}
use Rattle.rules.specs.Machine.{is_posted_well}
use Rattle.day.proofs.Postings.{posted_more, room_more}
use Rattle.day.proofs.posting.post_rows.Goals as goal

pub post_row-requires : goal.post_row-requires
post_row-requires g c =
    let at = g.L.Ledger.numbers in
    let l = c.loop-row in
    record {
      fields = pass_at is_posted_well c.args.rows.now l.row-index no_row c.loop-row-test.true c.requires.fields;
      room = room_more c.args.rows.now l.row-index (at c.args.ledger.now) (at l.ledger) c.loop-row-test.true c.requires.room l.invariant;
    }

pub loop-row-preserved : goal.loop-row-preserved
loop-row-preserved g c =
    let at = g.L.Ledger.numbers in
    let l = c.loop-row in
    posted_more c.args.rows.now l.row-index (at c.args.ledger.now) (at l.ledger) (at c.post_row.new.ledger) c.loop-row-test.true l.invariant c.post_row.ensures
