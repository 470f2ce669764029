use Rattle.std.proofs.Common.{sym, subst}
use Rattle.ledger.specs.Posting.{Posted}
use Rattle.ledger.specs.declared.fill.Fill.{Fill}
use Rattle.day.proofs.Postings.{fill_posted}
use Rattle.day.proofs.posting.post_row.Goals as goal

pub returns-then-is_fill : goal.returns-then-is_fill
returns-then-is_fill g c =
    let at = g.L.Ledger.numbers in
    let before = at c.args.ledger.now in
    let after = at c.post.new.self in
    fill_posted c.args.row.now before after c.post.result (sym c.if-is_fill.ensures) c.requires.fields c.requires.room
    (subst (λ (f : Fill). Posted f before c.post.result after) c.fill_of.ensures c.post.ensures)
