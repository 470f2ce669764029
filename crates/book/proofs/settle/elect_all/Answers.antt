use Rattle.std.proofs.Common.{get_or, set, ap, ◌∙◌, arith}
use Rattle.std.proofs.lemmas.List.{get_or_default}
use Rattle.std.proofs.lemmas.List.Edits.{map_over_more}
use Rattle.book.specs.Orders.{no_order}
use Rattle.book.specs.Sales.{elect}
use Rattle.book.proofs.settle.elect_all.Goals as goal

pub loop-order-preserved : goal.loop-order-preserved
loop-order-preserved c =
    let l = c.loop-order in
    let o = get_or l.order-items l.order-index no_order in
    ap (set l.order-items l.order-index) c.elect.ensures
    ∙ map_over_more (elect c.args.price) c.deref_mut-order-items.result.now l.order-items l.order-index o c.loop-order-test.true l.invariant (get_or_default l.order-items l.order-index no_order o (omega arith))
