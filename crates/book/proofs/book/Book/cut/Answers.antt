use Rattle.std.proofs.Common.{◌≡◌, ◌+◌, true, ltb, get_or, sym, ap, ◌∙◌}
use Rattle.book.specs.Orders.{no_order, rises}
use Rattle.book.specs.Sales.{ahead}
use Rattle.book.proofs.Ahead.{weight, cut_at, cut_none}
use Rattle.book.proofs.book.Book.cut.Goals as goal

pub returns-then-sum-limit : goal.returns-then-sum-limit
returns-then-sum-limit c =
    let l = c.loop-order in
    let xs = c.orders-order-items.result.now in
    let here = c.orders-order-items.ensures in
    let rising : rises xs ≡ true = ap rises here ∙ c.args.self.now.rising in
    let v : c.from-sum.result ≡ weight c.args.sale.now c.args.which (get_or xs l.order-index no_order) = cc in
    let at = cut_at c.args.sale.now xs c.args.which c.args.limit l.sum c.from-sum.result l.order-index rising c.loop-order-test.true l.invariant.0 v l.invariant.2 c.if-sum-limit.true in
    λ n. ap (λ book. ltb (ahead c.args.sale.now book c.args.which n) c.args.limit) (sym here) ∙ at n ∙ ap (λ m. ltb n (m + 1)) (sym c.from.ensures)

pub returns : goal.returns
returns c =
    let l = c.loop-order in
    λ n. ap (λ book. ltb (ahead c.args.sale.now book c.args.which n) c.args.limit) (sym c.orders-order-items.ensures)
    ∙ cut_none c.args.sale.now c.orders-order-items.result.now c.args.which c.args.limit l.sum l.order-index c.loop-order-test.false l.invariant.0 l.invariant.2 n
