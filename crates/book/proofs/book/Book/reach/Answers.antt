use Rattle.std.proofs.Common.{◌≡◌, ◌≤◌, length, vec_items, ap, ◌∙◌, arith}
use Rattle.market.proofs.Fronts.{counted_all}
use Rattle.market.specs.Sums.{counted}
use Rattle.market.specs.declared.side.MarketSide.TheVariants.{Buying, Selling}
use Rattle.book.specs.Sales.{eligible_shares, matched, reach}
use Rattle.book.proofs.book.Book.reach.Goals as goal

pub returns : goal.returns
unfolding reach matched
returns c =
    let s = c.args.sale.now in
    let b = c.args.self.now in
    let book = vec_items b.orders in
    let few : length book ≤ 65536 = omega (arith, b.few, b.orders.ok.0) in
    let all = counted_all book few in
    let buys : c.shares_where-buys.result ≡ eligible_shares s Buying book = c.shares_where-buys.ensures.value ∙ ap (λ l. eligible_shares s Buying (counted l)) c.orders.ensures ∙ ap (eligible_shares s Buying) all in
    let sells : c.shares_where-sells.result ≡ eligible_shares s Selling book = c.shares_where-sells.ensures.value ∙ ap (λ l. eligible_shares s Selling (counted l)) c.orders-2.ensures ∙ ap (eligible_shares s Selling) all in
    omega (arith, c.min.ensures, c.from.ensures, buys, sells)
