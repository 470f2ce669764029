-- Where on each side a sale stops: the code's way to say which orders have fewer shares ahead than M + V.
use Rattle.std.specs.Prelude.{ℕ, Bool, true, cond, ◌&&◌, ◌||◌, Some, None, Option, nat_lt}
use Rattle.market.specs.Terms.{market_side}
use Rattle.market.specs.declared.side.MarketSide.{MarketSide}
use Rattle.market.specs.declared.side.MarketSide.TheVariants.{Buying, Selling}
use Rattle.book.specs.Sales.{eligible, is_market, row_of, sale_mark}
use Rattle.book.specs.declared.order.Order.{Order}
use Rattle.book.specs.declared.row.Row.{Row}
use Rattle.book.specs.declared.pass.SalePass.{SalePass}

-- a number below a bound, if there is one
abbrev pub below : Option ℕ → ℕ → Bool
below None n = true
below (Some end) n = nat_lt n end

abbrev pub cut_on : SalePass → MarketSide → Option ℕ
cut_on c Buying = c.buys
cut_on c Selling = c.sells

-- the row with which an order leaves, by the cuts
abbrev pub cut_row : SalePass → Order → Option Row
cut_row c o =
    cond
    (eligible c.sale o && ((c.sale.opening && is_market o.kind o.elected) || below (cut_on c (market_side o.side)) o.number))
    (Some (row_of c.sale.price (sale_mark c.sale) o)) None
