-- Sales of round lots, and what they fill: Rule 124(b)(i) to (iii), (b)(v), (b)(vii), (c) to (f).
use Rattle.std.specs.Prelude.{ℕ, ◌+◌, min, Bool, true, false, cond, not, ◌&&◌, ◌||◌, List, map, Some, None, filter, Option, ◌==◌, nat_le, nat_lt}
use Rattle.market.specs.Sums.{sum_on}
use Rattle.market.specs.Terms.{has_stop, market_side}
use Rattle.market.specs.declared.kind.Kind.{Kind}
use Rattle.market.specs.declared.kind.Kind.TheVariants.{Market, Limit, Stop, StopLimit}
use Rattle.market.specs.declared.mark.Mark.{Mark}
use Rattle.market.specs.declared.mark.Mark.TheVariants.{Opening, Sale}
use Rattle.market.specs.declared.side.Side.{Side}
use Rattle.market.specs.declared.side.Side.TheVariants.{Buy, SellLong, SellShort}
use Rattle.market.specs.declared.side.MarketSide.{MarketSide}
use Rattle.market.specs.declared.side.MarketSide.TheVariants.{Buying, Selling}
use Rattle.book.specs.Passes.{rows_by, stays_by}
use Rattle.book.specs.declared.order.Order.{Order}
use Rattle.book.specs.declared.row.Row.{Row}
use Rattle.book.specs.declared.sale.RoundLot.{RoundLot}

-- Rule 124(d): a sale is rising, a plus or zero-plus tick, when its price is above the latest, or equals it and the
-- latest sale was rising
abbrev pub is_rising : ℕ → Bool → ℕ → Bool
is_rising latest was price = nat_lt latest price || (price == latest && was)

-- a market order: one from the start, or a stop once it is elected, Rule 124(e)
abbrev pub is_market : Kind → Bool → Bool
is_market Market elected = true
is_market Limit elected = false
is_market Stop elected = elected
is_market StopLimit elected = false

-- a limit order: one from the start, or a stop limit once it is elected, Rule 124(f)
abbrev pub is_limit : Kind → Bool → Bool
is_limit Market elected = false
is_limit Limit elected = true
is_limit Stop elected = false
is_limit StopLimit elected = elected

-- a sale at this price is within a limit, Rule 124(c): at or below a buy's, at or above a sell's
abbrev pub within : MarketSide → ℕ → ℕ → Bool
within Buying limit price = nat_le price limit
within Selling limit price = nat_le limit price

-- a short order waits for a rising sale, Rule 124(b)(vii) and (d)
abbrev pub tick_allows : Side → Bool → Bool
tick_allows Buy rising = true
tick_allows SellLong rising = true
tick_allows SellShort rising = rising

-- an order that a sale may fill; a stop not yet elected is neither a market nor a limit order
abbrev pub eligible : RoundLot → Order → Bool
eligible s o =
    not o.in_hand
    && tick_allows o.side s.rising
    && (is_market o.kind o.elected || (is_limit o.kind o.elected && within (market_side o.side) o.limit s.price))

-- the shares of the eligible orders on a side of the market
abbrev pub eligible_shares : RoundLot → MarketSide → List Order → ℕ
eligible_shares s which book = sum_on (λ o. o.side) (λ o. o.shares) which (filter (eligible s) book)

-- M, what buys and sells have in common, Rule 124(b)(i); and M + V
unfoldable pub matched : RoundLot → List Order → ℕ
matched s book = min (eligible_shares s Buying book) (eligible_shares s Selling book)

unfoldable pub reach : RoundLot → List Order → ℕ
reach s book = matched s book + s.volume

-- the eligible shares on a side of the market with numbers smaller than n: of an order on that side with the number n,
-- the shares ahead
unfoldable pub ahead : RoundLot → List Order → MarketSide → ℕ → ℕ
ahead s book which n = eligible_shares s which (filter (λ x. nat_lt x.number n) book)

-- the order is filled whole, at the sale's price: an eligible order whose shares ahead are fewer than M + V, Rule
-- 124(b)(ii) and (iii); in the opening each eligible market order, Rule 124(b)(v)
abbrev pub filled : RoundLot → List Order → Order → Bool
filled s book o =
    eligible s o && ((s.opening && is_market o.kind o.elected) || nat_lt (ahead s book (market_side o.side) o.number) (reach s book))

abbrev pub sale_mark : RoundLot → Mark
sale_mark s = cond s.opening Opening Sale

abbrev pub row_of : ℕ → Mark → Order → Row
row_of price mark o = record { number = o.number; side = o.side; shares = o.shares; price = price; mark = mark }

-- whether the sale takes an order out of the book, and with which row
abbrev pub sale_row : RoundLot → List Order → Order → Option Row
sale_row s book o = cond (filled s book o) (Some (row_of s.price (sale_mark s) o)) None

-- after the fills, a sale at this price reaches a stop, Rule 124(e) and (f): at or below it for a buy, at or above it
-- for a sell
abbrev pub reaches_stop : MarketSide → ℕ → ℕ → Bool
reaches_stop Buying stop price = nat_le stop price
reaches_stop Selling stop price = nat_le price stop

abbrev pub elect : ℕ → Order → Order
elect price o =
    record {
      number = o.number;
      side = o.side;
      kind = o.kind;
      shares = o.shares;
      limit = o.limit;
      stop = o.stop;
      receipt = o.receipt;
      elected = o.elected || (has_stop o.kind && reaches_stop (market_side o.side) o.stop price);
      in_hand = o.in_hand;
    }

-- the rows of a sale, and the book after it
abbrev pub sale_rows : RoundLot → List Order → List Row
sale_rows s book = rows_by (sale_row s book) book

abbrev pub after_sale : RoundLot → List Order → List Order
after_sale s book = map (elect s.price) (stays_by (sale_row s book) book)
