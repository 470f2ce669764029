-- Fills at the quote: the timer, Rule 124(b)(iv), and the close, Rule 124(b)(vi).
use Rattle.std.specs.Prelude.{ℕ, ◌+◌, Bool, cond, not, ◌&&◌, Some, None, Option, nat_lt}
use Rattle.market.specs.declared.mark.Mark.{Mark}
use Rattle.market.specs.declared.mark.Mark.TheVariants.{Offer, Bid, Lapse}
use Rattle.market.specs.declared.side.Side.{Side}
use Rattle.market.specs.declared.side.Side.TheVariants.{Buy, SellLong, SellShort}
use Rattle.book.specs.Sales.{is_market, row_of}
use Rattle.book.specs.declared.order.Order.{Order}
use Rattle.book.specs.declared.row.Row.{Row}
use Rattle.book.specs.declared.quote.Quote.{Quote}

-- a row at a price that may be missing
abbrev pub row_at : Option ℕ → Mark → Order → Option Row
row_at None mark o = None
row_at (Some p) mark o = Some (row_of p mark o)

-- a buy is filled at the offer, a sell long at the bid; short orders have no quote, Rule 124(b)(vii)
abbrev pub quote_row_of : Side → Quote → Order → Option Row
quote_row_of Buy q o = row_at q.offer Offer o
quote_row_of SellLong q o = row_at q.bid Bid o
quote_row_of SellShort q o = None

-- a waiting market order, where its price is there
abbrev pub quote_row : Quote → Order → Option Row
quote_row q o = cond (not o.in_hand && is_market o.kind o.elected) (quote_row_of o.side q o) None

-- the time from which an order's thirty seconds count
abbrev pub counts_from : Order → ℕ
counts_from o = o.receipt

-- the timer: more than 30,000 milliseconds past that time
abbrev pub timer_row : ℕ → Quote → Order → Option Row
timer_row time q o = cond (nat_lt (counts_from o + 30000) time) (quote_row q o) None

-- what is not filled lapses
abbrev pub or_lapse : Option Row → Order → Option Row
or_lapse None o = Some (row_of 0 Lapse o)
or_lapse (Some r) o = Some r

-- the close: in an open day what the quote fills, due or not; every other live order lapses
abbrev pub close_row : Bool → Quote → Order → Option Row
close_row opened q o = or_lapse (cond opened (quote_row q o) None) o
