-- The state machine of a day: for each call why it is refused, its rows, its answer and the state after it.
use Rattle.std.specs.Prelude.{ℕ, ◌+◌, Bool, true, false, cond, not, ◌&&◌, ◌||◌, List, [], ◌∷◌, ◌++◌, length, Some, None, filter, Option, ◌==◌, nat_lt}
use Rattle.std.specs.List.{find}
use Rattle.market.specs.Limits.{has_accepted_room, has_live_room, is_price, is_time, is_volume}
use Rattle.market.specs.Terms.{kind_number, side_number}
use Rattle.market.specs.declared.kind.Kind.{Kind}
use Rattle.market.specs.declared.kind.Kind.TheVariants.{Market, Limit, Stop, StopLimit}
use Rattle.market.specs.declared.mark.Mark.{Mark}
use Rattle.market.specs.declared.mark.Mark.TheVariants.{Opening, Sale, Offer, Bid, Hand, Lapse}
use Rattle.market.specs.declared.refusal.Refusal.{Refusal}
use Rattle.market.specs.declared.refusal.Refusal.TheVariants.{DayClosed, DayUnopened, DayOpen, BadField, TimeEarlier, QuoteCrossed, AcceptedFull, BookFull, NoSuchOrder, OrderInHand, ReportFull, LedgerFull}
use Rattle.market.specs.declared.side.Side.{Side}
use Rattle.market.specs.declared.side.Side.TheVariants.{Buy, SellLong, SellShort}
use Rattle.ledger.specs.Posting.{in_field}
use Rattle.ledger.specs.declared.fill.Fill.{Fill}
use Rattle.book.specs.Orders.{find_in, lawful}
use Rattle.book.specs.Passes.{rows_by, stays_by}
use Rattle.book.specs.Quotes.{close_row, timer_row}
use Rattle.book.specs.Sales.{after_sale, is_rising, sale_rows}
use Rattle.book.specs.declared.order.Order.{Order}
use Rattle.book.specs.declared.quote.Quote.{Quote}
use Rattle.book.specs.declared.row.Row.{Row}
use Rattle.book.specs.declared.sale.RoundLot.{RoundLot}
use Rattle.rules.specs.States.{State, is_closed, is_open, is_unopened}
use Rattle.rules.specs.declared.call.Call.{Call}
use Rattle.rules.specs.declared.call.Call.TheVariants.{Order as NewOrderCall, Cancel, Quote as QuoteCall, Clock, Opening as OpeningCall, Trade, Close}
use Rattle.rules.specs.declared.call.NewOrder.{NewOrder}
use Rattle.rules.specs.declared.call.NewQuote.{NewQuote}
use Rattle.rules.specs.declared.call.NewSale.{NewSale}
use Rattle.rules.specs.declared.figures.Figures.{Figures}
use Rattle.rules.specs.declared.figures.Phase.{Phase}
use Rattle.rules.specs.declared.figures.Phase.TheVariants.{Open, Closed}

-- the side and the kind that have a number, if any
abbrev pub side_of : ℕ → Option Side
side_of n = find (λ side. side_number side == n) (Buy ∷ SellLong ∷ SellShort ∷ [])

abbrev pub kind_of : ℕ → Option Kind
kind_of n = find (λ kind. kind_number kind == n) (Market ∷ Limit ∷ Stop ∷ StopLimit ∷ [])

-- the order that an order call makes, where its side and kind are known and it is lawful
abbrev pub order_of : Figures → ℕ → ℕ → ℕ → Side → Kind → Order
order_of f shares limit stop side kind =
    record {
      number = f.accepted + 1;
      side = side;
      kind = kind;
      shares = shares;
      limit = limit;
      stop = stop;
      receipt = f.time;
      elected = false;
      in_hand = false;
    }

abbrev pub if_lawful : ℕ → Order → Option Order
if_lawful unit o = cond (lawful unit o) (Some o) None

abbrev pub by_kind : Figures → NewOrder → Side → Option Kind → Option Order
by_kind f n side None = None
by_kind f n side (Some kind) = if_lawful f.unit (order_of f n.shares n.limit n.stop side kind)

abbrev pub by_side : Figures → NewOrder → Option Side → Option Order
by_side f n None = None
by_side f n (Some side) = by_kind f n side (kind_of n.kind)

abbrev pub new_order : Figures → NewOrder → Option Order
new_order f n = by_side f n (side_of n.side)

-- whether a row is posted: every row but a lapse
abbrev pub is_fill : Mark → Bool
is_fill Opening = true
is_fill Sale = true
is_fill Offer = true
is_fill Bid = true
is_fill Hand = true
is_fill Lapse = false

abbrev pub fills_of : List Row → List Row
fills_of rows = filter (λ r. is_fill r.mark) rows

-- a price as a quote call gives it: 0 where it is missing
abbrev pub price_or_none : ℕ → Option ℕ
price_or_none p = cond (p == 0) None (Some p)

abbrev pub quote_of : NewQuote → Quote
quote_of q = record { bid = price_or_none q.bid; offer = price_or_none q.offer }

abbrev pub round_lot : Figures → Bool → NewSale → RoundLot
round_lot f opening n =
    record { price = n.price; volume = n.volume; rising = is_rising f.latest f.rising n.price; opening = opening }

-- refusals 4, 7 and 8 of an order call
abbrev pub order_refusal : Figures → List Order → Option Order → Option Refusal
order_refusal f book None = Some BadField
order_refusal f book (Some o) =
    cond (has_accepted_room f.accepted) (cond (has_live_room (length book)) None (Some BookFull)) (Some AcceptedFull)

-- refusals 9 and 10 of a cancel
abbrev pub cancel_refusal : Option Order → Option Refusal
cancel_refusal None = Some NoSuchOrder
cancel_refusal (Some o) = cond o.in_hand (Some OrderInHand) None

-- refusals 4 and 6 of a quote
abbrev pub quote_refusal : NewQuote → Option Refusal
quote_refusal q =
    cond ((q.bid == 0 || is_price q.bid) && (q.offer == 0 || is_price q.offer))
    (cond (q.bid == 0 || q.offer == 0 || nat_lt q.bid q.offer) None (Some QuoteCrossed)) (Some BadField)

-- refusals 4 and 5 of a clock
abbrev pub clock_refusal : Figures → ℕ → Option Refusal
clock_refusal f time = cond (is_time time) (cond (nat_lt time f.time) (Some TimeEarlier) None) (Some BadField)

-- refusal 4 of a sale
abbrev pub sale_refusal : Figures → NewSale → Option Refusal
sale_refusal f n = cond (is_price n.price && is_volume f.unit n.volume) None (Some BadField)

-- the first of refusals 2 to 10 that fits, in a day that is not closed
abbrev pub field_refusal : State → Call → Option Refusal
field_refusal s (NewOrderCall n) = order_refusal s.figures s.book (new_order s.figures n)
field_refusal s (Cancel number) = cancel_refusal (find_in number s.book)
field_refusal s (QuoteCall q) = quote_refusal q
field_refusal s (Clock time) = clock_refusal s.figures time
field_refusal s (OpeningCall n) = cond (is_open s.figures.phase) (Some DayOpen) (sale_refusal s.figures n)
field_refusal s (Trade n) = cond (is_unopened s.figures.phase) (Some DayUnopened) (sale_refusal s.figures n)
field_refusal s Close = None

-- the rows of a call that is accepted
abbrev pub rows_of : State → Call → List Row
rows_of s (NewOrderCall n) = []
rows_of s (Cancel number) = []
rows_of s (QuoteCall q) = []
rows_of s (Clock time) = cond (is_open s.figures.phase) (rows_by (timer_row time s.figures.quote) s.book) []
rows_of s (OpeningCall n) = sale_rows (round_lot s.figures true n) s.book
rows_of s (Trade n) = sale_rows (round_lot s.figures false n) s.book
rows_of s Close = rows_by (close_row (is_open s.figures.phase) s.figures.quote) s.book

-- refusals 13 and 14: too few places for the rows in the report, or for the postings in the ledger
abbrev pub room_refusal : List Row → ℕ → ℕ → Option Refusal
room_refusal rows room places = cond (nat_lt room (length rows)) (Some ReportFull) (cond (nat_lt places (length (fills_of rows))) (Some LedgerFull) None)

-- the first of two refusals
abbrev pub or_else : Option Refusal → Option Refusal → Option Refusal
or_else None later = later
or_else (Some e) later = Some e

-- the first refusal that fits a call with a report of so many places, above a ledger with so many places
abbrev pub refusal_of : State → Call → ℕ → ℕ → Option Refusal
refusal_of s c room places =
    cond (is_closed s.figures.phase) (Some DayClosed) (or_else (field_refusal s c) (room_refusal (rows_of s c) room places))

abbrev pub shares_of : Option Order → ℕ
shares_of None = 0
shares_of (Some o) = o.shares

-- what an accepted call answers
abbrev pub reply_of : State → Call → ℕ
reply_of s (NewOrderCall n) = s.figures.accepted + 1
reply_of s (Cancel number) = shares_of (find_in number s.book)
reply_of s (QuoteCall q) = 0
reply_of s (Clock time) = length (rows_of s (Clock time))
reply_of s (OpeningCall n) = length (rows_of s (OpeningCall n))
reply_of s (Trade n) = length (rows_of s (Trade n))
reply_of s Close = length (rows_of s Close)

-- figures with one of them changed
abbrev pub with_accepted : Figures → Figures
with_accepted f = record { phase = f.phase; unit = f.unit; tag = f.tag; time = f.time; quote = f.quote; latest = f.latest; rising = f.rising; accepted = f.accepted + 1 }

abbrev pub with_quote : Quote → Figures → Figures
with_quote q f = record { phase = f.phase; unit = f.unit; tag = f.tag; time = f.time; quote = q; latest = f.latest; rising = f.rising; accepted = f.accepted }

abbrev pub with_time : ℕ → Figures → Figures
with_time t f = record { phase = f.phase; unit = f.unit; tag = f.tag; time = t; quote = f.quote; latest = f.latest; rising = f.rising; accepted = f.accepted }

abbrev pub with_phase : Phase → Figures → Figures
with_phase p f = record { phase = p; unit = f.unit; tag = f.tag; time = f.time; quote = f.quote; latest = f.latest; rising = f.rising; accepted = f.accepted }

-- the phase is open, the sale's price is the latest, and its rising is kept
abbrev pub after_round_lot : RoundLot → Figures → Figures
after_round_lot s f = record { phase = Open; unit = f.unit; tag = f.tag; time = f.time; quote = f.quote; latest = s.price; rising = s.rising; accepted = f.accepted }

abbrev pub joined : Option Order → List Order → List Order
joined None book = book
joined (Some o) book = book ++ o ∷ []

-- the state after a call that is accepted
abbrev pub after_call : State → Call → State
after_call s (NewOrderCall n) = record { figures = with_accepted s.figures; book = joined (new_order s.figures n) s.book }
after_call s (Cancel number) = record { figures = s.figures; book = filter (λ o. not (o.number == number)) s.book }
after_call s (QuoteCall q) = record { figures = with_quote (quote_of q) s.figures; book = s.book }
after_call s (Clock time) =
    record {
      figures = with_time time s.figures;
      book = cond (is_open s.figures.phase) (stays_by (timer_row time s.figures.quote) s.book) s.book;
    }
after_call s (OpeningCall n) =
    record { figures = after_round_lot (round_lot s.figures true n) s.figures; book = after_sale (round_lot s.figures true n) s.book }
after_call s (Trade n) =
    record { figures = after_round_lot (round_lot s.figures false n) s.figures; book = after_sale (round_lot s.figures false n) s.book }
after_call s Close =
    record {
      figures = with_phase Closed s.figures;
      book = stays_by (close_row (is_open s.figures.phase) s.figures.quote) s.book;
    }

-- what a row says to a ledger
abbrev pub fill_of : Row → Fill
fill_of r = record { side = r.side; shares = r.shares; price = r.price }

-- a fill whose fields a ledger takes; a lapse is not posted
abbrev pub is_posted_well : Row → Bool
is_posted_well r = not (is_fill r.mark) || in_field r.shares r.price

-- the quote at which the timer fills: none before the opening
abbrev pub timer_quote : Figures → Quote
timer_quote f = cond (is_open f.phase) f.quote (record { bid = None; offer = None })
