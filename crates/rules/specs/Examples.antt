-- Worked examples of the rules, one table: each row is computed from the very definitions that the calls promise.
-- Unless said otherwise: an open day, unit 100, latest price 200,000 and not rising.
use Rattle.std.specs.Prelude.{◌≡◌, ℕ, Bool, true, false, [], ◌∷◌, Some, None}
use Rattle.market.specs.declared.kind.Kind.{Kind}
use Rattle.market.specs.declared.kind.Kind.TheVariants.{Market, Limit, Stop}
use Rattle.market.specs.declared.mark.Mark.{Mark}
use Rattle.market.specs.declared.mark.Mark.TheVariants.{Opening, Sale, Offer}
use Rattle.market.specs.declared.side.Side.{Side}
use Rattle.market.specs.declared.side.Side.TheVariants.{Buy, SellLong, SellShort}
use Rattle.book.specs.Passes.{rows_by}
use Rattle.book.specs.Quotes.{timer_row}
use Rattle.book.specs.Sales.{after_sale, is_rising, sale_rows}
use Rattle.book.specs.declared.order.Order.{Order}
use Rattle.book.specs.declared.row.Row.{Row}
use Rattle.book.specs.declared.quote.Quote.{Quote}
use Rattle.book.specs.declared.sale.RoundLot.{RoundLot}
use Rattle.market.specs.declared.refusal.Refusal.TheVariants.{BadField}
use Rattle.rules.specs.Machine.{refusal_of, reply_of}
use Rattle.rules.specs.States.{State}
use Rattle.rules.specs.declared.call.Call.{Call}
use Rattle.rules.specs.declared.call.Call.TheVariants.{Order as OrderCall}
use Rattle.rules.specs.declared.figures.Phase.TheVariants.{Open}

-- orders that came at time 0: number, side, shares, and prices as the kind has them
abbrev pub order : ℕ → Side → Kind → ℕ → ℕ → ℕ → Order
order n side kind shares limit stop =
    record { number = n; side = side; kind = kind; shares = shares; limit = limit; stop = stop; receipt = 0; elected = false; in_hand = false }

abbrev pub market : ℕ → Side → ℕ → Order
market n side shares = order n side Market shares 0 0

abbrev pub row : ℕ → Side → ℕ → ℕ → Mark → Row
row n side shares price mark = record { number = n; side = side; shares = shares; price = price; mark = mark }

-- a trade after a latest price, which was rising or not; and an opening
abbrev pub trade_after : ℕ → Bool → ℕ → ℕ → RoundLot
trade_after latest was price volume = record { price = price; volume = volume; rising = is_rising latest was price; opening = false }

abbrev pub trade : ℕ → ℕ → RoundLot
trade price volume = trade_after 200000 false price volume

abbrev pub opening_at : ℕ → ℕ → RoundLot
opening_at price volume = record { price = price; volume = volume; rising = is_rising 200000 false price; opening = true }

abbrev pub offered : ℕ → Quote
offered p = record { bid = None; offer = Some p }

-- an open day without orders, and a call that buys so many shares at the market, above a ledger with 100 places
abbrev pub open_day : State
open_day =
    record {
      figures = record { phase = Open; unit = 100; tag = 1; time = 0; quote = offered 200100; latest = 200000; rising = false; accepted = 0 };
      book = [];
    }

abbrev pub buys : ℕ → Call
buys n = OrderCall (record { side = 1; kind = 1; shares = n; limit = 0; stop = 0 })

pub record WorkedExamples : Type 0 where
  -- a market buy of 60 and a market sell of 40, trade at 200,000 of 100: both are filled
  pub both :
      sale_rows (trade 200000 100) (market 1 Buy 60 ∷ market 2 SellLong 40 ∷ [])
      ≡ row 1 Buy 60 200000 Sale ∷ row 2 SellLong 40 200000 Sale ∷ []
  -- a limit buy at 200,000, sale at 199,000: filled at the sale's price
  pub at_sale_price : sale_rows (trade 199000 100) (order 1 Buy Limit 50 200000 0 ∷ []) ≡ row 1 Buy 50 199000 Sale ∷ []
  -- a short market order waits at 200,000, which is not rising, and is filled at 200,100
  pub short_waits : sale_rows (trade 200000 100) (market 1 SellShort 30 ∷ []) ≡ []
  pub short_filled : sale_rows (trade 200100 100) (market 1 SellShort 30 ∷ []) ≡ row 1 SellShort 30 200100 Sale ∷ []
  -- entered after a sale at 200,100, which was rising: a second sale there is a zero-plus tick and fills it, 200,000 does not
  pub zero_plus : sale_rows (trade_after 200100 true 200100 100) (market 1 SellShort 30 ∷ []) ≡ row 1 SellShort 30 200100 Sale ∷ []
  pub minus_tick : sale_rows (trade_after 200100 true 200000 100) (market 1 SellShort 30 ∷ []) ≡ []
  -- a buy stop at 200,100: the sale at 200,100 elects it and does not fill it, the next at 200,500 fills it
  pub stop_waits : sale_rows (trade 200100 100) (order 1 Buy Stop 20 0 200100 ∷ []) ≡ []
  pub stop_filled :
      sale_rows (trade_after 200100 true 200500 100) (after_sale (trade 200100 100) (order 1 Buy Stop 20 0 200100 ∷ []))
      ≡ row 1 Buy 20 200500 Sale ∷ []
  -- a market buy, offer 200,100: 30,000 past its receipt it is not filled, at 30,001 it is
  pub timer_waits : rows_by (timer_row 30000 (offered 200100)) (market 1 Buy 70 ∷ []) ≡ []
  pub timer_fills : rows_by (timer_row 30001 (offered 200100)) (market 1 Buy 70 ∷ []) ≡ row 1 Buy 70 200100 Offer ∷ []
  -- unit 10, opening of 10, market buys of 9 and 9 and then a limit buy of 9: the limit order waits, a market buy in its
  -- place is filled
  pub opening_limit :
      sale_rows (opening_at 200000 10) (market 1 Buy 9 ∷ market 2 Buy 9 ∷ order 3 Buy Limit 9 200000 0 ∷ [])
      ≡ row 1 Buy 9 200000 Opening ∷ row 2 Buy 9 200000 Opening ∷ []
  pub opening_market :
      sale_rows (opening_at 200000 10) (market 1 Buy 9 ∷ market 2 Buy 9 ∷ market 3 Buy 9 ∷ [])
      ≡ row 1 Buy 9 200000 Opening ∷ row 2 Buy 9 200000 Opening ∷ row 3 Buy 9 200000 Opening ∷ []
  -- 99 shares are accepted, 100 and 0 refused as a bad field
  pub size_99 : (refusal_of open_day (buys 99) 0 100 ≡ None) × (reply_of open_day (buys 99) ≡ 1)
  pub size_100 : refusal_of open_day (buys 100) 0 100 ≡ Some BadField
  pub size_0 : refusal_of open_day (buys 0) 0 100 ≡ Some BadField
