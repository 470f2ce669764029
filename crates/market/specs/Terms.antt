-- The terms that the rules give numbers to. Each number stands here once, and every promise uses it from here.
use Rattle.std.specs.Prelude.{◌≡◌, ℕ, Bool, true, false, Ok, Err, Result, ◌≢◌}
use Rattle.market.specs.declared.numbered.UnknownNumber.{UnknownNumber}
use Rattle.market.specs.declared.side.Side.{Side}
use Rattle.market.specs.declared.side.Side.TheVariants.{Buy, SellLong, SellShort}
use Rattle.market.specs.declared.side.MarketSide.{MarketSide}
use Rattle.market.specs.declared.side.MarketSide.TheVariants.{Buying, Selling}
use Rattle.market.specs.declared.kind.Kind.{Kind}
use Rattle.market.specs.declared.kind.Kind.TheVariants.{Market, Limit, Stop, StopLimit}
use Rattle.market.specs.declared.mark.Mark.{Mark}
use Rattle.market.specs.declared.mark.Mark.TheVariants.{Opening, Sale, Offer, Bid, Hand, Lapse}
use Rattle.market.specs.declared.refusal.Refusal.{Refusal}
use Rattle.market.specs.declared.refusal.Refusal.TheVariants.{DayClosed, DayUnopened, DayOpen, BadField, TimeEarlier, QuoteCrossed, AcceptedFull, BookFull, NoSuchOrder, OrderInHand, NotForTicket, BadTicket, ReportFull, LedgerFull, FileTooLong, FileCut, BadWord, OutputShort}

-- what reading a number gives: the term that has it; and an error, with the number, only where no term has it
abbrev pub Reads : {X : Type 0} → (X → ℕ) → ℕ → Result X UnknownNumber → Type 0
Reads number n (Ok x) = number x ≡ n
Reads {X} number n (Err e) = (e.0 ≡ n) × ((x : X) → number x ≢ n)

abbrev pub side_number : Side → ℕ
side_number Buy = 1
side_number SellLong = 2
side_number SellShort = 3

-- long and short sells are one side of the market
abbrev pub market_side : Side → MarketSide
market_side Buy = Buying
market_side SellLong = Selling
market_side SellShort = Selling

abbrev pub kind_number : Kind → ℕ
kind_number Market = 1
kind_number Limit = 2
kind_number Stop = 3
kind_number StopLimit = 4

-- the kinds that have a limit price, and those that have a stop price
abbrev pub has_limit : Kind → Bool
has_limit Market = false
has_limit Limit = true
has_limit Stop = false
has_limit StopLimit = true

abbrev pub has_stop : Kind → Bool
has_stop Market = false
has_stop Limit = false
has_stop Stop = true
has_stop StopLimit = true

abbrev pub mark_number : Mark → ℕ
mark_number Opening = 1
mark_number Sale = 2
mark_number Offer = 3
mark_number Bid = 4
mark_number Hand = 5
mark_number Lapse = 6

abbrev pub refusal_number : Refusal → ℕ
refusal_number DayClosed = 1
refusal_number DayUnopened = 2
refusal_number DayOpen = 3
refusal_number BadField = 4
refusal_number TimeEarlier = 5
refusal_number QuoteCrossed = 6
refusal_number AcceptedFull = 7
refusal_number BookFull = 8
refusal_number NoSuchOrder = 9
refusal_number OrderInHand = 10
refusal_number NotForTicket = 11
refusal_number BadTicket = 12
refusal_number ReportFull = 13
refusal_number LedgerFull = 14
refusal_number FileTooLong = 15
refusal_number FileCut = 16
refusal_number BadWord = 17
refusal_number OutputShort = 18
