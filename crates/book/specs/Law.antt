-- What a trade does on each side of the market, in the Rule's own words.
use Rattle.std.specs.Prelude.{◌≡◌, ℕ, ◌-◌, ◌<◌, Bool, true, false, ◌&&◌, List, length, take, sum_by, filter}
use Rattle.market.specs.Terms.{market_side}
use Rattle.market.specs.declared.side.MarketSide.{MarketSide}
use Rattle.market.specs.declared.side.MarketSide.TheVariants.{Buying, Selling}
use Rattle.book.specs.Sales.{eligible, filled, matched, reach}
use Rattle.book.specs.declared.order.Order.{Order}
use Rattle.book.specs.declared.sale.RoundLot.{RoundLot}

abbrev pub same_side : MarketSide → MarketSide → Bool
same_side Buying Buying = true
same_side Buying Selling = false
same_side Selling Buying = false
same_side Selling Selling = true

-- the order stands on this side of the market
abbrev pub on : MarketSide → Order → Bool
on which o = same_side which (market_side o.side)

-- the eligible orders of a side, by time priority, and those among them that the sale fills
abbrev pub eligible_on : RoundLot → List Order → MarketSide → List Order
eligible_on s book which = filter (λ o. eligible s o && on which o) book

abbrev pub filled_on : RoundLot → List Order → MarketSide → List Order
filled_on s book which = filter (λ o. filled s book o && on which o) book

abbrev pub shares_in : List Order → ℕ
shares_in xs = sum_by (λ o. o.shares) xs

-- a list without its last order
abbrev pub but_last : List Order → List Order
but_last xs = take (length xs - 1) xs

-- on a side, the orders that a trade fills are the first of the eligible ones by time priority; without the last of
-- them they hold fewer than M + V shares, so that it is the one that may pass the volume; and the smaller side, whose
-- eligible shares are M, is filled whole
pub record Priority (s : RoundLot) (book : List Order) (which : MarketSide) : Type 0 where
  pub first : filled_on s book which ≡ take (length (filled_on s book which)) (eligible_on s book which)
  pub reached : 0 < length (filled_on s book which) → shares_in (but_last (filled_on s book which)) < reach s book
  pub whole : shares_in (eligible_on s book which) ≡ matched s book → filled_on s book which ≡ eligible_on s book which

-- that holds of every trade, on both sides
abbrev pub TradeLaw : RoundLot → List Order → Type 0
TradeLaw s book = s.opening ≡ false → 0 < s.volume → (which : MarketSide) → Priority s book which
