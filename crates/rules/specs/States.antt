-- The state of a day: its figures and its live orders.
use Rattle.std.specs.Prelude.{ℕ, Bool, true, false, not, ◌&&◌, ◌||◌, List, Some, None, Option, nat_le}
use Rattle.market.specs.Limits.{is_price, is_tag, is_time, is_unit}
use Rattle.market.specs.Terms.{has_stop}
use Rattle.market.specs.declared.side.Side.{Side}
use Rattle.market.specs.declared.side.Side.TheVariants.{Buy, SellLong, SellShort}
use Rattle.book.specs.Sales.{is_market}
use Rattle.book.specs.declared.order.Order.{Order}
use Rattle.rules.specs.declared.figures.Figures.{Figures}
use Rattle.rules.specs.declared.figures.Phase.{Phase}
use Rattle.rules.specs.declared.figures.Phase.TheVariants.{Unopened, Open, Closed}

pub record State : Type 0 where
  pub figures : Figures
  pub book : List Order

abbrev pub is_closed : Phase → Bool
is_closed Unopened = false
is_closed Open = false
is_closed Closed = true

abbrev pub is_open : Phase → Bool
is_open Unopened = false
is_open Open = true
is_open Closed = false

abbrev pub is_unopened : Phase → Bool
is_unopened Unopened = true
is_unopened Open = false
is_unopened Closed = false

-- a price that may be missing is in range where it is there
abbrev pub is_price_or_none : Option ℕ → Bool
is_price_or_none None = true
is_price_or_none (Some p) = is_price p

abbrev pub not_short : Side → Bool
not_short Buy = true
not_short SellLong = true
not_short SellShort = false

-- figures that a day can have
abbrev pub figures_fit : Figures → Bool
figures_fit f =
    is_unit f.unit
    && is_tag f.tag
    && is_time f.time
    && is_price_or_none f.quote.bid
    && is_price_or_none f.quote.offer
    && is_price f.latest
    && nat_le f.accepted 60000

-- an order that a day with these figures can have: its number was given out, it came no later than now, only stops are
-- elected, only market orders of side 1 or 2 are in hand, and none of either in an unopened day
abbrev pub order_fits : Figures → Order → Bool
order_fits f o =
    nat_le o.number f.accepted
    && nat_le o.receipt f.time
    && (not o.elected || has_stop o.kind)
    && (not o.in_hand || (is_market o.kind o.elected && not_short o.side))
    && (not (is_unopened f.phase) || (not o.elected && not o.in_hand))
