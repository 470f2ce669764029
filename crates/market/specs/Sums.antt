-- The sum of shares by side, over the records that count.
use Rattle.std.specs.Prelude.{ℕ, List, take, sum_by}
use Rattle.market.specs.declared.side.Side.{Side}
use Rattle.market.specs.declared.side.Side.TheVariants.{Buy, SellLong, SellShort}
use Rattle.market.specs.declared.side.MarketSide.{MarketSide}
use Rattle.market.specs.declared.side.MarketSide.TheVariants.{Buying, Selling}

-- n where an order's side stands on this side of the market, else 0
abbrev pub shares_on : MarketSide → Side → ℕ → ℕ
shares_on Buying Buy n = n
shares_on Buying SellLong n = 0
shares_on Buying SellShort n = 0
shares_on Selling Buy n = 0
shares_on Selling SellLong n = n
shares_on Selling SellShort n = n

-- the records that count: the first 65,536. It stays shut, since `take` of a numeral would unfold at each comparison
unfoldable pub counted : {X : Type 0} → List X → List X
counted xs = take 65536 xs

-- the shares of all records on a side of the market, for records whose side and shares are given
abbrev pub sum_on : {X : Type 0} → (X → Side) → (X → ℕ) → MarketSide → List X → ℕ
sum_on side shares which xs = sum_by (λ x. shares_on which (side x) (shares x)) xs
