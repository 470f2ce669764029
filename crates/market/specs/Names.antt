-- The names of terms, as they are printed.
use Rattle.std.specs.Prelude.{ℕ, List, codes}
use Rattle.market.specs.declared.side.Side.{Side}
use Rattle.market.specs.declared.side.Side.TheVariants.{Buy, SellLong, SellShort}
use Rattle.market.specs.declared.kind.Kind.{Kind}
use Rattle.market.specs.declared.kind.Kind.TheVariants.{Market, Limit, Stop, StopLimit}

abbrev pub side_name : Side → List ℕ
side_name Buy = codes "buy"
side_name SellLong = codes "sell long"
side_name SellShort = codes "sell short"

abbrev pub kind_name : Kind → List ℕ
kind_name Market = codes "market"
kind_name Limit = codes "limit"
kind_name Stop = codes "stop"
kind_name StopLimit = codes "stop limit"
