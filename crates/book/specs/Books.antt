-- What the calls on a book answer and do.
use Rattle.std.specs.Prelude.{◌≡◌, ℕ, ◌<◌, ◌≤◌, true, false, List, [], ◌∷◌, ◌++◌, length, drop, Some, None, Ok, Err, vec_items, Option, Result}
use Rattle.market.specs.Limits.{is_unit}
use Rattle.market.specs.declared.refusal.Refusal.{Refusal}
use Rattle.market.specs.declared.refusal.Refusal.TheVariants.{BadField, ReportFull}
use Rattle.book.specs.Orders.{entry_refusal}
use Rattle.book.specs.Passes.{rows_by, stays_by}
use Rattle.book.specs.Sales.{after_sale, sale_rows}
use Rattle.book.specs.declared.book.Book.{Book}
use Rattle.book.specs.declared.order.Order.{Order}
use Rattle.book.specs.declared.row.Row.{Row}
use Rattle.book.specs.declared.sale.RoundLot.{RoundLot}

-- the orders of a book
abbrev pub orders_of : Book → List Order
orders_of b = vec_items b.orders

-- the orders and the unit are as they were
pub record Same (before after : Book) : Type 0 where
  pub orders : orders_of after ≡ orders_of before
  pub unit : after.unit ≡ before.unit

-- a book is emptied for a unit, or refuses what is no unit
abbrev pub Cleared : ℕ → Book → Result (Unit {0}) Refusal → Book → Type 0
Cleared unit before (Ok _) after = (is_unit unit ≡ true) × (orders_of after ≡ []) × (after.unit ≡ unit)
Cleared unit before (Err e) after = (is_unit unit ≡ false) × (e ≡ BadField) × Same before after

-- an order joins at the end, or is refused
abbrev pub Entered : Order → Book → Result (Unit {0}) Refusal → Book → Type 0
Entered o before (Ok _) after =
    (entry_refusal before.unit o (orders_of before) ≡ None) × (orders_of after ≡ orders_of before ++ o ∷ []) × (after.unit ≡ before.unit)
Entered o before (Err e) after = (entry_refusal before.unit o (orders_of before) ≡ Some e) × Same before after

-- rows stand from the report's first place on, and behind them what stood there; or they do not fit and nothing is written
abbrev pub Reported : List Row → List Row → Result ℕ Refusal → List Row → Type 0
Reported rows before (Ok n) after = (length rows ≤ length before) × (n ≡ length rows) × (after ≡ rows ++ drop n before)
Reported rows before (Err e) after = (length before < length rows) × (e ≡ ReportFull) × (after ≡ before)

-- a pass is carried out: its rows reported and its orders taken out of the book; or its rows do not fit
abbrev pub Applied : (Order → Option Row) → Book → List Row → Result ℕ Refusal → Book → List Row → Type 0
Applied leaves before report (Ok n) after reported =
    Reported (rows_by leaves (orders_of before)) report (Ok n) reported
    × (orders_of after ≡ stays_by leaves (orders_of before))
    × (after.unit ≡ before.unit)
Applied leaves before report (Err e) after reported =
    Reported (rows_by leaves (orders_of before)) report (Err e) reported × Same before after

-- a sale is carried out: its fills, and then the elections; or its rows do not fit
abbrev pub Sold : RoundLot → Book → List Row → Result ℕ Refusal → Book → List Row → Type 0
Sold s before report (Ok n) after reported =
    Reported (sale_rows s (orders_of before)) report (Ok n) reported
    × (orders_of after ≡ after_sale s (orders_of before))
    × (after.unit ≡ before.unit)
Sold s before report (Err e) after reported = Reported (sale_rows s (orders_of before)) report (Err e) reported × Same before after
