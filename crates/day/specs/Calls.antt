-- What is known of a call before it is carried out.
use Rattle.std.specs.Prelude.{◌≡◌, ℕ, true, cond, List, ◌++◌, length, drop, Some, None, Ok, Err, Option, Result}
use Rattle.market.specs.Limits.{has_accepted_room, has_live_room}
use Rattle.market.specs.declared.refusal.Refusal.{Refusal}
use Rattle.market.specs.declared.refusal.Refusal.TheVariants.{DayClosed}
use Rattle.ledger.specs.Posting.{Numbers}
use Rattle.book.specs.Books.{orders_of}
use Rattle.book.specs.Orders.{find_in}
use Rattle.book.specs.Passes.{rows_by, stays_by}
use Rattle.book.specs.Sales.{after_sale, sale_rows}
use Rattle.book.specs.declared.book.Book.{Book}
use Rattle.book.specs.declared.sale.RoundLot.{RoundLot}
use Rattle.book.specs.declared.order.Order.{Order}
use Rattle.book.specs.declared.row.Row.{Row}
use Rattle.rules.specs.Machine.{after_round_lot, field_refusal, fills_of, new_order, room_refusal}
use Rattle.rules.specs.Steps.{PostedOnce}
use Rattle.rules.specs.States.{State, is_closed}
use Rattle.rules.specs.declared.call.Call.{Call}
use Rattle.rules.specs.declared.call.Call.TheVariants.{Cancel, Order as OrderCall}
use Rattle.rules.specs.declared.call.NewOrder.{NewOrder}
use Rattle.rules.specs.declared.figures.Figures.{Figures}

-- the first of refusals 1 to 10 that fits, if any
abbrev pub early_refusal : State → Call → Option Refusal
early_refusal s c = cond (is_closed s.figures.phase) (Some DayClosed) (field_refusal s c)

-- an order call is admitted with the order that it makes, or refused
abbrev pub Admitted : State → NewOrder → Result Order Refusal → Type 0
Admitted s new (Ok o) =
    (early_refusal s (OrderCall new) ≡ None)
    × (new_order s.figures new ≡ Some o)
    × (has_accepted_room s.figures.accepted ≡ true)
    × (has_live_room (length s.book) ≡ true)
Admitted s new (Err e) = early_refusal s (OrderCall new) ≡ Some e

-- a cancel may take its order away, or is refused
abbrev pub MayCancel : State → ℕ → Result Order Refusal → Type 0
MayCancel s number (Ok o) = (early_refusal s (Cancel number) ≡ None) × (find_in number s.book ≡ Some o)
MayCancel s number (Err e) = early_refusal s (Cancel number) ≡ Some e

-- rows are reported and posted, and `gets` holds of what they came from; or, for want of places in the report or in the
-- ledger, nothing at all is done
abbrev pub CarriedOut : {S : Type 0} → List Row → (S → Type 0) → S → List Row → Numbers → Result ℕ Refusal → S → List Row → Numbers → Type 0
CarriedOut rows gets before report n (Ok k) after reported m =
    (room_refusal rows (length report) n.places ≡ None)
    × (k ≡ length rows)
    × (reported ≡ rows ++ drop (length rows) report)
    × gets after
    × PostedOnce n (fills_of rows) m
CarriedOut rows gets before report n (Err e) after reported m =
    (room_refusal rows (length report) n.places ≡ Some e) × (after ≡ before) × (reported ≡ report) × (m ≡ n)

-- a pass is carried out on a book: its orders are taken out
abbrev pub Settled : (Order → Option Row) → Book → List Row → Numbers → Result ℕ Refusal → Book → List Row → Numbers → Type 0
Settled leaves before report n r after reported m =
    CarriedOut (rows_by leaves (orders_of before)) (λ b. (orders_of b ≡ stays_by leaves (orders_of before)) × (b.unit ≡ before.unit)) before report n r after reported m

-- a pass is carried out on a day, which has new figures then
abbrev pub Carried : (Order → Option Row) → Figures → State → List Row → Numbers → Result ℕ Refusal → State → List Row → Numbers → Type 0
Carried leaves f s report n r t reported m =
    CarriedOut (rows_by leaves s.book) (λ x. x ≡ record { figures = f; book = stays_by leaves s.book }) s report n r t reported m

-- a sale is carried out on a day
abbrev pub SoldOn : RoundLot → State → List Row → Numbers → Result ℕ Refusal → State → List Row → Numbers → Type 0
SoldOn sale s report n r t reported m =
    CarriedOut (sale_rows sale s.book) (λ x. x ≡ record { figures = after_round_lot sale s.figures; book = after_sale sale s.book }) s report n r t reported m
