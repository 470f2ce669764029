-- A pass down the book: some orders leave it, each with a row, and the others stay.
use Rattle.std.specs.Prelude.{not, List, is_some, filter, Option}
use Rattle.std.specs.List.{filter_map}
use Rattle.book.specs.declared.order.Order.{Order}
use Rattle.book.specs.declared.row.Row.{Row}

-- the rows of a pass, where `leaves` says of each order whether it leaves, and with which row.
-- How the rows of the two sides mix is decided here and nowhere else: all stand in the book's order, by rising number
abbrev pub rows_by : (Order → Option Row) → List Order → List Row
rows_by leaves book = filter_map leaves book

-- the orders that a pass leaves in the book, in their order
abbrev pub stays_by : (Order → Option Row) → List Order → List Order
stays_by leaves book = filter (λ o. not (is_some (leaves o))) book
