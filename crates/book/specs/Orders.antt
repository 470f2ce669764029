-- Which orders are lawful, and what a book of them is.
use Rattle.std.specs.Prelude.{ℕ, Bool, true, false, cond, ◌&&◌, List, [], ◌∷◌, length, Some, None, Option, ◌==◌, nat_lt}
use Rattle.std.specs.List.{find, list_all}
use Rattle.market.specs.Limits.{has_live_room, is_odd_lot, is_price}
use Rattle.market.specs.Terms.{has_limit, has_stop}
use Rattle.market.specs.declared.kind.Kind.TheVariants.{Market}
use Rattle.market.specs.declared.mark.Mark.TheVariants.{Opening}
use Rattle.market.specs.declared.refusal.Refusal.{Refusal}
use Rattle.market.specs.declared.refusal.Refusal.TheVariants.{BadField, BookFull}
use Rattle.market.specs.declared.side.Side.TheVariants.{Buy}
use Rattle.book.specs.declared.order.Order.{Order}
use Rattle.book.specs.declared.row.Row.{Row}

-- what a read past the end of a list gives
abbrev pub no_order : Order
no_order =
    record { number = 0; side = Buy; kind = Market; shares = 0; limit = 0; stop = 0; receipt = 0; elected = false; in_hand = false }

abbrev pub no_row : Row
no_row = record { number = 0; side = Buy; shares = 0; price = 0; mark = Opening }

-- a price that the kind has is a price, and one that it has not is 0
abbrev pub suits : Bool → ℕ → Bool
suits has p = cond has (is_price p) (p == 0)

-- a lawful order for a unit of trading
abbrev pub lawful : ℕ → Order → Bool
lawful unit o = is_odd_lot unit o.shares && suits (has_limit o.kind) o.limit && suits (has_stop o.kind) o.stop

-- numbers rise strictly from order to order
abbrev pub rises : List Order → Bool
rises [] = true
rises (x ∷ xs) = list_all (λ y. nat_lt x.number y.number) xs && rises xs

-- the order with a number, if it is there
abbrev pub find_in : ℕ → List Order → Option Order
find_in n book = find (λ x. x.number == n) book

-- the number is above every number in the book
abbrev pub is_new : ℕ → List Order → Bool
is_new n book = list_all (λ x. nat_lt x.number n) book

-- why a book for a unit does not take an order: it is not lawful or its number is not new, or 512 orders are live
abbrev pub entry_refusal : ℕ → Order → List Order → Option Refusal
entry_refusal unit o book =
    cond (lawful unit o && is_new o.number book) (cond (has_live_room (length book)) None (Some BookFull)) (Some BadField)
