-- Orders that join and leave the book of a day.
use Rattle.std.proofs.Common.{◌≡◌, ℕ, Bool, true, false, cond, not, ◌&&◌, eqb, List, [], ◌∷◌, ◌++◌, length, is_some, Some, None, Ok, Err, filter, Option, Result, refl, ap, ◌∙◌, arith}
use Rattle.std.specs.List.{list_all}
use Rattle.std.proofs.lemmas.Bool.{and_from, cond-true}
use Rattle.market.specs.Limits.{has_live_room}
use Rattle.market.specs.declared.mark.Mark.TheVariants.{Lapse}
use Rattle.market.specs.declared.refusal.Refusal.{Refusal}
use Rattle.market.specs.declared.refusal.Refusal.TheVariants.{BadField, BookFull}
use Rattle.ledger.specs.Posting.{Numbers}
use Rattle.book.specs.Books.{Entered, orders_of}
use Rattle.book.specs.Orders.{entry_refusal, is_new, lawful}
use Rattle.book.specs.Passes.{stays_by}
use Rattle.book.specs.Sales.{row_of}
use Rattle.book.specs.declared.book.Book.{Book}
use Rattle.book.specs.declared.order.Order.{Order}
use Rattle.book.specs.declared.row.Row.{Row}
use Rattle.market.proofs.Passing.{pass_push}
use Rattle.book.proofs.Books.{pass_kept}
use Rattle.rules.specs.Machine.{new_order, with_accepted}
use Rattle.rules.specs.States.{order_fits}
use Rattle.rules.specs.declared.call.NewOrder.{NewOrder}
use Rattle.rules.specs.declared.figures.Figures.{Figures}
use Rattle.day.specs.Calls.{Settled}
use Rattle.rules.proofs.Fitting.{fits_accepted, fresh, next_is_new, pass_weaker}

-- the book has no reason to refuse a day's new order
pub no_reason : (unit : ℕ) (o : Order) (xs : List Order) → lawful unit o ≡ true → is_new o.number xs ≡ true → has_live_room (length xs) ≡ true → entry_refusal unit o xs ≡ None
no_reason unit o xs good new room =
    cond-true (lawful unit o && is_new o.number xs) (cond (has_live_room (length xs)) None (Some BookFull)) (Some BadField) (and_from _ _ good new)
    ∙ cond-true (has_live_room (length xs)) None (Some BookFull) room

entered : (o : Order) (before : Book) (r : Result (Unit {0}) Refusal) (after : Book) → Entered o before r after → entry_refusal before.unit o (orders_of before) ≡ None → (orders_of after ≡ orders_of before ++ o ∷ []) × (after.unit ≡ before.unit)
entered o before (Ok _) after h none = (h.1, h.2)
entered o before (Err e) after h none = let k = h.0 in let z : ◌≡◌ {A = ℕ} 0 1 = cc in absurd (omega arith)

-- an admitted order joins at the end
pub joins : (f : Figures) (n : NewOrder) (o : Order) (before : Book) (r : Result (Unit {0}) Refusal) (after : Book) → Entered o before r after → before.unit ≡ f.unit → list_all (order_fits f) (orders_of before) ≡ true → new_order f n ≡ Some o → has_live_room (length (orders_of before)) ≡ true → (orders_of after ≡ orders_of before ++ o ∷ []) × (after.unit ≡ before.unit)
joins f n o before r after h unit fits made room =
    let new = fresh f n o made in
    let good = ap (λ u. lawful u o) unit ∙ new.lawful_for in
    let above = ap (λ k. is_new k (orders_of before)) new.next ∙ next_is_new f (orders_of before) fits in
    entered o before r after h (no_reason before.unit o (orders_of before) good above room)

-- and all orders fit the day that has accepted it
pub joined_fit : (f : Figures) (n : NewOrder) (o : Order) (xs : List Order) → list_all (order_fits f) xs ≡ true → new_order f n ≡ Some o → list_all (order_fits (with_accepted f)) (xs ++ o ∷ []) ≡ true
joined_fit f n o xs fits made =
    pass_push (order_fits (with_accepted f)) xs o (pass_weaker (order_fits f) (order_fits (with_accepted f)) (fits_accepted f) xs fits) (fresh f n o made).fits

-- a cancel's pass leaves the orders of other numbers
not_some : (b : Bool) (o : Order) → not (is_some (cond b (Some (row_of 0 Lapse o)) None)) ≡ not b
not_some true o = refl
not_some false o = refl

pub cancel_stays : (n : ℕ) (xs : List Order) → stays_by (λ o. cond (eqb o.number n) (Some (row_of 0 Lapse o)) None) xs ≡ filter (λ o. not (eqb o.number n)) xs
cancel_stays n [] = refl
cancel_stays n (x ∷ xs) =
    ap (λ b. cond b (x ∷ stays_by (λ o. cond (eqb o.number n) (Some (row_of 0 Lapse o)) None) xs) (stays_by (λ o. cond (eqb o.number n) (Some (row_of 0 Lapse o)) None) xs)) (not_some (eqb x.number n) x)
    ∙ ap (λ l. cond (not (eqb x.number n)) (x ∷ l) l) (cancel_stays n xs)

-- what fits a day goes on fitting it, whether a pass was carried out or not
pub settled_fit : (p : Order → Bool) (leaves : Order → Option Row) (before : Book) (report : List Row) (n : Numbers) (r : Result ℕ Refusal) (after : Book) (reported : List Row) (m : Numbers) → Settled leaves before report n r after reported m → list_all p (orders_of before) ≡ true → (list_all p (orders_of after) ≡ true) × (after.unit ≡ before.unit)
settled_fit p leaves before report n (Ok k) after reported m h fits =
    (ap (list_all p) h.3.0 ∙ pass_kept p (λ o. not (is_some (leaves o))) (orders_of before) fits, h.3.1)
settled_fit p leaves before report n (Err e) after reported m h fits =
    (ap (λ (b : Book). list_all p (orders_of b)) h.1 ∙ fits, ap (λ (b : Book). b.unit) h.1)
