-- A call's promise, from the pass that it carried out.
use Rattle.std.proofs.Common.{◌≡◌, ℕ, true, not, List, ◌++◌, map, length, drop, is_some, None, Ok, Err, Option, Result, sym, ap, ◌∙◌, subst}
use Rattle.std.specs.List.{list_all}
use Rattle.market.specs.declared.refusal.Refusal.{Refusal}
use Rattle.ledger.specs.Posting.{Numbers}
use Rattle.book.specs.Passes.{rows_by, stays_by}
use Rattle.book.specs.Sales.{after_sale, elect, sale_row, sale_rows}
use Rattle.book.specs.declared.order.Order.{Order}
use Rattle.book.specs.declared.sale.RoundLot.{RoundLot}
use Rattle.book.specs.declared.row.Row.{Row}
use Rattle.book.proofs.Books.{pass_kept}
use Rattle.rules.specs.Machine.{after_call, after_round_lot, fills_of, reply_of, room_refusal, rows_of}
use Rattle.rules.specs.States.{State, order_fits}
use Rattle.rules.specs.Steps.{PostedOnce, Step}
use Rattle.rules.specs.declared.call.Call.{Call}
use Rattle.rules.specs.declared.figures.Figures.{Figures}
use Rattle.rules.proofs.Fitting.{pass_weaker}
use Rattle.rules.proofs.Stepping.{step_done, step_late}
use Rattle.day.specs.Calls.{Carried, CarriedOut, SoldOn, early_refusal}

-- a call whose rows were reported and posted, or for which there was no room
pub done_step : (c : Call) (s after : State) (rows report : List Row) (n : Numbers) (r : Result ℕ Refusal) (t : State) (reported : List Row) (m : Numbers) → early_refusal s c ≡ None → rows ≡ rows_of s c → length (rows_of s c) ≡ reply_of s c → after ≡ after_call s c → CarriedOut rows (λ x. x ≡ after) s report n r t reported m → Step c s report n r t reported m
done_step c s after rows report n (Ok k) t reported m early same reply is h =
    step_done c s report reported n m k t early
    (sym (ap (λ l. room_refusal l (length report) n.places) same) ∙ h.0)
    (h.1 ∙ ap length same ∙ reply)
    (h.3 ∙ is)
    (h.2 ∙ ap (λ l. l ++ drop (length l) report) same)
    (subst (λ (l : List Row). PostedOnce n (fills_of l) m) same h.4)
done_step c s after rows report n (Err e) t reported m early same reply is h =
    step_late c s report reported n m e t early (sym (ap (λ l. room_refusal l (length report) n.places) same) ∙ h.0) h.1 h.2 h.3

-- the orders that stay fit figures that ask no more of them
pub stays_fit : (f g : Figures) (leaves : Order → Option Row) (xs : List Order) → ((o : Order) → order_fits f o ≡ true → order_fits g o ≡ true) → list_all (order_fits f) xs ≡ true → list_all (order_fits g) (stays_by leaves xs) ≡ true
stays_fit f g leaves xs weaker h = pass_kept (order_fits g) (λ o. not (is_some (leaves o))) xs (pass_weaker (order_fits f) (order_fits g) weaker xs h)

-- a sale, from its pass and the elections after it
pub sold_late : (sale : RoundLot) (s : State) (leaves : Order → Option Row) (f : Figures) (report : List Row) (n : Numbers) (e : Refusal) (t : State) (reported : List Row) (m : Numbers) → rows_by leaves s.book ≡ sale_rows sale s.book → Carried leaves f s report n (Err e) t reported m → SoldOn sale s report n (Err e) t reported m
sold_late sale s leaves f report n e t reported m rows h =
    (sym (ap (λ l. room_refusal l (length report) n.places) rows) ∙ h.0, h.1, h.2, h.3)

pub sold_done : (sale : RoundLot) (s : State) (leaves : Order → Option Row) (report : List Row) (n : Numbers) (k : ℕ) (t u : State) (reported : List Row) (m : Numbers) → rows_by leaves s.book ≡ sale_rows sale s.book → stays_by leaves s.book ≡ stays_by (sale_row sale s.book) s.book → Carried leaves (after_round_lot sale s.figures) s report n (Ok k) t reported m → u ≡ record { figures = t.figures; book = map (elect sale.price) t.book } → SoldOn sale s report n (Ok k) u reported m
sold_done sale s leaves report n k t u reported m rows stays h e = (
  sym (ap (λ l. room_refusal l (length report) n.places) rows) ∙ h.0,
  h.1 ∙ ap length rows,
  h.2 ∙ ap (λ l. l ++ drop (length l) report) rows,
  e ∙ ap (λ (x : State). record { figures = x.figures; book = map (elect sale.price) x.book }) h.3
      ∙ ap (λ (xs : List Order). record { figures = after_round_lot sale s.figures; book = map (elect sale.price) xs }) stays,
  subst (λ (l : List Row). PostedOnce n (fills_of l) m) rows h.4,
)

-- an opening or a trade, from the sale that it gives
pub sale_step : (c : Call) (s : State) (x sale : RoundLot) (report : List Row) (n : Numbers) (r : Result ℕ Refusal) (t : State) (reported : List Row) (m : Numbers) → early_refusal s c ≡ None → x ≡ sale → sale_rows sale s.book ≡ rows_of s c → length (rows_of s c) ≡ reply_of s c → record { figures = after_round_lot sale s.figures; book = after_sale sale s.book } ≡ after_call s c → SoldOn x s report n r t reported m → Step c s report n r t reported m
sale_step c s x sale report n r t reported m early is rows reply after h =
    done_step c s (record { figures = after_round_lot sale s.figures; book = after_sale sale s.book }) (sale_rows sale s.book) report n r t reported m early rows reply after
    (subst (λ (y : RoundLot). SoldOn y s report n r t reported m) is h)
