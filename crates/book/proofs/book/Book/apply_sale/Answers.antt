use Rattle.std.proofs.Common.{◌≡◌, ℕ, List, map, Ok, Err, Option, ap, ◌∙◌, subst}
use Rattle.std.proofs.lemmas.Result.{err_from_is_err_and}
use Rattle.market.specs.declared.refusal.Refusal.{Refusal}
use Rattle.book.specs.Books.{Applied, Reported, Sold, orders_of}
use Rattle.book.specs.Cuts.{cut_row}
use Rattle.book.specs.Sales.{elect, sale_row}
use Rattle.book.specs.declared.book.Book.{Book}
use Rattle.book.specs.declared.order.Order.{Order}
use Rattle.book.specs.declared.row.Row.{Row}
use Rattle.book.specs.declared.sale.RoundLot.{RoundLot}
use Rattle.book.proofs.Rows.{rows_same, stays_same}
use Rattle.book.proofs.Trades.{trade_law}
use Rattle.book.proofs.book.Book.apply_sale.Goals as goal

refused : (s : RoundLot) (f : Order → Option Row) (before after : Book) (report reported : List Row) (e : Refusal) → ((o : Order) → f o ≡ sale_row s (orders_of before) o) → Applied f before report (Err e) after reported → Sold s before report (Err e) after reported
refused s f before after report reported e same h =
    (subst (λ (rows : List Row). Reported rows report (Err e) reported) (rows_same f (sale_row s (orders_of before)) same (orders_of before)) h.0, h.1)

done : (s : RoundLot) (f : Order → Option Row) (before between after : Book) (report reported : List Row) (n : ℕ) → ((o : Order) → f o ≡ sale_row s (orders_of before) o) → Applied f before report (Ok n) between reported → orders_of after ≡ map (elect s.price) (orders_of between) → after.unit ≡ between.unit → Sold s before report (Ok n) after reported
done s f before between after report reported n same h e u = (
  subst (λ (rows : List Row). Reported rows report (Ok n) reported) (rows_same f (sale_row s (orders_of before)) same (orders_of before)) h.0,
  e ∙ ap (map (elect s.price)) (h.1 ∙ stays_same f (sale_row s (orders_of before)) same (orders_of before)),
  u ∙ h.2,
)

pub returns-in_err-n : goal.returns-in_err-n
returns-in_err-n c =
    let p = err_from_is_err_and c.from_residual.result c.from_residual.ensures.1 in
    record {
      law = trade_law c.args.sale (orders_of c.args.self.now) c.args.self.now.rising;
      sold = rw (p.1, p.2)
          (refused c.args.sale (cut_row c.sale-pass.result) c.args.self.now c.apply.new.self c.args.report.now c.apply.new.report _ c.sale-pass.ensures.rows c.in_err-n.ensures);
    }

pub returns : goal.returns
returns c =
    record {
      law = trade_law c.args.sale (orders_of c.args.self.now) c.args.self.now.rising;
      sold = done c.args.sale (cut_row c.sale-pass.result) c.args.self.now c.apply.new.self c.elect.new.self c.args.report.now c.apply.new.report c.in_ok-n.n c.sale-pass.ensures.rows c.in_ok-n.ensures c.elect.ensures.orders c.elect.ensures.unit;
    }
