use Rattle.std.proofs.Common.{refl, ap, ◌∙◌}
use Rattle.std.specs.List.{list_all}
use Rattle.std.proofs.lemmas.Result.{err_from_is_err_and}
use Rattle.book.specs.Books.{orders_of}
use Rattle.book.specs.Cuts.{cut_row}
use Rattle.book.specs.Sales.{sale_row}
use Rattle.book.proofs.Rows.{rows_same, stays_same}
use Rattle.rules.specs.Machine.{after_round_lot, is_posted_well}
use Rattle.rules.proofs.Fitting.{rows_well}
use Rattle.rules.proofs.Wells.{order_opened, sale_fits, sale_well}
use Rattle.day.specs.Days.{state_of}
use Rattle.day.proofs.Carrying.{sold_done, sold_late, stays_fit}
use Rattle.day.proofs.live.Day.sell.Goals as goal

pub carry-requires : goal.carry-requires
carry-requires g c =
    let l = c.args.self.now.live in
    let sale = c.args.sale in
    let book = orders_of l.book in
    let same = rows_same (cut_row c.sale-pass.result) (sale_row sale book) c.sale-pass.ensures.rows book in
    record {
      well = ap (list_all is_posted_well) same ∙ rows_well l.book.unit (sale_row sale book) (sale_well l.book.unit sale book c.requires) book l.book.lawful;
      fit = sale_fits l.figures sale l.fit c.requires;
      fits = stays_fit l.figures (after_round_lot sale l.figures) (cut_row c.sale-pass.result) book (order_opened l.figures sale) l.fits;
      unit = refl;
    }

pub returns-in_err-n : goal.returns-in_err-n
returns-in_err-n g c =
    let at = g.L.Ledger.numbers in
    let d = c.args.self.now in
    let sale = c.args.sale in
    let book = orders_of d.live.book in
    let p = err_from_is_err_and c.from_residual.result c.from_residual.ensures.1 in
    rw (p.1, p.2)
    (sold_late sale (state_of d.live) (cut_row c.sale-pass.result) (after_round_lot sale d.live.figures) c.args.report.now (at d.ledger) _ (state_of c.carry.new.self.live) c.carry.new.report (at c.carry.new.self.ledger)
    (rows_same (cut_row c.sale-pass.result) (sale_row sale book) c.sale-pass.ensures.rows book) c.in_err-n.ensures)

pub returns : goal.returns
returns g c =
    let at = g.L.Ledger.numbers in
    let d = c.args.self.now in
    let sale = c.args.sale in
    let book = orders_of d.live.book in
    sold_done sale (state_of d.live) (cut_row c.sale-pass.result) c.args.report.now (at d.ledger) c.in_ok-n.n (state_of c.carry.new.self.live) (state_of c.elect.new.self) c.carry.new.report (at c.carry.new.self.ledger)
    (rows_same (cut_row c.sale-pass.result) (sale_row sale book) c.sale-pass.ensures.rows book)
    (stays_same (cut_row c.sale-pass.result) (sale_row sale book) c.sale-pass.ensures.rows book)
    c.in_ok-n.ensures c.elect.ensures
