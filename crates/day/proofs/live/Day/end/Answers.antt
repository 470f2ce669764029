use Rattle.std.proofs.Common.{refl, ap}
use Rattle.book.specs.Books.{orders_of}
use Rattle.book.specs.Passes.{rows_by, stays_by}
use Rattle.book.specs.Quotes.{close_row}
use Rattle.rules.specs.Machine.{with_phase}
use Rattle.rules.specs.declared.call.Call.TheVariants.{Close}
use Rattle.rules.specs.declared.figures.Phase.TheVariants.{Closed}
use Rattle.rules.proofs.Fitting.{rows_well}
use Rattle.rules.proofs.Wells.{close_well, order_closed, quote_fits}
use Rattle.day.specs.Days.{state_of}
use Rattle.day.proofs.Carrying.{done_step, stays_fit}
use Rattle.day.proofs.live.Day.end.Goals as goal

pub carry-requires : goal.carry-requires
carry-requires g c =
    let l = c.args.self.now.live in
    let q = quote_fits l.figures l.fit in
    let pass = close_row c.is_open.result l.figures.quote in
    record {
      well = rows_well l.book.unit pass (close_well l.book.unit c.is_open.result l.figures.quote q.0 q.1) (orders_of l.book) l.book.lawful;
      fit = l.fit;
      fits = stays_fit l.figures (with_phase Closed l.figures) pass (orders_of l.book) (order_closed l.figures) l.fits;
      unit = refl;
    }

pub returns : goal.returns
returns g c =
    let at = g.L.Ledger.numbers in
    let d = c.args.self.now in
    let l = d.live in
    let book = orders_of l.book in
    let pass = close_row c.is_open.result l.figures.quote in
    done_step Close (state_of l) (record { figures = with_phase Closed l.figures; book = stays_by pass book }) (rows_by pass book) c.args.report.now (at d.ledger) c.carry.result (state_of c.carry.new.self.live) c.carry.new.report (at c.carry.new.self.ledger) c.requires
    (ap (λ b. rows_by (close_row b l.figures.quote) book) c.is_open.ensures)
    refl
    (ap (λ b. record { figures = with_phase Closed l.figures; book = stays_by (close_row b l.figures.quote) book }) c.is_open.ensures)
    c.carry.ensures
