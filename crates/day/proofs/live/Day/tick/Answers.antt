use Rattle.std.proofs.Common.{◌≡◌, true, List, sym, refl, ap, ◌∙◌, subst}
use Rattle.std.specs.List.{list_all}
use Rattle.book.specs.Books.{orders_of}
use Rattle.book.specs.Passes.{rows_by, stays_by}
use Rattle.book.specs.Quotes.{timer_row}
use Rattle.book.specs.declared.order.Order.{Order}
use Rattle.book.specs.declared.quote.Quote.{Quote}
use Rattle.rules.specs.Machine.{is_posted_well, timer_quote, with_time}
use Rattle.rules.specs.States.{is_open}
use Rattle.rules.specs.declared.call.Call.TheVariants.{Clock}
use Rattle.rules.proofs.Fitting.{rows_well}
use Rattle.rules.proofs.Wells.{clock_known, order_in_time, quote_fits, time_fits, timer_quote_fits, timer_rows, timer_well}
use Rattle.day.specs.Days.{state_of}
use Rattle.day.proofs.Carrying.{done_step, stays_fit}
use Rattle.day.proofs.live.Day.tick.Goals as goal

pub carry-requires : goal.carry-requires
carry-requires g c =
    let l = c.args.self.now.live in
    let t = c.args.time in
    let q = quote_fits l.figures l.fit in
    let tq = timer_quote_fits (is_open l.figures.phase) l.figures.quote q.0 q.1 in
    let known = clock_known l.figures t c.requires in
    record {
      well =
          subst (λ (x : Quote). list_all is_posted_well (rows_by (timer_row t x) (orders_of l.book)) ≡ true) (sym c.timer_quote-quote.ensures)
          (rows_well l.book.unit (timer_row t (timer_quote l.figures)) (timer_well l.book.unit t (timer_quote l.figures) tq.0 tq.1) (orders_of l.book) l.book.lawful);
      fit = time_fits l.figures t l.fit known.0;
      fits = stays_fit l.figures (with_time t l.figures) (timer_row t c.timer_quote-quote.result) (orders_of l.book) (order_in_time l.figures t known.1) l.fits;
      unit = refl;
    }

pub returns : goal.returns
returns g c =
    let at = g.L.Ledger.numbers in
    let d = c.args.self.now in
    let l = d.live in
    let t = c.args.time in
    let book = orders_of l.book in
    let both = timer_rows (is_open l.figures.phase) t l.figures.quote book in
    let pass = timer_row t c.timer_quote-quote.result in
    done_step (Clock t) (state_of l) (record { figures = with_time t l.figures; book = stays_by pass book }) (rows_by pass book) c.args.report.now (at d.ledger) c.carry.result (state_of c.carry.new.self.live) c.carry.new.report (at c.carry.new.self.ledger) c.requires
    (ap (λ (x : Quote). rows_by (timer_row t x) book) c.timer_quote-quote.ensures ∙ both.0)
    refl
    (ap (λ (x : Quote). record { figures = with_time t l.figures; book = stays_by (timer_row t x) book }) c.timer_quote-quote.ensures ∙ ap (λ (xs : List Order). record { figures = with_time t l.figures; book = xs }) both.1)
    c.carry.ensures
