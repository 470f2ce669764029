use Rattle.std.proofs.Common.{sym, refl, ap}
use Rattle.std.proofs.lemmas.Result.{err_from_is_err_and}
use Rattle.rules.proofs.Stepping.{quiet_accepted, quiet_refused}
use Rattle.rules.specs.Machine.{shares_of}
use Rattle.rules.specs.declared.call.Call.TheVariants.{Cancel}
use Rattle.day.specs.Days.{state_of}
use Rattle.day.proofs.live.Day.cancel.Goals as goal

pub returns-in_err-order : goal.returns-in_err-order
returns-in_err-order g c =
    let d = c.args.self.now in
    let p = err_from_is_err_and c.from_residual.result c.from_residual.ensures.1 in
    rw (p.1, p.2)
    (quiet_refused (Cancel c.args.number) (state_of d.live) (g.L.Ledger.numbers d.ledger) _ refl c.in_err-order.ensures)

pub returns : goal.returns
returns g c =
    let d = c.args.self.now in
    let h = c.in_ok-order.ensures in
    quiet_accepted (Cancel c.args.number) (state_of d.live) (g.L.Ledger.numbers d.ledger) c.in_ok-order.order.shares (state_of c.take_away.new.self) refl h.0 (sym (ap shares_of h.1)) c.take_away.ensures
