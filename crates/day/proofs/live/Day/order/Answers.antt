use Rattle.std.proofs.Common.{refl}
use Rattle.std.proofs.lemmas.Result.{err_from_is_err_and}
use Rattle.rules.proofs.Fitting.{fresh}
use Rattle.rules.proofs.Stepping.{quiet_accepted, quiet_refused}
use Rattle.rules.specs.declared.call.Call.TheVariants.{Order}
use Rattle.day.specs.Days.{state_of}
use Rattle.day.proofs.live.Day.order.Goals as goal

pub returns-in_err-order : goal.returns-in_err-order
returns-in_err-order g c =
    let d = c.args.self.now in
    let p = err_from_is_err_and c.from_residual.result c.from_residual.ensures.1 in
    rw (p.1, p.2)
    (quiet_refused (Order c.args.new) (state_of d.live) (g.L.Ledger.numbers d.ledger) _ refl c.in_err-order.ensures)

pub returns : goal.returns
returns g c =
    let d = c.args.self.now in
    let h = c.in_ok-order.ensures in
    quiet_accepted (Order c.args.new) (state_of d.live) (g.L.Ledger.numbers d.ledger) c.in_ok-order.order.number (state_of c.join.new.self) refl h.0 (fresh d.live.figures c.args.new c.in_ok-order.order h.1).next c.join.ensures
