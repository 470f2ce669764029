use Rattle.std.proofs.Common.{true, refl}
use Rattle.std.proofs.lemmas.Result.{err_from_is_err_and}
use Rattle.rules.specs.Machine.{round_lot}
use Rattle.rules.specs.declared.call.Call.TheVariants.{Opening}
use Rattle.rules.proofs.Stepping.{step_early}
use Rattle.day.specs.Days.{state_of}
use Rattle.day.proofs.Answering.{allowed_by, refused_by}
use Rattle.day.proofs.Carrying.{sale_step}
use Rattle.day.proofs.live.Day.opening.Goals as goal

pub returns-in_err-may_open : goal.returns-in_err-may_open
returns-in_err-may_open g c =
    let d = c.args.self.now in
    let p = err_from_is_err_and c.from_residual.result c.from_residual.ensures.1 in
    rw (p.1, p.2)
    (step_early (Opening c.args.new) (state_of d.live) c.args.report.now (g.L.Ledger.numbers d.ledger) _ (refused_by _ _ c.in_err-may_open.ensures))

pub returns : goal.returns
returns g c =
    let d = c.args.self.now in
    sale_step (Opening c.args.new) (state_of d.live) _ (round_lot d.live.figures true c.args.new) c.args.report.now (g.L.Ledger.numbers d.ledger) _ _ _ _ (allowed_by _ c.in_ok-may_open.ensures) c.round_lot.ensures refl refl refl c.sell.ensures
