use Rattle.std.proofs.lemmas.Result.{err_from_is_err_and}
use Rattle.rules.proofs.Stepping.{step_early}
use Rattle.rules.specs.declared.call.Call.TheVariants.{Clock}
use Rattle.day.specs.Days.{state_of}
use Rattle.day.proofs.Answering.{refused_by}
use Rattle.day.proofs.live.Day.clock.Goals as goal

pub returns-in_err-may_tick : goal.returns-in_err-may_tick
returns-in_err-may_tick g c =
    let d = c.args.self.now in
    let p = err_from_is_err_and c.from_residual.result c.from_residual.ensures.1 in
    rw (p.1, p.2)
    (step_early (Clock c.args.time) (state_of d.live) c.args.report.now (g.L.Ledger.numbers d.ledger) _ (refused_by _ _ c.in_err-may_tick.ensures))
