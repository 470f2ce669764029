use Rattle.std.proofs.Common.{refl}
use Rattle.std.proofs.lemmas.Result.{err_from_is_err_and}
use Rattle.rules.proofs.Stepping.{quiet_accepted, quiet_refused}
use Rattle.rules.specs.declared.call.Call.TheVariants.{Quote}
use Rattle.day.specs.Days.{state_of}
use Rattle.day.proofs.Answering.{allowed_by, refused_by}
use Rattle.day.proofs.live.Day.quote.Goals as goal

pub returns-in_err-may_quote : goal.returns-in_err-may_quote
returns-in_err-may_quote g c =
    let d = c.args.self.now in
    let p = err_from_is_err_and c.from_residual.result c.from_residual.ensures.1 in
    rw (p.1, p.2)
    (quiet_refused (Quote c.args.new) (state_of d.live) (g.L.Ledger.numbers d.ledger) _ refl (refused_by _ _ c.in_err-may_quote.ensures))

pub returns : goal.returns
returns g c =
    let d = c.args.self.now in
    quiet_accepted (Quote c.args.new) (state_of d.live) (g.L.Ledger.numbers d.ledger) 0 (state_of c.set_quote.new.self) refl (allowed_by _ c.in_ok-may_quote.ensures) refl c.set_quote.ensures
