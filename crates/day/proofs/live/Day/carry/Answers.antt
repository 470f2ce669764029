use Rattle.std.proofs.Common.{◌∙◌}
use Rattle.rules.specs.States.{order_fits}
use Rattle.day.proofs.Joining.{settled_fit}
use Rattle.day.proofs.live.Day.carry.Goals as goal

pub invariant_of-self : goal.invariant_of-self
invariant_of-self g c =
    let at = g.L.Ledger.numbers in
    let d = c.args.self.now in
    let kept = settled_fit (order_fits d.live.figures) (g.P.Pass.leaves c.args.pass.now) d.live.book c.args.report.now (at d.ledger) c.settle.result c.settle.new.book c.settle.new.report (at c.settle.new.ledger) c.settle.ensures d.live.fits in
    record { fit = d.live.fit; fits = kept.0; unit = kept.1 ∙ d.live.unit }
