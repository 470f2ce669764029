use Rattle.std.proofs.Common.{ap, ◌∙◌}
use Rattle.rules.specs.Machine.{price_or_none, with_quote}
use Rattle.rules.specs.States.{figures_fit}
use Rattle.rules.proofs.Fitting.{fits_quote}
use Rattle.day.proofs.live.Live.set_quote.Goals as goal

pub invariant_of-self : goal.invariant_of-self
invariant_of-self c =
    let l = c.args.self.now in
    let bid = ap (λ b. figures_fit (with_quote (record { bid = b; offer = c.price_or_none-2.result }) l.figures)) c.price_or_none.ensures in
    let offer = ap (λ o. figures_fit (with_quote (record { bid = price_or_none c.args.new.bid; offer = o }) l.figures)) c.price_or_none-2.ensures in
    record { fit = bid ∙ offer ∙ fits_quote l.figures c.args.new l.fit c.requires; fits = l.fits; unit = l.unit }
