use Rattle.std.proofs.Common.{◌≡◌, sym, refl, ◌∙◌, rules}
use Rattle.rules.specs.Steps.{quiet}
use Rattle.play.proofs.Doing.{quiet_made, quiet_none, row_made}
use Rattle.play.proofs.calls.make_call.Goals as goal

pub returns-in-Order : goal.returns-in-Order
returns-in-Order c =
    let e : c.map.result ≡ quiet c.order.result = search rules in quiet_made _ _ _ _ _ _ _ _ _ c.in-Order.is e refl c.order.ensures

pub returns-in-Cancel : goal.returns-in-Cancel
returns-in-Cancel c =
    let e : c.map-in-Cancel.result ≡ quiet c.cancel.result = search rules in quiet_made _ _ _ _ _ _ _ _ _ c.in-Cancel.is e refl c.cancel.ensures

pub returns-in-Quote : goal.returns-in-Quote
returns-in-Quote c =
    let e : c.map-in-Quote.result ≡ quiet c.quote.result = search rules in
    quiet_made _ _ _ _ _ (quiet c.quote.result) _ _ _ c.in-Quote.is (e ∙ sym (quiet_none c.quote.result)) refl c.quote.ensures

pub returns-in-Clock : goal.returns-in-Clock
returns-in-Clock c = search (rules, row_made)
