use Rattle.std.proofs.Common.{length, sym, ap, ◌∙◌}
use Rattle.std.proofs.lemmas.Result.{err_from_is_err_and}
use Rattle.market.specs.Limits.{has_live_room}
use Rattle.day.specs.Days.{state_of}
use Rattle.day.proofs.Answering.{is_admitted, not_admitted}
use Rattle.day.proofs.live.Live.admit.Goals as goal

pub returns-in_err-order : goal.returns-in_err-order
returns-in_err-order c =
    let p = err_from_is_err_and c.from_residual.result c.from_residual.ensures.1 in
    rw (p.1, p.2) (not_admitted (state_of c.args.self.now) c.args.new _ (sym c.if-is_closed.ensures) c.in_err-order.ensures)

pub returns : goal.returns
returns c =
    is_admitted (state_of c.args.self.now) c.args.new c.in_ok-order.order (sym c.if-is_closed.ensures) c.in_ok-order.ensures (sym c.if-not-has_accepted_room.ensures)
    (ap (λ xs. has_live_room (length xs)) (sym c.orders.ensures) ∙ sym c.if-not-has_live_room.ensures)
