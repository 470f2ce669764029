use Rattle.std.proofs.Common.{Ok, Err, ap, ◌∙◌, ok_or}
use Rattle.std.proofs.lemmas.Result.{err_from_is_err_and}
use Rattle.market.specs.declared.refusal.Refusal.TheVariants.{BadField}
use Rattle.rules.specs.Machine.{by_kind, by_side}
use Rattle.rules.proofs.Reading.{kind_read, side_read}
use Rattle.day.proofs.orders.new_order.Goals as goal

pub returns-in_err-side : goal.returns-in_err-side
returns-in_err-side c =
    let f = c.args.figures.now in
    let n = c.args.new in
    let p = err_from_is_err_and c.from_residual.result c.from_residual.ensures.1 in
    p.1 ∙ ap (λ e. Err e) p.2 ∙ ap (λ s. ok_or (by_side f n s) BadField) (side_read n.side (Err c.in_err-side.field-0.0) c.in_err-side.ensures)

pub returns-in_err-kind : goal.returns-in_err-kind
returns-in_err-kind c =
    let f = c.args.figures.now in
    let n = c.args.new in
    let side = c.in_ok-side.side in
    let p = err_from_is_err_and c.from_residual-in_err-kind.result c.from_residual-in_err-kind.ensures.1 in
    p.1
    ∙ ap (λ e. Err e) p.2
    ∙ ap (λ k. ok_or (by_kind f n side k) BadField) (kind_read n.kind (Err c.in_err-kind.field-0.0) c.in_err-kind.ensures)
    ∙ ap (λ s. ok_or (by_side f n s) BadField) (side_read n.side (Ok side) c.in_ok-side.ensures)
