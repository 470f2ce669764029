use Rattle.std.proofs.Common.{not, eqb, List, ap, ◌∙◌}
use Rattle.std.specs.List.{list_all}
use Rattle.book.specs.Books.{orders_of}
use Rattle.book.specs.declared.order.Order.{Order}
use Rattle.book.proofs.Books.{pass_kept}
use Rattle.rules.specs.States.{order_fits}
use Rattle.day.proofs.Joining.{cancel_stays}
use Rattle.day.proofs.live.Live.take_away.Goals as goal

pub invariant_of-self : goal.invariant_of-self
invariant_of-self c =
    let l = c.args.self.now in
    let left = c.settle.ensures.orders ∙ cancel_stays c.args.number (orders_of l.book) in
    record {
      fit = l.fit;
      fits = ap (list_all (order_fits l.figures)) left ∙ pass_kept (order_fits l.figures) (λ o. not (eqb o.number c.args.number)) (orders_of l.book) l.fits;
      unit = c.settle.ensures.unit ∙ l.unit;
    }

pub returns : goal.returns
returns c =
    let l = c.args.self.now in
    ap (λ (xs : List Order). record { figures = l.figures; book = xs }) (c.settle.ensures.orders ∙ cancel_stays c.args.number (orders_of l.book))
