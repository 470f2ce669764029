use Rattle.std.proofs.Common.{ap, ◌∙◌}
use Rattle.std.specs.List.{list_all}
use Rattle.book.specs.Books.{orders_of}
use Rattle.rules.specs.States.{is_unopened, order_fits}
use Rattle.rules.proofs.Wells.{orders_elected}
use Rattle.day.proofs.live.Live.elect.Goals as goal

pub invariant_of-self : goal.invariant_of-self
invariant_of-self c =
    let l = c.args.self.now in
    record {
      fit = l.fit;
      fits = ap (list_all (order_fits l.figures)) c.elect.ensures.orders ∙ orders_elected l.figures c.args.price (ap is_unopened c.requires) (orders_of l.book) l.fits;
      unit = c.elect.ensures.unit ∙ l.unit;
    }
