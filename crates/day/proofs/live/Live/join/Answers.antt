use Rattle.std.proofs.Common.{List, sym, ap, ◌∙◌}
use Rattle.std.specs.List.{list_all}
use Rattle.book.specs.Books.{orders_of}
use Rattle.book.specs.declared.order.Order.{Order}
use Rattle.rules.specs.Machine.{joined, with_accepted}
use Rattle.rules.specs.States.{order_fits}
use Rattle.rules.proofs.Fitting.{accepted_fits}
use Rattle.day.proofs.Joining.{joined_fit, joins}
use Rattle.day.proofs.live.Live.join.Goals as goal

pub invariant_of-self : goal.invariant_of-self
invariant_of-self c =
    let l = c.args.self.now in
    let done = joins l.figures c.args.new c.args.order l.book c.enter.result c.enter.new.self c.enter.ensures l.unit l.fits c.requires.1 c.requires.3 in
    record {
      fit = accepted_fits l.figures l.fit c.requires.2;
      fits = ap (list_all (order_fits (with_accepted l.figures))) done.0 ∙ joined_fit l.figures c.args.new c.args.order (orders_of l.book) l.fits c.requires.1;
      unit = done.1 ∙ l.unit;
    }

pub returns : goal.returns
returns c =
    let l = c.args.self.now in
    let done = joins l.figures c.args.new c.args.order l.book c.enter.result c.enter.new.self c.enter.ensures l.unit l.fits c.requires.1 c.requires.3 in
    ap (λ (xs : List Order). record { figures = with_accepted l.figures; book = xs }) (done.0 ∙ sym (ap (λ o. joined o (orders_of l.book)) c.requires.1))
