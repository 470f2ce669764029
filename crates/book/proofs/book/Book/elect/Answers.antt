use Rattle.std.proofs.Common.{length, vec_items, ap, ◌∙◌, arith}
use Rattle.std.specs.List.{list_all}
use Rattle.std.proofs.lemmas.List.{length-map}
use Rattle.book.specs.Orders.{lawful, rises}
use Rattle.book.specs.Sales.{elect}
use Rattle.book.proofs.Books.{lawful_elect, rises_elect}
use Rattle.book.proofs.book.Book.elect.Goals as goal

pub invariant_of-self : goal.invariant_of-self
invariant_of-self c =
    let b = c.args.self.now in
    let book = vec_items b.orders in
    let items = c.elect_all.ensures.items in
    record {
      few = omega (arith, ap length items, length-map book (elect c.args.price), b.few, b.orders.ok.0, c.elect_all.new.orders.ok.0);
      reserved = omega (arith, c.elect_all.ensures.capacity, b.reserved);
      units = b.units;
      lawful = ap (list_all (lawful b.unit)) items ∙ lawful_elect b.unit c.args.price book ∙ b.lawful;
      rising = ap rises items ∙ rises_elect c.args.price book ∙ b.rising;
    }
