use Rattle.std.proofs.Common.{◌≡◌, true, List, vec_items, sym, subst, rules}
use Rattle.std.specs.List.{list_all}
use Rattle.book.specs.Orders.{is_new, lawful, rises}
use Rattle.book.specs.declared.order.Order.{Order}
use Rattle.market.proofs.Passing.{pass_push}
use Rattle.book.proofs.Books.{rises_push}
use Rattle.book.proofs.book.Book.enter.Goals as goal

pub invariant_of-self : goal.invariant_of-self
invariant_of-self c =
    let b = c.args.self.now in
    let book = vec_items b.orders in
    let o = c.args.order in
    let items = c.push_reserved.ensures.items in
    let good : lawful b.unit o ≡ true = search rules in
    let new : is_new o.number book ≡ true = search rules in
    record {
      few = search rules;
      reserved = search rules;
      units = b.units;
      lawful = subst (λ (l : List Order). list_all (lawful b.unit) l ≡ true) (sym items) (pass_push (lawful b.unit) book o b.lawful good);
      rising = subst (λ (l : List Order). rises l ≡ true) (sym items) (rises_push book o b.rising new);
    }
