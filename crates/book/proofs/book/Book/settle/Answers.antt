use Rattle.std.proofs.Common.{◌≡◌, Bool, true, not, List, length, is_some, vec_items, sym, refl, ap, subst, arith, rules}
use Rattle.std.specs.List.{list_all}
use Rattle.std.proofs.lemmas.Fn.{filter_same}
use Rattle.book.specs.Orders.{lawful, rises}
use Rattle.book.specs.declared.order.Order.{Order}
use Rattle.book.proofs.Books.{kept_le, pass_kept, rises_kept}
use Rattle.book.proofs.book.Book.settle.Goals as goal

pub invariant_of-self : goal.invariant_of-self
invariant_of-self g c =
    let b = c.args.self.now in
    let book = vec_items b.orders in
    let p : Order → Bool = λ o. not (is_some (g.P.Pass.leaves c.args.pass.now o)) in
    let items = filter_same _ p _ (λ x b f' k. search rules) _ _ c.retain.ensures.filtered in
    record {
      few = omega (arith, ap length items, kept_le p book, b.few, b.orders.ok.0, c.retain.new.self.ok.0);
      reserved = omega (arith, c.retain.ensures.capacity, b.reserved);
      units = b.units;
      lawful = subst (λ (l : List Order). list_all (lawful b.unit) l ≡ true) (sym items) (pass_kept (lawful b.unit) p book b.lawful);
      rising = subst (λ (l : List Order). rises l ≡ true) (sym items) (rises_kept p book b.rising);
    }

pub returns : goal.returns
returns g c = record { orders = filter_same _ _ _ (λ x b f' k. search rules) _ _ c.retain.ensures.filtered; unit = refl }
