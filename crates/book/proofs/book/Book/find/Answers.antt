use Rattle.std.proofs.Common.{◌≡◌, true, ap, ◌∙◌, rules}
use Rattle.std.proofs.lemmas.List.Sorted.{answers_always}
use Rattle.book.specs.Orders.{find_in, rises}
use Rattle.book.proofs.Finding.{at_found, at_none}
use Rattle.book.proofs.book.Book.find.Goals as goal

pub returns-in-Ok : goal.returns-in-Ok
returns-in-Ok c =
    let xs = c.as_slice-orders.result.now in
    let here = c.as_slice-orders.ensures.value in
    let rising : rises xs ≡ true = ap rises here ∙ c.args.self.now.rising in
    let facts = c.in-Ok.ensures in
    at_found xs rising c.args.number c.in-Ok.at facts.bound (facts.position (λ o. o.number) (answers_always _ _ _ (λ f a r g called. search rules)))
    ∙ ap (find_in c.args.number) here

pub returns-in-Err : goal.returns-in-Err
returns-in-Err c =
    let xs = c.as_slice-orders.result.now in
    let here = c.as_slice-orders.ensures.value in
    let rising : rises xs ≡ true = ap rises here ∙ c.args.self.now.rising in
    let facts = c.in-Err.ensures in
    at_none xs rising c.args.number c.in-Err.field-0 (facts.position (λ o. o.number) (answers_always _ _ _ (λ f a r g called. search rules)))
    ∙ ap (find_in c.args.number) here
