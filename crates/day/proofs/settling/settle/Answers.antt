use Rattle.std.proofs.Common.{◌≤◌, List, length, ap, ◌∙◌, subst, arith, rules}
use Rattle.std.specs.List.{list_all}
use Rattle.book.specs.Books.{orders_of}
use Rattle.book.specs.Passes.{rows_by}
use Rattle.book.specs.declared.row.Row.{Row}
use Rattle.rules.specs.Machine.{fills_of, is_posted_well}
use Rattle.rules.specs.Steps.{PostedOnce}
use Rattle.day.proofs.Postings.{reported_front, room_enough}
use Rattle.day.proofs.settling.settle.Goals as goal

pub post_rows-requires : goal.post_rows-requires
post_rows-requires g c =
    let rows = rows_by (g.P.Pass.leaves c.args.pass.now) (orders_of c.args.book.now) in
    let fit : c.count-n.result ≤ length c.args.report.now = search rules in
    let front = reported_front rows c.args.report.now c.report.new.report c.count-n.result c.report.result c.report.ensures c.count-n.ensures fit in
    let few : length (fills_of rows) ≤ (g.L.Ledger.numbers c.args.ledger.now).places = omega (arith, c.if-places-count_fills.false, c.count_fills.ensures ∙ ap (λ l. length (fills_of (rows_by (g.P.Pass.leaves c.args.pass.now) l))) c.orders.ensures, c.places.ensures) in
    record { fields = ap (list_all is_posted_well) front.0 ∙ c.requires; room = omega (arith, ap (λ l. length (fills_of l)) front.0, few) }

pub returns : goal.returns
returns g c =
    let at = g.L.Ledger.numbers in
    let rows = rows_by (g.P.Pass.leaves c.args.pass.now) (orders_of c.args.book.now) in
    let fit : c.count-n.result ≤ length c.args.report.now = search rules in
    let front = reported_front rows c.args.report.now c.report.new.report c.count-n.result c.report.result c.report.ensures c.count-n.ensures fit in
    let few : length (fills_of rows) ≤ (at c.args.ledger.now).places = omega (arith, c.if-places-count_fills.false, c.count_fills.ensures ∙ ap (λ l. length (fills_of (rows_by (g.P.Pass.leaves c.args.pass.now) l))) c.orders.ensures, c.places.ensures) in (
      room_enough rows (length c.args.report.now) (at c.args.ledger.now).places (omega (arith, fit, c.count-n.ensures)) few,
      c.count-n.ensures,
      front.1,
      (c.settle.ensures.orders, c.settle.ensures.unit),
      subst (λ (l : List Row). PostedOnce (at c.args.ledger.now) (fills_of l) (at c.post_rows.new.ledger)) front.0 c.post_rows.ensures,
    )
