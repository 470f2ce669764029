use Rattle.std.proofs.Common.{◌+◌, ◌<◌, ◌++◌, length, take, drop, sym, ap, ◌∙◌, arith}
use Rattle.std.proofs.lemmas.List.{length_push}
use Rattle.book.specs.Passes.{rows_by}
use Rattle.book.proofs.Rows.{rows_room, rows_more_yes, rows_more_no, write_more}
use Rattle.book.proofs.settle.write.Goals as goal
use Rattle.book.proofs.settle.write.Goals.{in-Some, in_default}

pub bounds-report-n : goal.bounds-report-n
bounds-report-n g c =
    let l = c.loop-order in
    let at = sym c.in-Some.is ∙ c.row.ensures in
    let room = rows_room (g.P.Pass.leaves c.args.pass.now) c.args.orders.now l.order-index l.n (length c.args.report.now) c.in-Some.row c.loop-order-test.true at l.invariant.1 c.requires in
    omega arith

pub loop-order-preserved : goal.loop-order-preserved
loop-order-preserved g c =
    let f = g.P.Pass.leaves c.args.pass.now in
    let xs = c.args.orders.now in
    let l = c.loop-order in
    let i = l.order-index in
    let zs = c.args.report.now in
    elim c.match-row.branch [
      | in-Some w ↦
          let at = sym w.in-Some.is ∙ c.row.ensures in
          let r = w.in-Some.row in
          let within = c.loop-order-test.true in
          let room : l.n < length zs = rows_room f xs i l.n (length zs) r within at l.invariant.1 c.requires in
          let more = ap length (rows_more_yes f xs i r within at) ∙ length_push (rows_by f (take i xs)) r in (
            w.report-is ∙ write_more f xs i l.n r l.report zs within at l.invariant.0 l.invariant.1 room ∙ ap (λ m. rows_by f (take (i + 1) xs) ++ drop m zs) (sym w.n-is),
            omega (arith, w.n-is, more, l.invariant.1),
            omega (arith, w.n-is),
          )
      | in_default w ↦
          let at = sym w.in_default.is ∙ c.row.ensures in
          let same = rows_more_no f xs i c.loop-order-test.true at in
          (rw (w.report-is, w.n-is, same) l.invariant.0, rw (w.n-is, same) l.invariant.1, omega (arith, w.n-is))
    ]
