use Rattle.std.proofs.Common.{List, map, subst}
use Rattle.book.specs.declared.row.Row.{Row}
use Rattle.rules.specs.Machine.{rows_of}
use Rattle.day.specs.Days.{state_of}
use Rattle.play.specs.Pages.{Wrote}
use Rattle.play.specs.declared.line.Line.TheVariants.{Row as RowLine}
use Rattle.play.proofs.Running.{advanced_refused, advanced_rows, rows_front}
use Rattle.play.proofs.calls.play_call.Goals as goal

pub returns-in-Ok : goal.returns-in-Ok
returns-in-Ok c =
    let done = c.in-Ok.ensures in
    let rows = rows_front (rows_of (state_of c.args.day.now.live) c.args.call) c.args.report.now c.make_call.new.report c.in-Ok.n done.2 done.1.0 in
    let wrote = subst (λ (l : List Row). Wrote (map RowLine l) c.args.page.now c.print_rows.new.self) rows c.print_rows.ensures in
    advanced_rows _ _ _ _ _ _ _ _ _ _ _ c.requires done wrote

pub returns-in-Err : goal.returns-in-Err
returns-in-Err c = advanced_refused c.args.call _ _ c.args.report.now _ c.in-Err.reason _ c.make_call.new.report _ _ _ c.requires c.in-Err.ensures c.print.ensures
