use Rattle.std.proofs.Common.{List, map, subst}
use Rattle.std.proofs.lemmas.List.{take_all}
use Rattle.book.specs.declared.row.Row.{Row as BookRow}
use Rattle.play.specs.Pages.{Wrote}
use Rattle.play.specs.declared.line.Line.TheVariants.{Row}
use Rattle.play.proofs.Paged.{wrote_none, wrote_row}
use Rattle.play.proofs.page.Page.print_rows.Goals as goal

pub loop-row-init : goal.loop-row-init
loop-row-init c = wrote_none c.args.self.now

pub loop-row-preserved : goal.loop-row-preserved
loop-row-preserved c =
    wrote_row _ _ _ _ _ c.loop-row-test.true c.loop-row.invariant c.print.ensures

pub returns : goal.returns
returns c =
    subst (λ (xs : List BookRow). Wrote (map Row xs) c.args.self.now c.loop-row.self) (take_all c.loop-row.row-index c.args.rows.now c.loop-row-test.false) c.loop-row.invariant
