use Rattle.std.proofs.Common.{map, take}
use Rattle.play.specs.Pages.{Wrote}
use Rattle.play.specs.declared.line.Line.TheVariants.{Row}
use Rattle.play.proofs.page.Page.print_rows.Given as goal

abbrev pub invariant-loop-row : goal.invariant-loop-row
invariant-loop-row l = Wrote (map Row (take l.row-index l.rows)) l.initial.self l.self
