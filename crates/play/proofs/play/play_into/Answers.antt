use Rattle.std.proofs.Common.{ℕ, List, Some, None, Ok, sym, subst, rules}
use Rattle.play.specs.Plays.{Played}
use Rattle.play.specs.Runs.{run_of}
use Rattle.play.specs.Steps.{Finished}
use Rattle.play.specs.declared.line.Line.{Line}
use Rattle.play.proofs.Finishing.{played}
use Rattle.play.proofs.play.play_into.Goals as goal

-- `name`: the page still holds the bytes that were lent to it, so that they are what it left there
pub returns-in-Ok : goal.returns-in-Ok
returns-in-Ok c =
    let f = c.in-Ok.ensures _ c.new-page.ensures in
    let name = (c.finish.ensures.wrote _ (run_of f.0).lines f.3).lender in
    let done = subst (λ (l : Line). Finished l (Ok tt) c.play_file.new.page c.finish.new.self c.finish.result) f.2 c.finish.ensures in
    subst (λ (out : List ℕ). Played c.args.file.now c.args.out.now out c.finish.result) (sym (search rules))
    (played _ _ _ _ _ f.0 None f.1 f.3 done)

pub returns-in-Err : goal.returns-in-Err
returns-in-Err c =
    let f = c.in-Err.ensures _ c.new-page.ensures in
    let name = (c.finish-in-Err.ensures.wrote _ (run_of f.0).lines f.2).lender in
    subst (λ (out : List ℕ). Played c.args.file.now c.args.out.now out c.finish-in-Err.result) (sym (search rules))
    (played _ _ _ _ _ f.0 (Some c.in-Err.fault) f.1 f.2 c.finish-in-Err.ensures)
