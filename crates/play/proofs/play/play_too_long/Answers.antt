use Rattle.std.proofs.Common.{ℕ, List, [], Some, sym, subst, rules}
use Rattle.dayfile.specs.Files.{FileReads, too_long}
use Rattle.dayfile.specs.declared.fault.Fault.{Fault}
use Rattle.play.specs.Plays.{Played}
use Rattle.play.proofs.Finishing.{played}
use Rattle.play.proofs.play.play_too_long.Goals as goal

pub returns : goal.returns
returns c file long =
    let f = c.too_long-fault.result in
    let reads = subst (λ (x : Fault). FileReads file [] (Some x)) (sym c.too_long-fault.ensures) (too_long long) in
    let name = (c.finish.ensures.wrote _ [] c.new.ensures).lender in
    subst (λ (out : List ℕ). Played file c.args.out.now out c.finish.result) (sym (search rules))
    (played _ _ _ _ _ [] (Some f) reads c.new.ensures c.finish.ensures)
