use Rattle.std.proofs.Common.{◌≡◌, true, rules}
use Rattle.dayfile.specs.Faults.{gaps_clear}
use Rattle.dayfile.proofs.Prices.{stands_order}
use Rattle.dayfile.proofs.word.Rest.order.Goals as goal

pub returns : goal.returns
returns c =
    let clear : gaps_clear c.args.word.value ≡ true = search rules in
    stands_order c.args.self c.args.word c.in_ok-part.part c.requires.read c.requires.kind clear (rw c.after_order.ensures at c.in_ok-part.ensures)
