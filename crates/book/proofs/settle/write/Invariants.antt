use Rattle.std.proofs.Common.{◌≡◌, ◌≤◌, ◌++◌, length, take, drop}
use Rattle.book.specs.Passes.{rows_by}
use Rattle.book.proofs.settle.write.Given as goal

abbrev pub invariant-loop-order : goal.invariant-loop-order
invariant-loop-order g l =
    let front = rows_by (g.P.Pass.leaves l.pass) (take l.order-index l.orders) in
    (l.report ≡ front ++ drop l.n l.initial.report) × (l.n ≡ length front) × (l.n ≤ l.order-index)
