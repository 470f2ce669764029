use Rattle.std.proofs.Common.{◌≡◌, ◌*◌, ◌<◌, ◌≤◌, length, take, sum_by}
use Rattle.book.proofs.Ahead.{weight}
use Rattle.book.proofs.book.Book.cut.Given as goal

abbrev pub invariant-loop-order : goal.invariant-loop-order
invariant-loop-order l =
    (l.sum ≡ sum_by (weight l.sale l.which) (take l.order-index l.order-items))
    × (l.sum ≤ 4294967295 * l.order-index)
    × (l.sum < l.limit)
    × (l.order-index ≤ length l.order-items)
