use Rattle.std.proofs.Common.{◌≡◌, ◌++◌, map, take, drop}
use Rattle.book.specs.Sales.{elect}
use Rattle.book.proofs.settle.elect_all.Given as goal

abbrev pub invariant-loop-order : goal.invariant-loop-order
invariant-loop-order l =
    l.order-items ≡ map (elect l.price) (take l.order-index l.initial.order-items) ++ drop l.order-index l.initial.order-items
