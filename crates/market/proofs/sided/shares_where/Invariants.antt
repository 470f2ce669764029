use Rattle.std.proofs.Common.{◌≡◌, ◌*◌, ◌≤◌, cond, length, take, sum_by}
use Rattle.market.specs.Sums.{shares_on}
use Rattle.market.proofs.sided.shares_where.Given as goal

abbrev pub invariant-loop-record : goal.invariant-loop-record
invariant-loop-record g l =
    let m = g.T.Sided in
    (l.record-index ≤ length l.first)
    × (l.sum ≤ 4294967295 * l.record-index)
    × (l.sum ≡ sum_by (λ x. cond (g.C.Test.passes l.test x) (shares_on l.which (m.side x) (m.shares x)) 0) (take l.record-index l.first))
