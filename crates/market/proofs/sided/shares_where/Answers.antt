use Rattle.std.proofs.Common.{ℕ, cond, sum_by, sym, ap, ◌∙◌, arith, length-take}
use Rattle.market.specs.Sums.{shares_on, counted}
use Rattle.market.proofs.Fronts.{sum_more, sum_kept, all_counted}
use Rattle.market.proofs.sided.shares_where.Goals as goal

pub loop-record-preserved : goal.loop-record-preserved
loop-record-preserved g c =
    let m = g.T.Sided in
    (omega arith, omega arith, sum_more (λ x. cond (g.C.Test.passes c.args.test.now x) (shares_on c.args.which (m.side x) (m.shares x)) 0) _ _ _ _ c.record-item.result c.loop-record-test.true c.loop-record.invariant.2 c.record-item.is (c.from-sum.ensures ∙ c.tested_share.ensures))

pub returns : goal.returns
returns g c =
    let m = g.T.Sided in
    let p = g.C.Test.passes c.args.test.now in
    let f : g.row.T.Denot → ℕ = λ x. shares_on c.args.which (m.side x) (m.shares x) in
    record {
      value = c.loop-record.invariant.2 ∙ ap (sum_by (λ x. cond (p x) (f x) 0)) (all_counted c.min.result c.loop-record.record-index c.args.records.now c.min.ensures c.loop-record-test.false) ∙ sym (sum_kept f p (counted c.args.records.now));
      bound = omega (arith, simp length-take at c.loop-record.invariant.0);
    }
