use Rattle.std.proofs.Common.{ap, ◌∙◌}
use Rattle.market.specs.Sums.{counted, sum_on}
use Rattle.market.proofs.Fronts.{kept_every}
use Rattle.market.proofs.sided.shares_on.Goals as goal

pub returns : goal.returns
returns g c =
    let m = g.T.Sided in
    record {
      value = c.shares_where.ensures.value ∙ ap (sum_on m.side m.shares c.args.which) (kept_every (counted c.args.records.now));
      bound = c.shares_where.ensures.bound;
    }
