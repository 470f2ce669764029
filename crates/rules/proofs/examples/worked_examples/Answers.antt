use Rattle.std.proofs.Common.{refl}
use Rattle.book.specs.Sales.{ahead, matched, reach}
use Rattle.rules.proofs.examples.worked_examples.Goals as goal

pub returns : goal.returns
unfolding ahead matched reach
returns c =
    record {
      both = refl;
      at_sale_price = refl;
      short_waits = refl;
      short_filled = refl;
      zero_plus = refl;
      minus_tick = refl;
      stop_waits = refl;
      stop_filled = refl;
      timer_waits = refl;
      timer_fills = refl;
      opening_limit = refl;
      opening_market = refl;
      size_99 = (refl, refl);
      size_100 = refl;
      size_0 = refl;
    }
