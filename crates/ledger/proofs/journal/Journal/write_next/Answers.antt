use Rattle.std.proofs.Common.{◌<◌, min, length, refl, length-set, rules}
use Rattle.ledger.proofs.Added.{shares_more, money_more, place_used}
use Rattle.ledger.proofs.journal.Journal.write_next.Goals as goal

pub returns : goal.returns
returns c =
    let j = c.args.self.now in
    let next : j.used < min (length j.rows.now) 65536 = search rules in
    record {
      moved = record {
        shares = shares_more j.start.now.shares j.rows.now j.used _ next;
        money = money_more j.start.now.money j.rows.now j.used _ next;
        places = simp length-set (place_used j.start.now.good (min (length j.rows.now) 65536) j.used);
      };
      written = (_, refl, refl, refl);
      lender = refl;
    }
