use Rattle.std.proofs.Common.{refl, arith, rules}
use Rattle.std.proofs.lemmas.Int.{ints}
use Rattle.ledger.specs.Journals.{owed_of, paid_of}
use Rattle.ledger.proofs.Added.{none_written}
use Rattle.ledger.proofs.journal.Journal.new.Goals as goal

pub returns : goal.returns
returns c =
    record {
      numbers = record {
        shares = omega (arith, ints, none_written owed_of c.args.rows.now);
        money = omega (arith, ints, none_written paid_of c.args.rows.now);
        places = search rules;
      };
      rows = refl;
      lender = refl;
      start = refl;
      used = refl;
    }
